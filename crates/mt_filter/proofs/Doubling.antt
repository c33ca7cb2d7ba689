-- Quotes that are doubled and made one again.
use Rattle.std.proofs.Common.{◌≡◌, ◌∙◌, ℕ, suc, ◌<◌, ◌≤◌, ◌==◌, Bool, true, false, if◌then◌else◌, List, [], ◌∷◌, ◌++◌, length, get_or, inl, inr, refl, sym, ap, subst, arith, append-nil}
use Rattle.std.specs.Str.{IsUtf8, chars}
use Rattle.std.proofs.lemmas.Bool.{and_parts, cases_lt}
use Rattle.std.proofs.lemmas.Grind.{flat_map-append}
use Rattle.std.proofs.lemmas.Str.{encode_ascii, inside_one, encodes-chars, chars-encodes, scalars-chars}
use lib.Utf8.{scalar, scalars, encode, encodes}
use Rattle.mt_filter.specs.Literal.{single_quotes, undoubled}
use Rattle.mt_filter.specs.Quoted.{doubled}

single_by : (c : ℕ) (text : List ℕ) (t : Bool) → (c == 39) ≡ t → single_quotes false (doubled text) ≡ text → single_quotes false (doubled (c ∷ text)) ≡ c ∷ text
single_by c text true e ih =
    let is : 39 ≡ c = grind (arith, e) in
    rw e (ap (λ (xs : List ℕ). 39 ∷ xs) ih ∙ ap (λ (q : ℕ). q ∷ text) is)
single_by c text false e ih = rw (e, e) (ap (λ (xs : List ℕ). c ∷ xs) ih)

-- one quote for each two gives the text back
pub singles_of_doubled : (text : List ℕ) → single_quotes false (doubled text) ≡ text
singles_of_doubled [] = refl
singles_of_doubled (c ∷ text) = single_by c text (c == 39) refl (singles_of_doubled text)

plain : (xs : List ℕ) → ((k : ℕ) → k < length xs → 128 ≤ get_or xs k 0) → doubled xs ≡ xs
plain [] high = refl
plain (x ∷ xs) high =
    let big : 128 ≤ x = high 0 (omega arith) in
    let other : (x == 39) ≡ false = grind (arith, big) in
    rw other (ap (λ (ys : List ℕ). x ∷ ys) (plain xs (λ k below. high (suc k) (omega arith))))

-- no byte of another character is a quote
plain_character : (c : ℕ) → (c == 39) ≡ false → doubled (encode c) ≡ encode c
plain_character c e = elim (cases_lt c 128) [
  | inl small ↦ rw (encode_ascii c small, e) refl
  | inr big ↦ plain (encode c) (λ k below. elim (cases_lt (get_or (encode c) k 0) 128) [
    | inl low ↦ absurd (omega (arith, inside_one c [] (encode c) k (sym (append-nil _)) below low))
    | inr h ↦ h
  ])
]

doubled_by : (c : ℕ) (cs : List ℕ) (t : Bool) → (c == 39) ≡ t → doubled (encodes cs) ≡ encodes (doubled cs) → doubled (encodes (c ∷ cs)) ≡ encodes (doubled (c ∷ cs))
doubled_by c cs true e ih =
    let is : c ≡ 39 = grind (arith, e) in
    subst (λ (d : ℕ). doubled (encodes (d ∷ cs)) ≡ encodes (doubled (d ∷ cs))) (sym is)
    (rw (encode_ascii 39 (omega arith)) (ap (λ (xs : List ℕ). 39 ∷ 39 ∷ xs) ih))
doubled_by c cs false e ih =
    let apart = flat_map-append (λ (b : ℕ). if b == 39 then 39 ∷ 39 ∷ [] else b ∷ []) (encode c) (encodes cs) in
    rw e (apart ∙ ap (λ (xs : List ℕ). xs ++ doubled (encodes cs)) (plain_character c e) ∙ ap (λ (xs : List ℕ). encode c ++ xs) ih)

-- doubling the quotes of the characters doubles those of the bytes
doubled_encodes : (cs : List ℕ) → doubled (encodes cs) ≡ encodes (doubled cs)
doubled_encodes [] = refl
doubled_encodes (c ∷ cs) = doubled_by c cs (c == 39) refl (doubled_encodes cs)

scalars_by : (c : ℕ) (cs : List ℕ) (t : Bool) → (c == 39) ≡ t → scalar c ≡ true → scalars (doubled cs) ≡ true → scalars (doubled (c ∷ cs)) ≡ true
scalars_by c cs true e one rest = rw e rest
scalars_by c cs false e one rest = rw (e, one) rest

scalars_doubled : (cs : List ℕ) → scalars cs ≡ true → scalars (doubled cs) ≡ true
scalars_doubled [] all = refl
scalars_doubled (c ∷ cs) all =
    let both = and_parts (scalar c) (scalars cs) all in
    scalars_by c cs (c == 39) refl both.0 (scalars_doubled cs both.1)

-- the text of an inside is the one that it doubles
pub text_of_doubled : (text : List ℕ) → IsUtf8 text → undoubled (doubled text) ≡ text
text_of_doubled text u =
    let cs = chars text in
    let spelled : encodes cs ≡ text = encodes-chars text u in
    let inside : doubled text ≡ encodes (doubled cs) = ap doubled (sym spelled) ∙ doubled_encodes cs in
    let characters : chars (doubled text) ≡ doubled cs = ap chars inside ∙ chars-encodes (doubled cs) (scalars_doubled cs (scalars-chars text u)) in
    ap (λ (xs : List ℕ). encodes (single_quotes false xs)) characters ∙ ap encodes (singles_of_doubled cs) ∙ spelled
