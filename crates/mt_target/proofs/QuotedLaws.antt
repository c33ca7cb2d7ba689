-- A text in quotes is spelled in one way.
use Rattle.std.proofs.Common.{◌≡◌, ◌≢◌, ℕ, ◌+◌, ◌<◌, ◌==◌, Bool, true, false, cond, List, [], ◌∷◌, ◌++◌, length, get_or, refl, sym, ap, ◌∙◌, arith, subst, append_assoc, length-append, append-nil}
use Rattle.std.specs.Prelude.{Option, Some, None}
use Rattle.std.specs.List.{AllByRecursion, flat_map}
use Rattle.std.proofs.lemmas.Bool.Decides.{Decides-eqb}
use Rattle.std.proofs.lemmas.List.Concat.{flat_map-append}
use Rattle.mt_target.specs.Quoted.{doubled_byte, doubled, quoted, BeginsQuoted}

abbrev pub NoQuote : List ℕ → Type 0
NoQuote bs = AllByRecursion (λ c. c ≢ 39) bs

abbrev pub EndsQuote : List ℕ → Type 0
EndsQuote rest = (more : List ℕ) → rest ≢ 39 ∷ more

is_other : (c : ℕ) → c ≢ 39 → (c == 39) ≡ false
is_other c n = elim (c == 39) as (λ b. (c == 39) ≡ b → (c == 39) ≡ false) [ true ↦ λ e. absurd (n ((Decides-eqb c 39).0 e)) | false ↦ λ e. e ] refl

other_byte : (c : ℕ) → c ≢ 39 → doubled_byte c ≡ c ∷ []
other_byte c n = ap (λ b. cond b (39 ∷ 39 ∷ []) (c ∷ [])) (is_other c n)

pub doubled_plain : (part : List ℕ) → NoQuote part → doubled part ≡ part
doubled_plain [] none = refl
doubled_plain (c ∷ part) none = ap (λ z. z ++ doubled part) (other_byte c none.0) ∙ ap (λ (z : List ℕ). c ∷ z) (doubled_plain part none.1)

pub doubled_then : (a b : List ℕ) → doubled (a ++ b) ≡ doubled a ++ doubled b
doubled_then a b = flat_map-append doubled_byte a b

-- either the byte is a quote or it stands for itself
byte_cases : (c : ℕ) (P : List ℕ → Type 0) → (c ≡ 39 → P (39 ∷ 39 ∷ [])) → (c ≢ 39 → P (c ∷ [])) → P (doubled_byte c)
byte_cases c P at other =
    elim (c == 39) as (λ b. (c == 39) ≡ b → P (cond b (39 ∷ 39 ∷ []) (c ∷ []))) [
      | true ↦ λ e. at ((Decides-eqb c 39).0 e)
      | false ↦ λ e. other (λ same. absurd (let h : true ≡ false = sym ((Decides-eqb c 39).1 same) ∙ e in cc))
    ] refl

-- ---- one text is the beginning of the other

abbrev pub Goes : List ℕ → List ℕ → List ℕ → List ℕ → Type 0
Goes a x u s = (v : List ℕ) × (u ≡ a ++ v) × (x ≡ doubled v ++ 39 ∷ s)

first_same : (c d : ℕ) (x y : List ℕ) → ◌≡◌ {A = List ℕ} (c ∷ x) (d ∷ y) → c ≡ d
first_same c d x y e = cc

rest_same : (c d : ℕ) (x y : List ℕ) → ◌≡◌ {A = List ℕ} (c ∷ x) (d ∷ y) → x ≡ y
rest_same c d x y e = cc

goes_more : (c d : ℕ) (a x u s : List ℕ) → c ≡ d → Goes a x u s → Goes (c ∷ a) x (d ∷ u) s
goes_more c d a x u s same g = (g.0, ap (λ (z : ℕ). z ∷ u) (sym same) ∙ ap (λ (z : List ℕ). c ∷ z) g.1, g.2)

pub goes : (a x u s : List ℕ) → EndsQuote s → doubled a ++ x ≡ doubled u ++ 39 ∷ s → Goes a x u s
goes [] x u s ends e = (u, refl, e)
goes (c ∷ a) x [] s ends e =
    byte_cases c (λ z. (z ++ doubled a) ++ x ≡ 39 ∷ s → Goes (c ∷ a) x [] s)
    (λ at h. absurd (ends (doubled a ++ x) (sym (rest_same 39 39 (39 ∷ (doubled a ++ x)) s h))))
    (λ other h. absurd (other (first_same c 39 (doubled a ++ x) s h)))
    e
goes (c ∷ a) x (d ∷ u) s ends e =
    byte_cases c (λ z. (z ++ doubled a) ++ x ≡ doubled (d ∷ u) ++ 39 ∷ s → Goes (c ∷ a) x (d ∷ u) s)
    (λ at. byte_cases d (λ z. 39 ∷ 39 ∷ (doubled a ++ x) ≡ (z ++ doubled u) ++ 39 ∷ s → Goes (c ∷ a) x (d ∷ u) s)
    (λ at' h. goes_more c d a x u s (at ∙ sym at') (goes a x u s ends (rest_same 39 39 (doubled a ++ x) (doubled u ++ 39 ∷ s) (rest_same 39 39 (39 ∷ (doubled a ++ x)) (39 ∷ (doubled u ++ 39 ∷ s)) h))))
    (λ other h. absurd (other (sym (first_same 39 d (39 ∷ (doubled a ++ x)) (doubled u ++ 39 ∷ s) h)))))
    (λ other. byte_cases d (λ z. c ∷ (doubled a ++ x) ≡ (z ++ doubled u) ++ 39 ∷ s → Goes (c ∷ a) x (d ∷ u) s)
    (λ at' h. absurd (other (first_same c 39 (doubled a ++ x) (39 ∷ (doubled u ++ 39 ∷ s)) h)))
    (λ other' h. goes_more c d a x u s (first_same c d (doubled a ++ x) (doubled u ++ 39 ∷ s) h) (goes a x u s ends (rest_same c d (doubled a ++ x) (doubled u ++ 39 ∷ s) h))))
    e

-- ---- what was read

quoted_is : (text rest : List ℕ) → quoted text ++ rest ≡ 39 ∷ (doubled text ++ 39 ∷ rest)
quoted_is text rest = ap (λ (z : List ℕ). 39 ∷ z) (append_assoc (doubled text) (39 ∷ []) rest)

no_quote_at : (v s : List ℕ) → NoQuote (v ++ 39 ∷ s) → ⊥
no_quote_at [] s none = none.0 refl
no_quote_at (c ∷ v) s none = no_quote_at v s none.1

-- no quote follows that would end the text
pub unclosed : (bytes inner rest u s : List ℕ) → bytes ≡ 39 ∷ (doubled inner ++ rest) → NoQuote rest → BeginsQuoted bytes u s → ⊥
unclosed bytes inner rest u s at none b =
    let g = goes inner rest u s b.ends (rest_same 39 39 (doubled inner ++ rest) (doubled u ++ 39 ∷ s) (sym at ∙ b.whole ∙ quoted_is u s)) in
    no_quote_at (doubled g.0) s (subst NoQuote g.2 none)

pub same_quoted : (bytes t r u s : List ℕ) → BeginsQuoted bytes t r → BeginsQuoted bytes u s → (t ≡ u) × (r ≡ s)
same_quoted bytes t r u s b k =
    let e : doubled t ++ 39 ∷ r ≡ doubled u ++ 39 ∷ s = rest_same 39 39 (doubled t ++ 39 ∷ r) (doubled u ++ 39 ∷ s) (sym (quoted_is t r) ∙ sym b.whole ∙ k.whole ∙ quoted_is u s) in
    let g = goes t (39 ∷ r) u s k.ends e in
    elim g.0 as (λ v. u ≡ t ++ v → 39 ∷ r ≡ doubled v ++ 39 ∷ s → (t ≡ u) × (r ≡ s)) [
      | [] ↦ λ f h. (sym (f ∙ append-nil t), rest_same 39 39 r s h)
      | c ∷ v ↦ λ f h. absurd (byte_cases c (λ z. 39 ∷ r ≡ (z ++ doubled v) ++ 39 ∷ s → ⊥)
          (λ at i. b.ends (doubled v ++ 39 ∷ s) (rest_same 39 39 r (39 ∷ (doubled v ++ 39 ∷ s)) i))
          (λ other i. other (sym (first_same 39 c r (doubled v ++ 39 ∷ s) i))) h)
    ] g.1 g.2

-- ---- steps of the reading

pub quotes_step : (bytes inner rest part behind more : List ℕ) → bytes ≡ 39 ∷ (doubled inner ++ rest) → rest ≡ part ++ 39 ∷ behind → NoQuote part → behind ≡ 39 ∷ more
    → bytes ≡ 39 ∷ (doubled ((inner ++ part) ++ 39 ∷ []) ++ more)
quotes_step bytes inner rest part behind more at is plain again =
    let twice : doubled ((inner ++ part) ++ 39 ∷ []) ≡ (doubled inner ++ part) ++ 39 ∷ 39 ∷ [] =
    doubled_then (inner ++ part) (39 ∷ []) ∙ ap (λ z. z ++ 39 ∷ 39 ∷ []) (doubled_then inner part ∙ ap (λ z. doubled inner ++ z) (doubled_plain part plain)) in
    at ∙ ap (λ z. 39 ∷ (doubled inner ++ z)) (is ∙ ap (λ (z : List ℕ). part ++ 39 ∷ z) again)
    ∙ ap (λ (z : List ℕ). 39 ∷ z) (sym (append_assoc (doubled inner) part (39 ∷ 39 ∷ more)) ∙ sym (append_assoc (doubled inner ++ part) (39 ∷ 39 ∷ []) more) ∙ ap (λ z. z ++ more) (sym twice))

pub quotes_end : (bytes inner rest part behind : List ℕ) → bytes ≡ 39 ∷ (doubled inner ++ rest) → rest ≡ part ++ 39 ∷ behind → NoQuote part → EndsQuote behind → BeginsQuoted bytes (inner ++ part) behind
quotes_end bytes inner rest part behind at is plain ends = record {
  whole = at ∙ ap (λ z. 39 ∷ (doubled inner ++ z)) is ∙ ap (λ (z : List ℕ). 39 ∷ z) (sym (append_assoc (doubled inner) part (39 ∷ behind)) ∙ ap (λ z. z ++ 39 ∷ behind) (sym (doubled_then inner part ∙ ap (λ z. doubled inner ++ z) (doubled_plain part plain)))) ∙ sym (quoted_is (inner ++ part) behind);
  ends = ends;
}
