-- A tag's text is read back, and no other text is read.
use Rattle.std.proofs.Common.{◌≡◌, ◌≢◌, ℕ, suc, ◌<◌, ◌^◌, Bool, true, false, cond, ◌&&◌, ◌==◌, List, [], ◌∷◌, ◌++◌, length, get_or, Some, None, refl, sym, ap, subst, ◌∙◌, arith, decimal, append_assoc}
use Rattle.std.specs.Prelude.{nat_lt, bytes_eq, drop}
use Rattle.std.specs.Str.Parse.{digits_value}
use Rattle.std.proofs.lemmas.Bool.{ne_eqb, eq-eqb, lt-ltb, ltb-true}
use Rattle.std.proofs.lemmas.Slice.Eq.{bytes_eq-Decides}
use Rattle.std.proofs.lemmas.Fmt.{decimal_is_IsNumeral}
use Rattle.std.proofs.lemmas.Str.Parse.{digit_at}
use Rattle.mt_model.specs.declared.tag.Tag.{Tag}
use Rattle.mt_model.specs.Tag.{tag_text, IsTag}
use Rattle.mt_meta.specs.TagTexts.{before, after, spelled, is_tag, read_tag}

-- the byte is not in the list
abbrev Lacks : ℕ → List ℕ → Type 0
Lacks b xs = (i : ℕ) → i < length xs → get_or xs i 0 ≢ b

lacks_rest : (b x : ℕ) (xs : List ℕ) → Lacks b (x ∷ xs) → Lacks b xs
lacks_rest b x xs h i inside e = h (suc i) (omega (arith, inside)) e

lacks_first : (b x : ℕ) (xs : List ℕ) → Lacks b (x ∷ xs) → (x == b) ≡ false
lacks_first b x xs h = ne_eqb x b (h 0 (omega arith))

before_is : (b : ℕ) (xs ys : List ℕ) → Lacks b xs → before b (xs ++ b ∷ ys) ≡ xs
before_is b [] ys h = rw (eq-eqb b b refl) refl
before_is b (x ∷ xs) ys h = rw (lacks_first b x xs h, before_is b xs ys (lacks_rest b x xs h)) refl

after_is : (b : ℕ) (xs ys : List ℕ) → Lacks b xs → after b (xs ++ b ∷ ys) ≡ ys
after_is b [] ys h = rw (eq-eqb b b refl) refl
after_is b (x ∷ xs) ys h = rw (lacks_first b x xs h) (after_is b xs ys (lacks_rest b x xs h))

lacks_digit : (b n : ℕ) → b < 48 → n < 2 ^ 64 → Lacks b (decimal n)
lacks_digit b n low small i inside e =
    let digit = digit_at (decimal n) i (decimal_is_IsNumeral n small).0.1 inside in
    absurd (omega (arith, digit.0, e, low))

inner_is : (t : Tag) → drop 3 (tag_text t) ≡ decimal t.store ++ 46 ∷ (decimal t.n ++ 34 ∷ [])
inner_is t = append_assoc (decimal t.store) (46 ∷ decimal t.n) (34 ∷ [])

store_is : (t : Tag) → IsTag t → digits_value 10 (before 46 (drop 3 (tag_text t))) ≡ t.store
store_is t h =
    let small : t.store < 2 ^ 64 = omega (arith, h.0) in
    let cut : before 46 (drop 3 (tag_text t)) ≡ decimal t.store =
    ap (before 46) (inner_is t) ∙ before_is 46 (decimal t.store) (decimal t.n ++ 34 ∷ []) (lacks_digit 46 t.store (omega arith) small) in
    ap (digits_value 10) cut ∙ (decimal_is_IsNumeral t.store small).1

n_is : (t : Tag) → IsTag t → digits_value 10 (before 34 (after 46 (tag_text t))) ≡ t.n
n_is t h =
    let small : t.store < 2 ^ 64 = omega (arith, h.0) in
    let rest : after 46 (tag_text t) ≡ decimal t.n ++ 34 ∷ [] =
    ap (after 46) (inner_is t) ∙ after_is 46 (decimal t.store) (decimal t.n ++ 34 ∷ []) (lacks_digit 46 t.store (omega arith) small) in
    let cut : before 34 (after 46 (tag_text t)) ≡ decimal t.n =
    ap (before 34) rest ∙ before_is 34 (decimal t.n) [] (lacks_digit 34 t.n (omega arith) h.1) in
    ap (digits_value 10) cut ∙ (decimal_is_IsNumeral t.n h.1).1

abbrev tag_with : ℕ → ℕ → Tag
tag_with store n = record { store = store; n = n }

same_tag : (t : Tag) (a b : ℕ) → a ≡ t.store → b ≡ t.n → tag_with a b ≡ t
same_tag t a b e f = rw (e, f) refl

spelled_is : (t : Tag) → IsTag t → spelled (tag_text t) ≡ t
spelled_is t h = same_tag t (spelled (tag_text t)).store (spelled (tag_text t)).n (store_is t h) (n_is t h)

is_tag_is : (t : Tag) → IsTag t → is_tag t ≡ true
is_tag_is t h = rw (lt-ltb t.store (2 ^ 32) h.0, lt-ltb t.n (2 ^ 64) h.1) refl

abbrev accepts : List ℕ → Tag → Bool
accepts text s = is_tag s && bytes_eq text (tag_text s)

accepts_own : (t : Tag) → IsTag t → accepts (tag_text t) t ≡ true
accepts_own t h = rw (is_tag_is t h, (bytes_eq-Decides (tag_text t) (tag_text t)).1 refl) refl

-- the text of a tag is read
pub read_is : (t : Tag) → IsTag t → read_tag (tag_text t) ≡ Some t
read_is t h =
    let P : Tag → Type 0 = λ s. cond (accepts (tag_text t) s) (Some s) None ≡ Some t in
    subst P (sym (spelled_is t h)) (rw (accepts_own t h) refl)

-- a text is read as the tag whose text it is
pub text_read : (text : List ℕ) (t : Tag) → IsTag t → text ≡ tag_text t → read_tag text ≡ Some t
text_read text t h e = ap read_tag e ∙ read_is t h

both : (a b : Bool) → (a && b) ≡ true → (a ≡ true) × (b ≡ true)
both true b e = (refl, e)
both false b e = absurd cc

accepted : (text : List ℕ) (s : Tag) → accepts text s ≡ true → IsTag s × (text ≡ tag_text s)
accepted text s e =
    let parts = both (is_tag s) (bytes_eq text (tag_text s)) e in
    let sizes = both (nat_lt s.store (2 ^ 32)) (nat_lt s.n (2 ^ 64)) parts.0 in
    ((ltb-true s.store (2 ^ 32) sizes.0, ltb-true s.n (2 ^ 64) sizes.1), (bytes_eq-Decides text (tag_text s)).0 parts.1)

refused : (b : Bool) (s : Tag) → b ≢ true → cond b (Some s) None ≡ None
refused true s not_so = absurd (not_so refl)
refused false s not_so = refl

-- a text that is no tag's is not read
pub none_read : (text : List ℕ) → ((t : Tag) → IsTag t → text ≢ tag_text t) → read_tag text ≡ None
none_read text none = refused (accepts text (spelled text)) (spelled text) (λ yes.
    let parts = accepted text (spelled text) yes in
    none (spelled text) parts.0 parts.1)
