-- The bytes of UTF-8.
use Rattle.std.proofs.Common.{◌≡◌, ℕ, zero, suc, ◌<◌, true, ltb, List, [], ◌∷◌, ◌++◌, arith, subst, inl, inr, ltb-true}
use Rattle.std.specs.Prelude.{IsUtf8}
use Rattle.std.specs.List.{AllByRecursion}
use Rattle.std.proofs.lemmas.Bool.{cond_both, and_parts}
use Rattle.base64.specs.GeneralPurpose.{IsBytes}
use lib.Utf8.{scalar, scalars, encode, encodes, scalar_cases}

abbrev AreBytes : List ℕ → Type 0
AreBytes bs = AllByRecursion (λ b. b < 256) bs

join_bytes : (xs ys : List ℕ) → AreBytes xs → AreBytes ys → AreBytes (xs ++ ys)
join_bytes [] ys a b = b
join_bytes (x ∷ xs) ys a b = (a.0, join_bytes xs ys a.1 b)

-- the one to four bytes of a character
char_bytes : (c : ℕ) → c < 1114112 → AreBytes (encode c)
unfolding encode
char_bytes c h =
    cond_both (ltb c 128) _ _ AreBytes (λ e. (omega (arith, ltb-true c 128 e), tt))
    (λ _. cond_both (ltb c 2048) _ _ AreBytes (λ e. (omega (arith, ltb-true c 2048 e), (omega arith, tt)))
    (λ _. cond_both (ltb c 65536) _ _ AreBytes (λ e. (omega (arith, ltb-true c 65536 e), (omega arith, (omega arith, tt))))
    (λ _. (omega (arith, h), (omega arith, (omega arith, (omega arith, tt)))))))

below : (c : ℕ) → scalar c ≡ true → c < 1114112
below c e = elim (scalar_cases c e) [ inl h ↦ omega (arith, h) | inr h ↦ h.1 ]

chars_bytes : (cs : List ℕ) → scalars cs ≡ true → AreBytes (encodes cs)
chars_bytes [] e = tt
chars_bytes (c ∷ cs) e =
    let both = and_parts (scalar c) (scalars cs) e in
    join_bytes (encode c) (encodes cs) (char_bytes c (below c both.0)) (chars_bytes cs both.1)

by_place : (bs : List ℕ) → AreBytes bs → IsBytes bs
by_place [] h i = omega arith
by_place (b ∷ bs) h zero = h.0
by_place (b ∷ bs) h (suc i) = by_place bs h.1 i

-- each byte of a text is below 256
pub text_bytes : (bs : List ℕ) → IsUtf8 bs → IsBytes bs
text_bytes bs u = subst IsBytes u.1.1 (by_place (encodes u.0) (chars_bytes u.0 u.1.0))
