-- The order of texts.
use Rattle.std.proofs.Common.{◌≡◌, ℕ, zero, suc, Bool, true, false, cond, ◌||◌, ◌==◌, List, [], ◌∷◌, ◌++◌, refl, sym, ap, subst, ◌∙◌, arith, bytes_eq, nat_lt, Less, Equal, Greater, Ordering}
use Rattle.std.proofs.lemmas.Bool.Decides.{nat_tests}
use Rattle.std.proofs.lemmas.Cmp.{nat_cmp_total}
use Rattle.std.specs.Ordering.{nat_cmp, is_lt, is_le, is_eq, ordering_then, ordering_reverse}
use Rattle.std.specs.Cmp.{tied_itself, nat_cmp_is}
use Rattle.std.specs.Cmp.Lexicographic.{slice_cmp, nat_list_cmp_total, texts_ties}
use Rattle.mt_chain.proofs.KeyLaws.{text_true, text_same}

abbrev pub text_cmp : List ℕ → List ℕ → Ordering
text_cmp = slice_cmp nat_cmp

pub or_left : (a b : Bool) → a ≡ true → (a || b) ≡ true
or_left a b e = ap (λ t. t || b) e

pub or_right : (a b : Bool) → b ≡ true → (a || b) ≡ true
or_right true b e = refl
or_right false b e = e

pub or_neither : (a b : Bool) → (a || b) ≡ false → (a ≡ false) × (b ≡ false)
or_neither true b e = absurd (let x = e in cc)
or_neither false b e = (refl, e)

text_equal : (a b : List ℕ) → text_cmp a b ≡ Equal → a ≡ b
text_equal a b e = text_true a b (texts_ties a b ∙ ap is_eq e)

-- of two texts that differ the one that is not above the other is below it
pub le_apart : (a b : List ℕ) → is_le (text_cmp a b) ≡ true → bytes_eq b a ≡ false → text_cmp a b ≡ Less
le_apart a b le apart = go (text_cmp a b) refl le where
  go : (o : Ordering) → text_cmp a b ≡ o → is_le o ≡ true → text_cmp a b ≡ Less
  go Less e le = e
  go Equal e le = absurd (let same = text_equal a b e in let x : true ≡ false = sym (text_same b) ∙ ap (bytes_eq b) (sym same) ∙ apart in cc)
  go Greater e le = absurd (let x = le in cc)

pub le_itself : (a : List ℕ) → is_le (text_cmp a a) ≡ true
le_itself a = ap is_le (tied_itself nat_list_cmp_total a)

pub not_le : (a b : List ℕ) → is_le (text_cmp a b) ≡ false → text_cmp b a ≡ Less
not_le a b h = go (text_cmp a b) refl h where
  go : (o : Ordering) → text_cmp a b ≡ o → is_le o ≡ false → text_cmp b a ≡ Less
  go Less e h = absurd (let x = h in cc)
  go Equal e h = absurd (let x = h in cc)
  go Greater e h = nat_list_cmp_total.antisymm b a ∙ ap ordering_reverse e

le_less : (a b c : List ℕ) → is_le (text_cmp a b) ≡ true → text_cmp b c ≡ Less → text_cmp a c ≡ Less
le_less a b c p q = go (text_cmp a b) refl p where
  go : (o : Ordering) → text_cmp a b ≡ o → is_le o ≡ true → text_cmp a c ≡ Less
  go Less e p = nat_list_cmp_total.trans a b c e q
  go Equal e p = subst (λ x. text_cmp x c ≡ Less) (sym (text_equal a b e)) q
  go Greater e p = absurd (let x = p in cc)

pub le_trans : (a b c : List ℕ) → is_le (text_cmp a b) ≡ true → is_le (text_cmp b c) ≡ true → is_le (text_cmp a c) ≡ true
le_trans a b c p q = go (text_cmp b c) refl q where
  go : (o : Ordering) → text_cmp b c ≡ o → is_le o ≡ true → is_le (text_cmp a c) ≡ true
  go Less e q = ap is_le (le_less a b c p e)
  go Equal e q = subst (λ x. is_le (text_cmp a x) ≡ true) (text_equal b c e) p
  go Greater e q = absurd (let x = q in cc)

-- ---- a text and the next one

pub below_next : (a : List ℕ) → slice_cmp nat_cmp a (a ++ (0 ∷ [])) ≡ Less
below_next [] = refl
below_next (x ∷ xs) = ap (λ o. ordering_then o (slice_cmp nat_cmp xs (xs ++ (0 ∷ [])))) (sym (nat_cmp_is x x Equal refl)) ∙ below_next xs

none_between : (y : ℕ) (ys : List ℕ) → is_lt (slice_cmp nat_cmp (y ∷ ys) (0 ∷ [])) ≡ true → ⊥
none_between zero [] h = absurd cc
none_between zero (z ∷ zs) h = absurd cc
none_between (suc y) ys h = (let low : nat_lt (suc y) 0 ≡ false = grind (arith, nat_tests) in let same : (suc y == 0) ≡ false = grind (arith, nat_tests) in absurd cc)

same_number : (x y : ℕ) → nat_cmp x y ≡ Equal → x ≡ y
same_number x y = go (nat_lt x y) (x == y) refl refl where
  go : (a b : Bool) → nat_lt x y ≡ a → (x == y) ≡ b → cond a Less (cond b Equal Greater) ≡ Equal → x ≡ y
  go true b low same e = absurd cc
  go false true low same e = grind (arith, nat_tests)
  go false false low same e = absurd cc

-- between a text and the same with a zero byte behind it there is no other
pub only_key : (a b : List ℕ) → is_le (slice_cmp nat_cmp a b) ≡ true → is_lt (slice_cmp nat_cmp b (a ++ (0 ∷ []))) ≡ true → b ≡ a
only_key [] [] h k = refl
only_key [] (y ∷ ys) h k = absurd (none_between y ys k)
only_key (x ∷ xs) [] h k = absurd cc
only_key (x ∷ xs) (y ∷ ys) h k =
    elim (nat_cmp x y) as (λ o. nat_cmp x y ≡ o → is_le (ordering_then o (slice_cmp nat_cmp xs ys)) ≡ true → is_lt (ordering_then (ordering_reverse o) (slice_cmp nat_cmp ys (xs ++ (0 ∷ [])))) ≡ true → y ∷ ys ≡ x ∷ xs) [
      | Less ↦ λ e h k. absurd cc
      | Equal ↦ λ e h k. ap (λ n. n ∷ ys) (sym (same_number x y e)) ∙ ap (λ ns. x ∷ ns) (only_key xs ys h k)
      | Greater ↦ λ e h k. absurd cc
    ] refl h (subst (λ o. is_lt (ordering_then o (slice_cmp nat_cmp ys (xs ++ (0 ∷ [])))) ≡ true) (nat_cmp_total.antisymm y x) k)
