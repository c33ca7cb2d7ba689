-- Elements whose keys rise make one list: two lists of the same elements are equal.
use Rattle.std.proofs.Common.{◌≡◌, ◌⊎◌, ℕ, zero, suc, ◌<◌, List, [], ◌∷◌, map, length, get_or, refl, sym, ap, ◌∙◌, subst, arith, inl, inr, Contains, Less, Ordering}
use Rattle.std.specs.List.{AllByRecursion}
use Rattle.std.specs.List.Sorted.{IsPermutation, IsStrictlySortedBy}
use Rattle.std.specs.Cmp.{IsTotalOrder, tied_itself}
use Rattle.std.proofs.lemmas.List.Sorted.{Contains-permutation, IsPermutation-sym}

-- the list has the element
abbrev Has : {X : Type 0} → List X → X → Type 0
Has [] x = ⊥
Has (y ∷ ys) x = (y ≡ x) ⊎ Has ys x

has_at : {X : Type 0} (xs : List X) (x : X) (k : ℕ) → k < length xs → get_or xs k x ≡ x → Has xs x
has_at [] x k below is = absurd (omega arith)
has_at (y ∷ ys) x zero below is = inl is
has_at (y ∷ ys) x (suc k) below is = inr (has_at ys x k (omega arith) is)

contains : {X : Type 0} (xs : List X) (x : X) → Has xs x → Contains xs x
contains [] x h = absurd h
contains (y ∷ ys) x (inl is) = (0, omega arith, is)
contains (y ∷ ys) x (inr h) = (let rest = contains ys x h in (suc rest.0, (let below = rest.1 in omega arith), rest.2))

module _ {K : Type 0} {cmp : K → K → Ordering} (total : IsTotalOrder cmp) {X : Type 0} (key : X → K) where
  abbrev IsBelow : X → X → Type 0
  IsBelow x y = cmp (key x) (key y) ≡ Less

  below_each : (x y : X) (xs : List X) → AllByRecursion (λ k. cmp (key x) k ≡ Less) (map key xs) → Has xs y → IsBelow x y
  below_each x y [] all there = absurd there
  below_each x y (z ∷ xs) all (inl is) = ap (λ (w : X). cmp (key x) (key w)) (sym is) ∙ all.0
  below_each x y (z ∷ xs) all (inr there) = below_each x y xs all.1 there

  not_below_itself : (x : X) → IsBelow x x → ⊥
  not_below_itself x less = (let tie = sym (tied_itself total (key x)) ∙ less in absurd cc)

  first_same : (x y : X) (xs ys : List X) → (Has ys x → IsBelow y x) → (Has xs y → IsBelow x y) → Has (y ∷ ys) x → Has (x ∷ xs) y → x ≡ y
  first_same x y xs ys f g (inl is) b = sym is
  first_same x y xs ys f g (inr a) (inl is) = is
  first_same x y xs ys f g (inr a) (inr b) = absurd (not_below_itself x (total.trans (key x) (key y) (key x) (g b) (f a)))

  -- what the one rest has, the other has
  rest_has : (x y : X) (xs ys : List X) → x ≡ y → ((z : X) → Has xs z → IsBelow x z) → ((z : X) → Has (x ∷ xs) z → Has (y ∷ ys) z) → (z : X) → Has xs z → Has ys z
  rest_has x y xs ys same below all z there = go (all z (inr there)) where
    go : Has (y ∷ ys) z → Has ys z
    go (inl is) = absurd (not_below_itself x (subst (IsBelow x) (sym (same ∙ is)) (below z there)))
    go (inr h) = h

  one_list : (xs ys : List X) → IsStrictlySortedBy cmp (map key xs) → IsStrictlySortedBy cmp (map key ys) → ((z : X) → Has xs z → Has ys z) → ((z : X) → Has ys z → Has xs z) → xs ≡ ys
  unfolding IsStrictlySortedBy
  one_list [] [] g h there back = refl
  one_list [] (y ∷ ys) g h there back = absurd (back y (inl refl))
  one_list (x ∷ xs) [] g h there back = absurd (there x (inl refl))
  one_list (x ∷ xs) (y ∷ ys) g h there back =
      let same : x ≡ y = first_same x y xs ys (λ a. below_each y x ys h.0 a) (λ b. below_each x y xs g.0 b) (there x (inl refl)) (back y (inl refl)) in
      ap (λ z. z ∷ xs) same
      ∙ ap (λ zs. y ∷ zs) (one_list xs ys g.1 h.1 (rest_has x y xs ys same (λ z a. below_each x z xs g.0 a) there) (rest_has y x ys xs (sym same) (λ z a. below_each y z ys h.0 a) back))

  moved : (all xs ys : List X) → IsPermutation all xs → IsPermutation all ys → (z : X) → Has xs z → Has ys z
  moved all xs ys a b z there =
      let found = Contains-permutation all ys z b (Contains-permutation xs all z (IsPermutation-sym all xs a) (contains xs z there)) in
      has_at ys z found.0 found.1 found.2

  -- two lists that have the elements of a third, each in the order of their keys, are equal
  pub one_order : (all xs ys : List X) → IsPermutation all xs → IsPermutation all ys → IsStrictlySortedBy cmp (map key xs) → IsStrictlySortedBy cmp (map key ys) → xs ≡ ys
  one_order all xs ys a b rising_x rising_y = one_list xs ys rising_x rising_y (moved all xs ys a b) (moved all ys xs b a)
