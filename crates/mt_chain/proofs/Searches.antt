-- What a binary search ends at in any list that rises, and what a walk from the front finds there.
use Rattle.std.proofs.Common.{◌≡◌, ℕ, zero, suc, ◌<◌, ◌≤◌, Bool, true, false, cond, List, [], ◌∷◌, map, length, get_or, refl, sym, ap, ◌∙◌, inl, inr, arith, Some, None, Less, Equal, Greater, Ordering, Result, Ok, Err}
use Rattle.std.proofs.lemmas.Bool.{cases_lt, cases_eq}
use Rattle.std.proofs.lemmas.List.{length-map}
use Rattle.std.specs.List.{find, AllByRecursion, AllPairs}
use Rattle.std.specs.List.Sorted.{IsStrictlySortedBy, IsNonDecreasingBy, IsPartitionedBy, IsPartitionPoint, IsBinarySearchResult, IsSearchInRange}
use Rattle.std.specs.Ordering.{is_eq, eq_by_cmp, ordering_index, ordering_reverse}
use Rattle.std.specs.Cmp.{IsTotalOrder, alike_right, tied_back}
use Rattle.mt_chain.specs.Places.{EndsBy}

-- ---- searches by any order that rises along the list

-- where the orders of two elements rise as they stand, they rise along the list
pub rises_along : {X : Type 0} (Before : X → X → Type 0) (ord : X → Ordering) → ((x y : X) → Before x y → ordering_index (ord x) ≤ ordering_index (ord y)) → (xs : List X) → AllPairs Before xs → IsNonDecreasingBy (λ x. ordering_index (ord x)) xs
rises_along Before ord up xs rise i j d le within = elim (cases_eq i j) as (λ _. ordering_index (ord (get_or xs i d)) ≤ ordering_index (ord (get_or xs j d))) [
  | inl same ↦ (let e = ap (λ k. ordering_index (ord (get_or xs k d))) same in omega (arith, e))
  | inr other ↦ up (get_or xs i d) (get_or xs j d) (rise i j d (omega (arith, other)) within)
]

-- where a test passes the first of two elements if it passes the second, it passes the front of the list
pub falls_along : {X : Type 0} (Before : X → X → Type 0) (test : X → Bool) → ((x y : X) → Before x y → test y ≡ true → test x ≡ true) → (xs : List X) → AllPairs Before xs → IsPartitionedBy test xs
falls_along Before test falls xs rise i j d le within passes = elim (cases_eq i j) as (λ _. test (get_or xs i d) ≡ true) [
  | inl same ↦ ap (λ k. test (get_or xs k d)) same ∙ passes
  | inr other ↦ falls (get_or xs i d) (get_or xs j d) (rise i j d (omega (arith, other)) within) passes
]

pub search_ends_by : {X : Type 0} (ord : X → Ordering) (xs : List X) (r : Result ℕ ℕ) → IsNonDecreasingBy (λ x. ordering_index (ord x)) xs → IsSearchInRange r (length xs) → IsBinarySearchResult ord xs r → EndsBy ord xs r
search_ends_by ord xs (Ok at) up bound found = (bound, found)
search_ends_by ord xs (Err at) up bound found = (bound, found up)

-- ---- walks from the front

pub find_first : {X : Type 0} (test : X → Bool) (xs : List X) (at : ℕ) (d : X) → at < length xs → test (get_or xs at d) ≡ true → ((k : ℕ) → k < at → test (get_or xs k d) ≡ false) → find test xs ≡ Some (get_or xs at d)
find_first test [] at d within here before = absurd (omega arith)
find_first test (x ∷ xs) zero d within here before = ap (λ b. cond b (Some x) (find test xs)) here
find_first test (x ∷ xs) (suc at) d within here before =
    ap (λ b. cond b (Some x) (find test xs)) (before 0 (omega arith))
    ∙ find_first test xs at d (omega arith) here (λ k below. before (suc k) (omega arith))

pub find_nowhere : {X : Type 0} (test : X → Bool) (xs : List X) → ((k : ℕ) (d : X) → k < length xs → test (get_or xs k d) ≡ false) → find test xs ≡ None
find_nowhere test [] none = refl
find_nowhere test (x ∷ xs) none =
    ap (λ b. cond b (Some x) (find test xs)) (none 0 x (omega arith))
    ∙ find_nowhere test xs (λ k d within. none (suc k) d (omega arith))

-- ---- lists whose keys rise

module _ {K : Type 0} {cmp : K → K → Ordering} (total : IsTotalOrder cmp) {X : Type 0} (key : X → K) where
  -- the key of the one is below that of the other
  abbrev pub IsBelow : X → X → Type 0
  IsBelow x y = cmp (key x) (key y) ≡ Less

  below_all_at : (k : K) (xs : List X) → AllByRecursion (λ y. cmp k y ≡ Less) (map key xs) → (j : ℕ) (d : X) → j < length xs → cmp k (key (get_or xs j d)) ≡ Less
  below_all_at k [] all j d within = absurd (omega arith)
  below_all_at k (x ∷ xs) all zero d within = all.0
  below_all_at k (x ∷ xs) all (suc j) d within = below_all_at k xs all.1 j d (omega arith)

  -- each key is below that of each later element
  pub pairs_below : (xs : List X) → IsStrictlySortedBy cmp (map key xs) → AllPairs IsBelow xs
  unfolding IsStrictlySortedBy
  pairs_below [] sorted i j d less within = absurd (omega arith)
  pairs_below (x ∷ xs) sorted i zero d less within = absurd (omega arith)
  pairs_below (x ∷ xs) sorted zero (suc j) d less within = below_all_at (key x) xs sorted.0 j d (omega arith)
  pairs_below (x ∷ xs) sorted (suc i) (suc j) d less within = pairs_below xs sorted.1 i j d (omega arith) (omega arith)

  reversed : (x y : K) (o : Ordering) → cmp x y ≡ o → cmp y x ≡ ordering_reverse o
  reversed x y o e = total.antisymm y x ∙ ap ordering_reverse e

  -- of two keys that rise, the second compares no lower with any third
  pub climbs : (k : K) (x y : X) → IsBelow x y → ordering_index (cmp (key x) k) ≤ ordering_index (cmp (key y) k)
  climbs k x y less = go (cmp (key y) k) refl where
    small : (r : Ordering) → ordering_index r ≤ 2
    small Less = omega arith
    small Equal = omega arith
    small Greater = omega arith

    go : (r : Ordering) → cmp (key y) k ≡ r → ordering_index (cmp (key x) k) ≤ ordering_index r
    go Less e = (let same = ap ordering_index (total.trans (key x) (key y) k less e) in omega (arith, same))
    go Equal e = (let same = ap ordering_index (sym (alike_right total (key y) k (key x) e) ∙ less) in omega (arith, same))
    go Greater e = small (cmp (key x) k)

  -- a binary search for a key ends at an element that has it, or between those below it and those above it
  pub key_searched : (k : K) (xs : List X) (r : Result ℕ ℕ) → IsStrictlySortedBy cmp (map key xs) → IsSearchInRange r (length xs) → IsBinarySearchResult (λ x. cmp (key x) k) xs r → EndsBy (λ x. cmp (key x) k) xs r
  key_searched k xs r sorted bound found = search_ends_by (λ x. cmp (key x) k) xs r (rises_along IsBelow (λ x. cmp (key x) k) (climbs k) xs (pairs_below xs sorted)) bound found

  -- where such a search ends at an element, that is the one with the key
  pub key_found : (k : K) (test : X → Bool) → ((x : X) → test x ≡ eq_by_cmp cmp k (key x)) → (xs : List X) (at : ℕ) (d : X) → IsStrictlySortedBy cmp (map key xs) → EndsBy (λ x. cmp (key x) k) xs (Ok at) → find test xs ≡ Some (get_or xs at d)
  key_found k test is xs at d sorted ends = find_first test xs at d ends.0 (is (get_or xs at d) ∙ ap is_eq (tied_back total (key (get_or xs at d)) k (ends.1 d))) before where
    before : (j : ℕ) → j < at → test (get_or xs j d) ≡ false
    before j below =
        let less = sym (alike_right total (key (get_or xs at d)) k (key (get_or xs j d)) (ends.1 d)) ∙ pairs_below xs sorted j at d below ends.0 in
        is (get_or xs j d) ∙ ap is_eq (reversed (key (get_or xs j d)) k Less less)

  -- where it ends between two, none has the key
  pub key_absent : (k : K) (test : X → Bool) → ((x : X) → test x ≡ eq_by_cmp cmp k (key x)) → (xs : List X) (at : ℕ) → EndsBy (λ x. cmp (key x) k) xs (Err at) → find test xs ≡ None
  key_absent k test is xs at ends = find_nowhere test xs none where
    none : (j : ℕ) (d : X) → j < length xs → test (get_or xs j d) ≡ false
    none j d within = is (get_or xs j d) ∙ elim (cases_lt j at) as (λ _. eq_by_cmp cmp k (key (get_or xs j d)) ≡ false) [
      | inl below ↦ ap is_eq (reversed (key (get_or xs j d)) k Less (ends.1.0 j d (omega arith) below))
      | inr above ↦ ap is_eq (reversed (key (get_or xs j d)) k Greater (ends.1.1 j d above within))
    ]

-- ---- elements seen as others

at_map : {X Y : Type 0} (f : X → Y) (P : Y → Type 0) (xs : List X) (k : ℕ) → k < length xs → ((d : X) → P (f (get_or xs k d))) → (d : Y) → P (get_or (map f xs) k d)
at_map f P [] k within holds d = absurd (omega arith)
at_map f P (x ∷ xs) zero within holds d = holds x
at_map f P (x ∷ xs) (suc k) within holds d = at_map f P xs k (omega arith) holds d

pub point_map : {X Y : Type 0} (f : X → Y) (P Q : Y → Type 0) (xs : List X) (at : ℕ) → at ≤ length xs → IsPartitionPoint (λ x. P (f x)) (λ x. Q (f x)) xs at → IsPartitionPoint P Q (map f xs) at
point_map f P Q xs at bound point = (
  (λ k d low below. at_map f P xs k (omega (arith, bound, below)) (λ e. point.0 k e low below) d),
  (λ k d low below. (let within : k < length xs = (let long = length-map xs f in omega (arith, long, below)) in at_map f Q xs k within (λ e. point.1 k e low within) d)),
)

-- a search among elements ends where one among what they are seen as ends
pub ends_map : {X Y : Type 0} (f : X → Y) (ord : Y → Ordering) (xs : List X) (r : Result ℕ ℕ) → EndsBy (λ x. ord (f x)) xs r → EndsBy ord (map f xs) r
ends_map f ord xs (Ok at) ends = ((let long = length-map xs f in let within = ends.0 in omega (arith, long, within)), at_map f (λ y. ord y ≡ Equal) xs at ends.0 ends.1)
ends_map f ord xs (Err at) ends = ((let long = length-map xs f in let bound = ends.0 in omega (arith, long, bound)), point_map f (λ y. ord y ≡ Less) (λ y. ord y ≡ Greater) xs at ends.0 ends.1)
