-- The order of a batch's operations, as a list of their indexes.
use Rattle.std.proofs.Common.{◌≡◌, ℕ, zero, suc, ◌+◌, ◌<◌, false, List, [], ◌∷◌, ◌++◌, map, length, get_or, refl, sym, ap, subst, ◌∙◌, arith, take}
use Rattle.std.specs.Prelude.{bytes_eq}
use Rattle.std.specs.Ordering.{nat_cmp}
use Rattle.std.specs.List.{range_with_len, IsDistinct}
use Rattle.std.specs.List.Sorted.{IsStrictlySortedBy, IsSortedBy, IsPermutation}
use Rattle.std.specs.Cmp.Lexicographic.{slice_cmp, nat_list_cmp_total, nat_list_eq_equiv}
use Rattle.std.proofs.lemmas.Map.Keys.{IsDistinct-IsPermutation, sorted_from_all_adjacent, apart_from_distinct, IsDistinct-tail}
use Rattle.std.proofs.lemmas.List.{length-map, ext_get_or, get_or-map, get_or_default, take_more, map_push}
use Rattle.std.proofs.Math.Numerals.{add-one}
use Rattle.std.proofs.lemmas.List.FromFn.{length-range_with_len, get_or-range_with_len, get_or-map-range_with_len, length-map-range_with_len}
use Rattle.std.proofs.lemmas.List.Sorted.{IsPermutation-map, IsPermutation-append_right, length_permutation, All-permutation}
use Rattle.std.proofs.lemmas.List.Elements.{All-get_or, All-from_get_or}
use Rattle.mt_chain.specs.declared.op.Op.{Op}
use Rattle.mt_chain.specs.declared.op.Op.TheVariants.{Delete}
use Rattle.mt_chain.specs.declared.op.Cond.TheVariants.{Any}
use Rattle.mt_chain.specs.declared.row.Put.{Put}
use Rattle.mt_chain.specs.Rows.{key_at}
use Rattle.mt_chain.specs.Puts.{CanApply, row_key}
use Rattle.mt_meta.specs.Markers.{marker_key}
use Rattle.mt_rules.specs.Batches.{IsBatch}
use Rattle.mt_batch_plan.specs.declared.basis.Basis.{Basis}
use Rattle.mt_batch_plan.specs.declared.basis.Basis.TheVariants.{OldRows, OldBirth, Overlay, NewRows, NewBirth}
use Rattle.mt_batch_plan.specs.Bases.{put_by, marker_put}
use Rattle.mt_batch_plan.specs.Calls.{IsInOrder}
use Rattle.mt_batch_plan.specs.Plans.{IsOrder, picked, op_or, is_below}
use Rattle.mt_batch_plan.proofs.NameLaws.{below, rk_of, distinct_names}
use Rattle.mt_batch_plan.proofs.EffectLaws.{keys_of_puts}

twice : {X Y Z : Type 0} (f : Y → Z) (g : X → Y) (xs : List X) → map f (map g xs) ≡ map (λ x. f (g x)) xs
twice f g [] = refl
twice f g (x ∷ xs) = ap (λ l. f (g x) ∷ l) (twice f g xs)

-- all operations, by their indexes
pub all_picked : (ops : List Op) → map (op_or ops) (range_with_len 0 (length ops)) ≡ ops
all_picked ops =
    ext_get_or (Delete (key_at [] []) Any) (map (op_or ops) (range_with_len 0 (length ops))) ops (length-map-range_with_len (op_or ops) 0 (length ops))
    (λ i inside. get_or-map-range_with_len (op_or ops) 0 (length ops) i i (Delete (key_at [] []) Any) (rw length-map-range_with_len at inside) (omega arith))

pub in_order : (ops : List Op) (order : List ℕ) → IsOrder ops order → IsInOrder ops (picked ops order)
in_order ops order h = record {
  rising = h.rising;
  all = subst (λ l. IsPermutation l (picked ops order)) (all_picked ops) (IsPermutation-map (op_or ops) (range_with_len 0 (length ops)) order h.all);
}

-- each index of the order is one of the batch
pub index_below : (ops : List Op) (order : List ℕ) (k d : ℕ) → IsOrder ops order → k < length order → get_or order k d < length ops
index_below ops order k d h inside =
    All-get_or (λ i. i < length ops) order k d inside
    (All-permutation (λ i. i < length ops) (range_with_len 0 (length ops)) order h.all
    (All-from_get_or (λ i. i < length ops) (range_with_len 0 (length ops)) 0 (λ i within.
    let short : i < length ops = rw length-range_with_len at within in
    rw (get_or-range_with_len 0 (length ops) i 0 short) (omega (arith, short)))))

pub order_length : (ops : List Op) (order : List ℕ) → IsOrder ops order → length order ≡ length ops
order_length ops order h = length_permutation (range_with_len 0 (length ops)) order h.all ∙ length-range_with_len 0 (length ops)

-- an element of the batch is the operation at its index
pub op_at : (ops : List Op) (i : ℕ) (op : Op) → i < length ops → op ≡ get_or ops i op → op ≡ op_or ops i
op_at ops i op inside is = is ∙ get_or_default ops i op (Delete (key_at [] []) Any) inside

-- one more operation in order
pub picked_more : (ops : List Op) (order : List ℕ) (k : ℕ) (op : Op) → k < length order → op ≡ op_or ops (get_or order k 0)
    → picked ops (take (k + 1) order) ≡ picked ops (take k order) ++ op ∷ []
picked_more ops order k op inside is =
    ap (picked ops) (take_more order k 0 inside)
    ∙ map_push (op_or ops) (take k order) (get_or order k 0)
    ∙ ap (λ o. picked ops (take k order) ++ o ∷ []) (sym is)

pub puts_more : (ops : List Op) (order : List ℕ) (basis : Basis) (first : Put) (k : ℕ) (op : Op) (put : Put) (puts : List Put) → k < length order → op ≡ op_or ops (get_or order k 0)
    → put ≡ put_by basis op → puts ≡ first ∷ map (put_by basis) (picked ops (take k order)) → puts ++ put ∷ [] ≡ first ∷ map (put_by basis) (picked ops (take (k + 1) order))
puts_more ops order basis first k op put puts inside is made before =
    ap (λ l. l ++ put ∷ []) before
    ∙ ap (λ p. (first ∷ map (put_by basis) (picked ops (take k order))) ++ p ∷ []) made
    ∙ ap (λ l. first ∷ l) (sym (map_push (put_by basis) (picked ops (take k order)) op) ∙ ap (map (put_by basis)) (sym (picked_more ops order k op inside is)))

-- ---- the order is found by sorting

-- a sorted list whose elements have distinct texts rises by them
pub rising_by : {X : Type 0} (f : X → List ℕ) (xs : List X) → IsSortedBy (λ a b. is_below (f a) (f b)) xs → IsDistinct bytes_eq (map f xs) → IsStrictlySortedBy (slice_cmp nat_cmp) (map f xs)
unfolding IsStrictlySortedBy
rising_by f [] up apart = tt
rising_by f (x ∷ xs) up apart =
    sorted_from_all_adjacent nat_list_cmp_total (map f (x ∷ xs)) [] (λ k h.
    let short : k + 1 < length (x ∷ xs) = subst (λ n. k + 1 < n) (length-map (x ∷ xs) f) h in
    let at = get_or-map f (x ∷ xs) k x [] (omega (arith, short)) in
    let next = get_or-map f (x ∷ xs) (k + 1) x [] short in
    let u : is_below (get_or (map f (x ∷ xs)) (k + 1) []) (get_or (map f (x ∷ xs)) k []) ≡ false = rw (at, next) (up k x (omega arith) short) in
    below (get_or (map f (x ∷ xs)) k []) (get_or (map f (x ∷ xs)) (k + 1) []) u (apart_from_distinct bytes_eq (map f (x ∷ xs)) k (k + 1) [] apart (omega arith) h))

abbrev pub rk_at : List Op → ℕ → List ℕ
rk_at ops i = rk_of (op_or ops i)

-- distinct row keys stay distinct in any order
pub distinct_order : (ops : List Op) (order : List ℕ) → IsBatch ops → IsPermutation (range_with_len 0 (length ops)) order → IsDistinct bytes_eq (map (rk_at ops) order)
distinct_order ops order batch moved =
    let apart : IsDistinct bytes_eq (map rk_of ops) = IsDistinct-tail bytes_eq marker_key (map rk_of ops) (distinct_names ops batch) in
    let all : map (rk_at ops) (range_with_len 0 (length ops)) ≡ map rk_of ops = sym (twice rk_of (op_or ops) (range_with_len 0 (length ops))) ∙ ap (map rk_of) (all_picked ops) in
    IsDistinct-IsPermutation bytes_eq nat_list_eq_equiv.symm (map (rk_at ops) (range_with_len 0 (length ops))) (map (rk_at ops) order)
    (IsPermutation-map (rk_at ops) (range_with_len 0 (length ops)) order moved)
    (subst (IsDistinct bytes_eq) (sym all) apart)

pub is_order : (ops : List Op) (order : List ℕ) → IsBatch ops → IsPermutation (range_with_len 0 (length ops)) order
    → IsSortedBy (λ a b. is_below (rk_at ops a) (rk_at ops b)) order → IsOrder ops order
is_order ops order batch moved up = record {
  all = moved;
  rising = subst (IsStrictlySortedBy (slice_cmp nat_cmp)) (sym (twice rk_of (op_or ops) order)) (rising_by (rk_at ops) order up (distinct_order ops order batch moved));
}

-- ---- the puts may be asked

marker_put_key : (basis : Basis) → row_key (marker_put basis) ≡ marker_key
marker_put_key (OldRows rows) = refl
marker_put_key OldBirth = refl
marker_put_key (Overlay rows entries) = refl
marker_put_key (NewRows entries) = refl
marker_put_key NewBirth = refl

pub can_write : (ops : List Op) (order : List ℕ) (basis : Basis) → IsBatch ops → IsOrder ops order → CanApply (marker_put basis ∷ map (put_by basis) (picked ops order))
can_write ops order basis batch h =
    let puts = map (put_by basis) (picked ops order) in
    let count : length puts ≡ length ops = length-map (picked ops order) (put_by basis) ∙ length-map order (op_or ops) ∙ order_length ops order h in
    let keys : map row_key puts ≡ map rk_of (picked ops order) = keys_of_puts basis (picked ops order) in
    let moved : IsPermutation (marker_key ∷ map rk_of ops) (marker_key ∷ map rk_of (picked ops order)) =
    IsPermutation-append_right (marker_key ∷ []) (map rk_of ops) (map rk_of (picked ops order)) (IsPermutation-map rk_of ops (picked ops order) (in_order ops order h).all) in
    let apart = IsDistinct-IsPermutation bytes_eq nat_list_eq_equiv.symm (marker_key ∷ map rk_of ops) (marker_key ∷ map rk_of (picked ops order)) moved (distinct_names ops batch) in
    record {
      some = omega arith;
      few = omega (arith, count, batch.few);
      apart = subst (λ k. IsDistinct bytes_eq (k ∷ map row_key puts)) (sym (marker_put_key basis)) (subst (λ ks. IsDistinct bytes_eq (marker_key ∷ ks)) (sym keys) apart);
    }

-- the numbers below one more
range_suc : (a n j : ℕ) → a + n ≡ j → range_with_len a (suc n) ≡ range_with_len a n ++ j ∷ []
range_suc a zero j e = ap (λ (x : ℕ). x ∷ []) (omega (arith, e))
range_suc a (suc n) j e = ap (λ (l : List ℕ). a ∷ l) (range_suc (a + 1) n j (omega (arith, e)))

pub indexes_more : (n : ℕ) (xs after : List ℕ) → xs ≡ range_with_len 0 n → after ≡ xs ++ n ∷ [] → after ≡ range_with_len 0 (n + 1)
indexes_more n xs after e more = more ∙ ap (λ l. l ++ n ∷ []) e ∙ sym (rw add-one (range_suc 0 n n (omega arith)))
