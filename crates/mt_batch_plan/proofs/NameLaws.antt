-- The keys of a batch's rows and the marker's: they differ, so that sorted they rise.
use Rattle.std.proofs.Common.{◌≡◌, ◌≢◌, ℕ, suc, ◌+◌, ◌≤◌, Bool, true, false, List, [], ◌∷◌, map, length, get_or, refl, sym, ap, subst, ◌∙◌, arith, Option, Some, None}
use Rattle.std.specs.Prelude.{bytes_eq, ◌&&◌}
use Rattle.std.specs.Option.{option_or}
use Rattle.std.specs.Str.{chars}
use Rattle.std.specs.Ordering.{nat_cmp, is_lt, is_eq, ordering_reverse, eq_by_cmp}
use Rattle.std.specs.declared.cmp.Ordering.{Ordering}
use Rattle.std.specs.declared.cmp.Ordering.TheVariants.{Less, Equal, Greater}
use Rattle.std.specs.List.{AllByRecursion, IsDistinct}
use Rattle.std.specs.List.Sorted.{IsStrictlySortedBy, IsSortedBy, IsPermutation}
use Rattle.std.specs.Cmp.Lexicographic.{slice_cmp, nat_list_cmp_total, nat_list_eq_equiv, texts_ties}
use Rattle.std.proofs.lemmas.Map.Keys.{IsDistinct-IsPermutation, IsDistinct-head, IsDistinct-tail, IsDistinct-cons, sorted_from_all_adjacent, apart_from_distinct}
use Rattle.std.proofs.lemmas.List.{length-map}
use Rattle.std.proofs.lemmas.List.Sorted.{length_permutation}
use Rattle.std.proofs.lemmas.List.Elements.{recursion_from_All}
use Rattle.mt_model.specs.Key.{key_fault, key_cmp, part_fault}
use Rattle.mt_model.specs.declared.key.KeyPart.TheVariants.{Partition, Row}
use Rattle.mt_model.specs.declared.key.KeyFault.{KeyFault}
use Rattle.mt_model.specs.declared.key.KeyFault.TheVariants.{KeyChar}
use Rattle.mt_chain.specs.declared.op.Op.{Op}
use Rattle.mt_chain.specs.Effect.{op_key}
use Rattle.mt_chain.specs.Batch.{AreApart}
use Rattle.mt_chain.proofs.KeyLaws.{is_tied, text_same, text_false}
use Rattle.mt_meta.specs.Markers.{marker_key}
use Rattle.mt_rules.specs.Batches.{IsBatch, MayAsk, partition_of}
use Rattle.mt_batch_plan.specs.Calls.{AreNames}
use Rattle.mt_batch_plan.specs.Plans.{is_below}

-- ---- a sorted list of distinct texts rises

less_than : (o r : Ordering) → is_lt o ≡ false → r ≡ ordering_reverse o → is_eq r ≡ false → r ≡ Less
less_than Less r l e q = cc
less_than Equal r l e q = cc
less_than Greater r l e q = e

-- of two texts that differ and of which the second is not below the first, the first is below
pub below : (x y : List ℕ) → is_below y x ≡ false → bytes_eq x y ≡ false → slice_cmp nat_cmp x y ≡ Less
below x y up apart = less_than (slice_cmp nat_cmp y x) (slice_cmp nat_cmp x y) up (nat_list_cmp_total.antisymm x y) (sym (texts_ties x y) ∙ apart)

pub rising_texts : (xs : List (List ℕ)) → IsSortedBy is_below xs → IsDistinct bytes_eq xs → IsStrictlySortedBy (slice_cmp nat_cmp) xs
rising_texts xs up apart =
    sorted_from_all_adjacent nat_list_cmp_total xs [] (λ k h.
    below (get_or xs k []) (get_or xs (k + 1) []) (up k [] (omega arith) h) (apart_from_distinct bytes_eq xs k (k + 1) [] apart (omega arith) h))

-- ---- the keys of a batch

-- the marker's key fails the rules of keys
marker_fault : part_fault Row marker_key ≡ Some (KeyChar Row 0)
unfolding chars
marker_fault = refl

no_marker : (a : Option KeyFault) (b : KeyFault) → option_or a (Some b) ≡ None → ⊥
no_marker None b e = cc
no_marker (Some fault) b e = cc

-- no client's key has the marker's row key
pub not_marker : (pk rk : List ℕ) → key_fault pk rk ≡ None → rk ≢ marker_key
not_marker pk rk e same = no_marker (part_fault Partition pk) (KeyChar Row 0) (rw marker_fault at (subst (λ k. key_fault pk k ≡ None) same e))

abbrev pub rk_of : Op → List ℕ
rk_of op = (op_key op).rk

-- operations of one partition that are apart have distinct row keys
pub distinct_rks : (pk : List ℕ) (ops : List Op) → AllByRecursion (λ op. (op_key op).pk ≡ pk) ops → AreApart ops → IsDistinct bytes_eq (map rk_of ops)
unfolding IsDistinct
distinct_rks pk [] one apart = tt
distinct_rks pk (op ∷ ops) one apart =
    IsDistinct-cons bytes_eq (rk_of op) (map rk_of ops) (others ops one.1 (IsDistinct-head (eq_by_cmp key_cmp) (op_key op) (map op_key ops) apart))
    (distinct_rks pk ops one.1 (IsDistinct-tail (eq_by_cmp key_cmp) (op_key op) (map op_key ops) apart)) where
      no_tie : (a b : Bool) → a ≡ true → (a && b) ≡ false → b ≡ false
      no_tie true b e f = f
      no_tie false b e f = cc

      others : (rest : List Op) → AllByRecursion (λ o. (op_key o).pk ≡ pk) rest → AllByRecursion (λ k. eq_by_cmp key_cmp (op_key op) k ≡ false) (map op_key rest)
          → AllByRecursion (λ rk. bytes_eq (rk_of op) rk ≡ false) (map rk_of rest)
      others [] same h = tt
      others (o ∷ rest) same h = (
        no_tie (bytes_eq (op_key op).pk (op_key o).pk) (bytes_eq (rk_of op) (rk_of o))
            (ap (λ k. bytes_eq k (op_key o).pk) (one.0 ∙ sym same.0) ∙ text_same (op_key o).pk) (sym (is_tied (op_key op) (op_key o)) ∙ h.0),
        others rest same.1 h.1,
      )

-- none of them is the marker's
pub no_markers : (ops : List Op) → AllByRecursion MayAsk ops → AllByRecursion (λ rk. bytes_eq marker_key rk ≡ false) (map rk_of ops)
no_markers [] h = tt
no_markers (op ∷ ops) h = (text_false marker_key (rk_of op) (λ e. not_marker (op_key op).pk (rk_of op) (h.0).key (sym e)), no_markers ops h.1)

-- the marker's key and the keys of a batch are distinct
pub distinct_names : (ops : List Op) → IsBatch ops → IsDistinct bytes_eq (marker_key ∷ map rk_of ops)
distinct_names ops batch =
    let one = recursion_from_All (λ op. (op_key op).pk ≡ partition_of ops) ops batch.partition in
    let rules = recursion_from_All MayAsk ops batch.rules in
    IsDistinct-cons bytes_eq marker_key (map rk_of ops) (no_markers ops rules) (distinct_rks (partition_of ops) ops one batch.apart)

pub are_names : (ops : List Op) (copied names : List (List ℕ)) → IsBatch ops → copied ≡ marker_key ∷ map rk_of ops
    → IsPermutation copied names → IsSortedBy is_below names → AreNames ops names
are_names ops copied names batch same all up =
    let moved : IsPermutation (marker_key ∷ map rk_of ops) names = subst (λ l. IsPermutation l names) same all in
    record {
      rising = rising_texts names up (IsDistinct-IsPermutation bytes_eq nat_list_eq_equiv.symm (marker_key ∷ map rk_of ops) names moved (distinct_names ops batch));
      all = moved;
    }

pub few_names : (ops : List Op) (names : List (List ℕ)) → IsBatch ops → AreNames ops names → length names ≤ 101
few_names ops names batch named =
    let count : length names ≡ suc (length (map rk_of ops)) = length_permutation (marker_key ∷ map rk_of ops) names named.all in
    let same : length (map rk_of ops) ≡ length ops = length-map ops rk_of in
    omega (arith, count, same, batch.few)
