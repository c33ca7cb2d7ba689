-- Places in rows are places in their entries.
use Rattle.std.proofs.Common.{◌≡◌, ℕ, ◌<◌, ◌≤◌, Bool, true, false, List, [], ◌∷◌, map, length, get_or, refl, sym, ap, ◌∙◌, arith, Equal, Ordering, Result, Ok, Some, option_map}
use Rattle.std.proofs.lemmas.List.{get_or-map, length-map}
use Rattle.std.specs.List.Sorted.{IsNonDecreasingBy, IsPartitionedBy, IsPartitionPoint, IsBinarySearchResult, IsSearchInRange}
use Rattle.std.specs.Ordering.{ordering_index}
use Rattle.mt_model.specs.declared.key.Key.{Key}
use Rattle.mt_chain.specs.declared.row.Stored.{Stored}
use Rattle.mt_model.specs.Key.{key_cmp}
use Rattle.mt_chain.specs.Rows.{key_at, are_rising, row_at, shown}
use Rattle.mt_chain.specs.Places.{EndsAt, IsCut}
use Rattle.mt_chain.proofs.KeyLaws.{key_ties}
use Rattle.mt_chain.proofs.OrderLaws.{FallsByKey, RisesByKey}
use Rattle.mt_chain.proofs.SearchLaws.{searchable, partitioned, find_at}
use Rattle.mt_chain.proofs.Searches.{search_ends_by, ends_map, point_map}
use Rattle.mt_mem.specs.Entries.{Row, stored, entry, entries}

abbrev Entry : Type 0
Entry = Key × Stored

pub entry_at : (rows : List Row) (k : ℕ) (d : Row) → k < length rows → get_or (entries rows) k (entry d) ≡ entry (get_or rows k d)
entry_at rows k d l = get_or-map entry rows k d (entry d) l

-- the entries as a reply shows them are the rows
pub shown_entries : (rows : List Row) → map (λ e. shown e.0.rk e.1) (entries rows) ≡ map (λ r. r.1) rows
shown_entries [] = refl
shown_entries (row ∷ rows) = ap (λ rs. row.1 ∷ rs) (shown_entries rows)

-- ---- a search among rows

searchable_rows : (ord : Key → Ordering) → RisesByKey ord → (rows : List Row) → are_rising (entries rows) ≡ true → IsNonDecreasingBy (λ (r : Row). ordering_index (ord (entry r).0)) rows
searchable_rows ord up rows h i j d le jl =
    let long = length-map rows entry in
    let there = searchable ord up (entries rows) h i j (entry d) le (omega (arith, long, jl)) in
    let low = ap (λ (e : Entry). ordering_index (ord e.0)) (entry_at rows i d (omega (arith, le, jl))) in
    let high = ap (λ (e : Entry). ordering_index (ord e.0)) (entry_at rows j d jl) in
    omega (arith, there, low, high)

pub search_entries : (ord : Key → Ordering) → RisesByKey ord → (rows : List Row) (r : Result ℕ ℕ) → are_rising (entries rows) ≡ true → IsSearchInRange r (length rows)
    → IsBinarySearchResult (λ (row : Row). ord (entry row).0) rows r → EndsAt ord (entries rows) r
search_entries ord up rows r h bound found =
    ends_map entry (λ (e : Entry). ord e.0) rows r (search_ends_by (λ (row : Row). ord (entry row).0) rows r (searchable_rows ord up rows h) bound found)

-- ---- a test that passes the first rows

pub partitioned_rows : (test : Key → Bool) → FallsByKey test → (rows : List Row) → are_rising (entries rows) ≡ true → IsPartitionedBy (λ (r : Row). test (entry r).0) rows
partitioned_rows test falls rows h i j d le jl passes =
    let long = length-map rows entry in
    ap (λ (e : Entry). test e.0) (sym (entry_at rows i d (omega (arith, le, jl))))
    ∙ partitioned test falls (entries rows) h i j (entry d) le (omega (arith, long, jl)) (ap (λ (e : Entry). test e.0) (entry_at rows j d jl) ∙ passes)

pub cut_entries : (test : Key → Bool) (rows : List Row) (at : ℕ) → at ≤ length rows → IsPartitionPoint (λ (r : Row). test (entry r).0 ≡ true) (λ (r : Row). test (entry r).0 ≡ false) rows at → IsCut test (entries rows) at
cut_entries test rows at l point = (
  (let long = length-map rows entry in omega (arith, long, l)),
  point_map entry (λ (e : Entry). test e.0 ≡ true) (λ (e : Entry). test e.0 ≡ false) rows at l point,
)

-- ---- the row at a key

pub stored_there : (rows : List Row) (pk rk : List ℕ) (at : ℕ) (d : Row) → are_rising (entries rows) ≡ true → EndsAt (λ k. key_cmp k (key_at pk rk)) (entries rows) (Ok at) → row_at (entries rows) pk rk ≡ Some (stored (get_or rows at d).1)
stored_there rows pk rk at d h ends =
    find_at (key_at pk rk) (entries rows) at (entry d) h ends.0 (ends.1 (entry d))
    ∙ ap (λ (e : Entry). Some e.1) (entry_at rows at d (let long = length-map rows entry in let l = ends.0 in omega (arith, long)))

pub shown_there : (rows : List Row) (pk rk : List ℕ) (at : ℕ) (d : Row) → are_rising (entries rows) ≡ true → EndsAt (λ k. key_cmp k (key_at pk rk)) (entries rows) (Ok at) → option_map (shown rk) (row_at (entries rows) pk rk) ≡ Some (get_or rows at d).1
shown_there rows pk rk at d h ends =
    let row = get_or rows at d in
    let l : at < length rows = (let long = length-map rows entry in let l = ends.0 in omega (arith, long)) in
    let tie : key_cmp (entry row).0 (key_at pk rk) ≡ Equal = ap (λ (e : Entry). key_cmp e.0 (key_at pk rk)) (sym (entry_at rows at d l)) ∙ ends.1 (entry d) in
    ap (option_map (shown rk)) (stored_there rows pk rk at d h ends)
    ∙ ap (λ (k : Key). Some (shown k.rk (stored row.1))) (sym (key_ties (entry row).0 (key_at pk rk) tie))
