-- Pages of rows as pages of entries.
use Rattle.std.proofs.Common.{◌≡◌, ℕ, suc, ◌<◌, ◌≤◌, Bool, true, false, ◌&&◌, List, [], ◌∷◌, ◌++◌, length, take, drop, map, get_or, refl, sym, ap, ◌∙◌, arith}
use Rattle.std.proofs.lemmas.Bool.{and_parts}
use Rattle.std.proofs.lemmas.List.{length-map, get_or-map, map-append}
use Rattle.std.specs.List.Sorted.{IsPartitionedBy}
use Rattle.std.specs.Ordering.{is_lt}
use Rattle.std.specs.FinMap.Entries.{below_all}
use Rattle.mt_model.specs.declared.key.Key.{Key}
use Rattle.mt_model.specs.Key.{key_cmp}
use Rattle.mt_chain.specs.declared.row.Stored.{Stored}
use Rattle.mt_chain.specs.Rows.{Rows, are_rising}
use Rattle.mt_chain.proofs.SearchLaws.{rest_rising, head_below}
use Rattle.mt_mem.specs.Entries.{Row, entry, entries}
use Rattle.mt_mem.proofs.EditLaws.{last_rising}
use Rattle.mt_paged.specs.Pages.{joined, AreFilled, sheets}
use Rattle.mt_paged.proofs.PagesLaws.{around}

abbrev Entry : Type 0
Entry = Key × Stored

pub joined_sheets : (pages : List (List Row)) → entries (joined pages) ≡ joined (sheets pages)
joined_sheets [] = refl
joined_sheets (p ∷ pages) = map-append entry p (joined pages) ∙ ap (λ es. entries p ++ es) (joined_sheets pages)

pub filled_sheets : (pages : List (List Row)) → AreFilled pages → AreFilled (sheets pages)
filled_sheets [] h = tt
filled_sheets (p ∷ pages) h = ((let n = length-map p entry in let l = h.0 in omega (arith, n)), filled_sheets pages h.1)

pub first_rising : (A B : Rows) → are_rising (A ++ B) ≡ true → are_rising A ≡ true
first_rising [] B h = refl
first_rising (e ∷ A) B h = ap (λ t. t && are_rising A) (part A (head_below e (A ++ B) h)) ∙ first_rising A B (rest_rising e (A ++ B) h) where
  part : (A : Rows) → below_all key_cmp e.0 (A ++ B) ≡ true → below_all key_cmp e.0 A ≡ true
  part [] h = refl
  part (a ∷ A) h = let p = and_parts (is_lt (key_cmp e.0 a.0)) (below_all key_cmp e.0 (A ++ B)) h in ap (λ t. t && below_all key_cmp e.0 A) p.0 ∙ part A p.1

pub sheet_rising : (pages : List Rows) (at : ℕ) (d : Rows) → are_rising (joined pages) ≡ true → at < length pages → are_rising (get_or pages at d) ≡ true
sheet_rising pages at d h l = first_rising (get_or pages at d) (joined (drop (suc at) pages)) (last_rising (joined (take at pages)) (get_or pages at d ++ joined (drop (suc at) pages)) (ap are_rising (sym (around pages at d l)) ∙ h))

-- ---- from pages of rows

pub get_sheet : (pages : List (List Row)) (k : ℕ) (d : List Row) → k < length pages → get_or (sheets pages) k (entries d) ≡ entries (get_or pages k d)
get_sheet pages k d l = get_or-map entries pages k d (entries d) l

pub lists_parted : (test : Rows → Bool) (pages : List (List Row)) → IsPartitionedBy test (sheets pages) → IsPartitionedBy (λ (p : List Row). test (entries p)) pages
lists_parted test pages h i j d le jl passes =
    let long = length-map pages entries in
    ap test (sym (get_sheet pages i d (omega (arith, le, jl))))
    ∙ h i j (entries d) le (omega (arith, long, jl)) (ap test (get_sheet pages j d jl) ∙ passes)
