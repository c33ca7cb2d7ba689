-- How many rows pages have.
use Rattle.std.proofs.Common.{◌≡◌, ℕ, suc, ◌+◌, ◌<◌, ◌≤◌, max, List, [], ◌∷◌, ◌++◌, map, length, drop, get_or, refl, sym, ap, ◌∙◌, arith, All, drop-cons}
use Rattle.std.proofs.lemmas.List.{length-map}
use Rattle.std.proofs.lemmas.List.Sums.{sum-map}
use Rattle.std.proofs.lemmas.List.Concat.{length-flat_map}
use Rattle.std.proofs.lemmas.List.Elements.{All-from_recursion}
use Rattle.std.specs.List.{AllByRecursion}
use Rattle.mt_mem.specs.Entries.{Row, entry}
use Rattle.mt_paged.specs.Pages.{joined, AreFilled, Paging, rows_in}
use Rattle.mt_paged.specs.Paged.{greatest, AreSizes}

sizes_some : (pages : List (List Row)) → AreFilled pages → AllByRecursion (λ n. 0 < n) (map length pages)
sizes_some [] f = tt
sizes_some (p ∷ pages) f = (f.0, sizes_some pages f.1)

sizes_few : (bound : ℕ) (ns : List ℕ) → greatest ns ≤ bound → AllByRecursion (λ n. n ≤ bound) ns
sizes_few bound [] h = tt
sizes_few bound (n ∷ ns) h = (omega (arith, h), sizes_few bound ns (omega (arith, h)))

pub are_sizes : (paging : Paging) → AreFilled paging.pages → greatest (map length paging.pages) ≤ 128 → AreSizes (map length paging.pages) (length (rows_in paging))
are_sizes paging f few = record {
  some = All-from_recursion (λ n. 0 < n) (map length paging.pages) (sizes_some paging.pages f);
  few = All-from_recursion (λ n. n ≤ 128) (map length paging.pages) (sizes_few 128 (map length paging.pages) few);
  all = sum-map (λ (p : List Row). length p) paging.pages ∙ sym (length-flat_map (λ (p : List Row). p) paging.pages) ∙ sym (length-map (joined paging.pages) entry);
}

-- one page more is looked at
pub one_more : (pages : List (List Row)) (at largest : ℕ) → at < length pages → max (max largest (length (get_or pages at []))) (greatest (map length (drop (at + 1) pages))) ≡ max largest (greatest (map length (drop at pages)))
one_more pages at largest l =
    let on : at + 1 ≡ suc at = omega arith in
    let n = length (get_or pages at []) in
    ap (λ k. max (max largest n) (greatest (map length (drop k pages)))) on
    ∙ regroup largest n (greatest (map length (drop (suc at) pages)))
    ∙ sym (ap (λ (ps : List (List Row)). max largest (greatest (map length ps))) (drop-cons pages at [] l)) where
      regroup : (a b c : ℕ) → max (max a b) c ≡ max a (max b c)
      regroup a b c = omega arith
