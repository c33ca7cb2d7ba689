use Rattle.std.proofs.Common.{rules, true, false, ap, ◌∙◌, ◌≡◌, ◌-◌, ◌<◌, ◌≤◌, subst, length, sym, List, arith}
use Rattle.std.proofs.lemmas.List.{length-map}
use Rattle.std.proofs.lemmas.List.Sorted.{IsPartitionPoint-from_clause}
use Rattle.mt_chain.specs.Rows.{Rows, are_rising}
use Rattle.mt_chain.proofs.Searches.{point_map}
use Rattle.mt_mem.specs.Entries.{Row, entries}
use Rattle.mt_paged.specs.Pages.{AreFilled, joined, sheets, Paging}
use Rattle.mt_paged.specs.Fronts.{is_in_front, begins_in, IsLastIn}
use Rattle.mt_paged.proofs.SheetLaws.{joined_sheets, filled_sheets, lists_parted}
use Rattle.mt_paged.proofs.FrontLaws.{pages_parted, last_from_cut}
use Rattle.mt_paged.proofs.HomeLaws.{front_falls}
use Rattle.mt_paged.proofs.pages.Pages.last_in.Goals as goal

pub returns : goal.returns
returns c =
    let test = is_in_front c.args.front in
    let list : List (List Row) = c.deref.result.now in
    let same : list ≡ c.args.self.now.pages = c.deref.ensures.value ∙ ap (λ (v : Paging). v.pages) c.self.view_is in
    let rising = ap are_rising (sym (joined_sheets list)) ∙ ap (λ ps. are_rising (entries (joined ps))) same ∙ c.requires.rising in
    let filled : AreFilled list = rw c.deref.ensures.value c.self.invariant.0 in
    let past = c.partition_point-past in
    let long = length-map list entries in
    let some : 0 < length list = subst (λ ps. 0 < length ps) (sym same) c.requires.some in
    let falls = front_falls c.args.front in
    let bound : past.result ≤ length list = past.ensures.bound in
    rw c.saturating_sub.ensures
    (subst (λ ps. IsLastIn test (sheets ps) (past.result - 1)) same
    (last_from_cut test falls (sheets list) past.result (filled_sheets list filled) rising (omega (arith, long, some)) (omega (arith, long, bound))
    (point_map entries (λ (p : Rows). begins_in test p ≡ true) (λ (p : Rows). begins_in test p ≡ false) list past.result bound
    (IsPartitionPoint-from_clause (λ p. begins_in test (entries p)) list past.result past.ensures.partitioned
    (lists_parted (begins_in test) list (pages_parted test falls (sheets list) (filled_sheets list filled) rising)) (λ a r f called. search rules)))))
