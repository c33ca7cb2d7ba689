use Rattle.std.proofs.Common.{rules, ◌∙◌}
use Rattle.std.proofs.lemmas.Fn.{always_returns_same}
use Rattle.std.specs.Ordering.{nat_cmp}
use Rattle.std.specs.Cmp.Lexicographic.{slice_cmp}
use Rattle.mt_chain.proofs.OrderLaws.{partition_rises}
use Rattle.mt_chain.proofs.SearchLaws.{has_partition_by}
use Rattle.mt_mem.specs.Entries.{entry, entries}
use Rattle.mt_mem.proofs.EntryLaws.{search_entries}
use Rattle.mt_mem.proofs.lookup.has_partition.Goals as goal

pub returns : goal.returns
returns c =
    let pk = c.args.pk.now in
    let found = c.binary_search_by-found.ensures in
    c.is_ok.ensures.value
    ∙ has_partition_by pk (entries c.args.rows.now) c.binary_search_by-found.result
    (search_entries (λ k. slice_cmp nat_cmp k.pk pk) (partition_rises pk) c.args.rows.now c.binary_search_by-found.result c.requires found.bound
    (found.position (λ r. slice_cmp nat_cmp (entry r).0.pk pk) (always_returns_same _ _ _ (λ a r f called. search rules))))
