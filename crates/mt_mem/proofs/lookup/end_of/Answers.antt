use Rattle.std.proofs.Common.{rules}
use Rattle.std.proofs.lemmas.List.Sorted.{IsPartitionPoint-from_clause}
use Rattle.mt_chain.specs.Places.{is_not_past}
use Rattle.mt_chain.proofs.OrderLaws.{not_past_falls}
use Rattle.mt_mem.specs.Entries.{entry}
use Rattle.mt_mem.proofs.EntryLaws.{partitioned_rows, cut_entries}
use Rattle.mt_mem.proofs.lookup.end_of.Goals as goal

pub returns : goal.returns
returns c =
    let test = is_not_past c.args.pk.now c.args.upto.now in
    cut_entries test c.args.rows.now c.partition_point.result c.partition_point.ensures.bound
    (IsPartitionPoint-from_clause (λ r. test (entry r).0) c.args.rows.now c.partition_point.result c.partition_point.ensures.partitioned
    (partitioned_rows test (not_past_falls c.args.pk.now c.args.upto.now) c.args.rows.now c.requires) (λ a r f called. search rules))
