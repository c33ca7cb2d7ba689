use Rattle.std.proofs.Common.{rules}
use Rattle.std.proofs.lemmas.List.Sorted.{IsPartitionPoint-from_clause}
use Rattle.mt_chain.specs.Places.{is_passed}
use Rattle.mt_chain.proofs.OrderLaws.{passed_falls}
use Rattle.mt_mem.specs.Entries.{entry}
use Rattle.mt_mem.proofs.EntryLaws.{partitioned_rows, cut_entries}
use Rattle.mt_mem.proofs.lookup.place_past.Goals as goal

pub returns : goal.returns
returns c =
    let test = is_passed c.args.at.now in
    cut_entries test c.args.rows.now c.partition_point.result c.partition_point.ensures.bound
    (IsPartitionPoint-from_clause (λ r. test (entry r).0) c.args.rows.now c.partition_point.result c.partition_point.ensures.partitioned
    (partitioned_rows test (passed_falls c.args.at.now) c.args.rows.now c.requires) (λ a r f called. search rules))
