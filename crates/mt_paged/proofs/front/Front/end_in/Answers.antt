use Rattle.std.proofs.Common.{rules}
use Rattle.std.proofs.lemmas.List.Sorted.{IsPartitionPoint-from_clause}
use Rattle.mt_mem.specs.Entries.{entry}
use Rattle.mt_mem.proofs.EntryLaws.{partitioned_rows, cut_entries}
use Rattle.mt_paged.specs.Fronts.{is_in_front}
use Rattle.mt_paged.proofs.HomeLaws.{front_falls}
use Rattle.mt_paged.proofs.front.Front.end_in.Goals as goal

pub returns : goal.returns
returns c =
    let test = is_in_front c.args.self.now in
    cut_entries test c.args.rows.now c.partition_point.result c.partition_point.ensures.bound
    (IsPartitionPoint-from_clause (λ r. test (entry r).0) c.args.rows.now c.partition_point.result c.partition_point.ensures.partitioned
    (partitioned_rows test (front_falls c.args.self.now) c.args.rows.now c.requires) (λ a r f called. search rules))
