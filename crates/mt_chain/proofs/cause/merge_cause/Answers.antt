use Rattle.std.proofs.Common.{rules}
use Rattle.mt_chain.proofs.MergeLaws.{limits_visible}
use Rattle.mt_chain.proofs.cause.merge_cause.Goals as goal

pub returns-then-merged_count-gt-MAX_PROPERTIES-clause-visible : goal.returns-then-merged_count-gt-MAX_PROPERTIES-clause-visible
returns-then-merged_count-gt-MAX_PROPERTIES-clause-visible c = rw (limits_visible c.args.own.now c.args.over.now c.merged_count.ensures.valid.0 c.merged_count.ensures.valid.1) (search rules)

pub returns-then-merged_size-gt-MAX_BYTES-clause-visible : goal.returns-then-merged_size-gt-MAX_BYTES-clause-visible
returns-then-merged_size-gt-MAX_BYTES-clause-visible c = rw (limits_visible c.args.own.now c.args.over.now c.merged_count.ensures.valid.0 c.merged_count.ensures.valid.1) (search rules)

pub returns-clause-visible : goal.returns-clause-visible
returns-clause-visible c = rw (limits_visible c.args.own.now c.args.over.now c.merged_count.ensures.valid.0 c.merged_count.ensures.valid.1) (search rules)
