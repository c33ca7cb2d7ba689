use Rattle.std.proofs.Common.{◌≡◌, drop}
use Rattle.mt_chain.specs.Batch.{refusal_from, refusal_of}
use Rattle.mt_batch_plan.specs.Bases.{table_on}
use Rattle.mt_batch_plan.proofs.judge.refusal_on.Given as goal

abbrev pub invariant-loop-index : goal.invariant-loop-index
invariant-loop-index l = refusal_from l.index (drop l.index l.ops) (table_on l.basis) ≡ refusal_of l.ops (table_on l.basis)
