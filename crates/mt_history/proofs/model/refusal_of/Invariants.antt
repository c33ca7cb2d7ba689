use Rattle.std.proofs.Common.{◌≡◌, drop}
use Rattle.mt_chain.specs.Table.{table_of}
use Rattle.mt_chain.specs.Batch.{refusal_from, refusal_of}
use Rattle.mt_history.proofs.model.refusal_of.Given as goal

abbrev pub invariant-loop-index : goal.invariant-loop-index
invariant-loop-index l = refusal_from l.index (drop l.index l.ops) (table_of l.rows) ≡ refusal_of l.ops (table_of l.rows)
