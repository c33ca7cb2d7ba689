use Rattle.std.proofs.Common.{◌≡◌, ◌++◌, drop}
use Rattle.mt_chain.specs.Table.{table_of}
use Rattle.mt_chain.specs.Batch.{refusal_from, refusal_of}
use Rattle.mt_chain.specs.Model.{rows_left}
use Rattle.mt_chain.proofs.model.judge.Given as goal

abbrev pub invariant-loop-index : goal.invariant-loop-index
invariant-loop-index l = record {
  refusal : refusal_from l.index (drop l.index l.ops) (table_of l.rows) ≡ refusal_of l.ops (table_of l.rows);
  left : l.left.items ++ rows_left (drop l.index l.ops) (drop l.index l.tags) (table_of l.rows) ≡ rows_left l.ops l.tags (table_of l.rows);
}
