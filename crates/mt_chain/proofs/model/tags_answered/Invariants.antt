use Rattle.std.proofs.Common.{◌≡◌, ◌++◌, drop}
use Rattle.mt_chain.specs.Table.{table_of}
use Rattle.mt_chain.specs.Batch.{tags_answered}
use Rattle.mt_chain.proofs.model.tags_answered.Given as goal

abbrev pub invariant-loop-index : goal.invariant-loop-index
invariant-loop-index l = l.told.items ++ tags_answered (drop l.index l.ops) (drop l.index l.tags) (table_of l.rows) ≡ tags_answered l.ops l.tags (table_of l.rows)
