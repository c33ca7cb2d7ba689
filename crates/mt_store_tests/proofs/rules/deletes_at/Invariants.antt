use Rattle.std.proofs.Common.{All}
use Rattle.mt_rules.specs.Batches.{MayAsk}
use Rattle.mt_store_tests.proofs.rules.deletes_at.Given as goal

abbrev pub invariant-loop-pk : goal.invariant-loop-pk
invariant-loop-pk l = All MayAsk l.ops.items
