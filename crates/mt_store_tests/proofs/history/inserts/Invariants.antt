use Rattle.std.proofs.Common.{All}
use Rattle.mt_rules.specs.Batches.{MayAsk}
use Rattle.mt_store_tests.proofs.history.inserts.Given as goal

abbrev pub invariant-loop-row : goal.invariant-loop-row
invariant-loop-row l = All MayAsk l.ops.items
