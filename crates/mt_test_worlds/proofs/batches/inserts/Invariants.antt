use Rattle.std.proofs.Common.{All}
use Rattle.mt_rules.specs.Batches.{MayAsk}
use Rattle.mt_test_worlds.proofs.batches.inserts.Given as goal

abbrev pub invariant-loop-n : goal.invariant-loop-n
invariant-loop-n l = All MayAsk l.ops.items
