use Rattle.std.proofs.Common.{All}
use Rattle.mt_rules.specs.Batches.{MayAsk}
use Rattle.mt_test_worlds.proofs.batches.ops_of.Given as goal

abbrev pub invariant-loop-sample : goal.invariant-loop-sample
invariant-loop-sample l = All MayAsk l.ops.items
