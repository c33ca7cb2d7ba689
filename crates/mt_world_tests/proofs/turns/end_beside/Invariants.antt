use Rattle.std.proofs.Common.{◌≡◌, true}
use Rattle.mt_world.specs.Moves.{CanStep}
use Rattle.mt_world.specs.Turns.{Knows}
use Rattle.mt_world.specs.WholeCalls.{is_client}
use Rattle.mt_world_tests.proofs.turns.end_beside.Given as goal

abbrev pub invariant-loop-turns : goal.invariant-loop-turns
invariant-loop-turns l = CanStep l.actor × Knows l.world l.actor × Knows l.world l.fn.other × (is_client l.actor ≡ true)
