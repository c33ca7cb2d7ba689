use Rattle.std.specs.Prelude.{◌<◌, ◌-◌}
use Rattle.mt_world.specs.Moves.{CanStep}
use Rattle.mt_world.specs.Turns.{Knows}
use Rattle.mt_world.proofs.StepsLaws.{Along}
use Rattle.mt_world.proofs.world.World.steps.Given as goal

abbrev pub invariant-loop-taken : goal.invariant-loop-taken
invariant-loop-taken g l = (l.taken < l.fn.steps) × CanStep l.actor × Knows l.self l.actor × Along l.fn.self l.fn.caller l.fn.actor l.taken l.self l.actor

abbrev pub decreases-loop-taken : goal.decreases-loop-taken
decreases-loop-taken g l = l.fn.steps - l.taken
