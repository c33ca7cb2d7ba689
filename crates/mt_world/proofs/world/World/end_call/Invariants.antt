use Rattle.mt_world.specs.Moves.{CanStep}
use Rattle.mt_world.specs.Turns.{Knows}
use Rattle.mt_world.proofs.FinishLaws.{Went, calls_left}
use Rattle.mt_world.proofs.world.World.end_call.Given as goal

abbrev pub invariant-loop-answer : goal.invariant-loop-answer
invariant-loop-answer g l = CanStep l.actor × Knows l.self l.actor × Went l.fn.self l.fn.caller l.fn.actor l.self l.actor

abbrev pub decreases-loop-answer : goal.decreases-loop-answer
decreases-loop-answer g l = calls_left l.self
