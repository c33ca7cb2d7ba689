use Rattle.std.proofs.Common.{take}
use Rattle.mt_world.specs.Replays.{IsReplay}
use Rattle.mt_world.proofs.replay.replayed.Given as goal

abbrev pub invariant-loop-at : goal.invariant-loop-at
invariant-loop-at l = IsReplay l.fn.rows (take l.at l.log.history.entries) l.rows
