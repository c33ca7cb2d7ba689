use Rattle.std.proofs.Common.{take}
use Rattle.mt_front.proofs.ChangeSetLaws.{Gathered}
use Rattle.mt_front.proofs.change_sets.asked_together.Given as goal

abbrev pub invariant-loop-index : goal.invariant-loop-index
invariant-loop-index l = Gathered l.table (take l.index l.parts) l.ops.items l.echoes.items
