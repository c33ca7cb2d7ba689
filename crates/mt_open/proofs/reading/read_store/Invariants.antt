use Rattle.std.proofs.Common.{◌-◌, ◌^◌}
use Rattle.mt_open.specs.Reading.{Walked}
use Rattle.mt_open.proofs.reading.read_store.Given as goal

abbrev pub invariant-loop-next : goal.invariant-loop-next
invariant-loop-next g l = Walked (g.K.Keeper.state l.fn.keeper) l.at l.rows.items (g.K.Keeper.state l.keeper)

abbrev pub decreases-loop-next : goal.decreases-loop-next
decreases-loop-next g l = 2 ^ 62 - (g.K.Keeper.state l.keeper).calls
