use Rattle.std.proofs.Common.{◌-◌, ◌^◌}
use Rattle.mt_open.specs.Reading.{ReadUpTo}
use Rattle.mt_open.proofs.reading.read_partition.Given as goal

abbrev pub invariant-loop-place : goal.invariant-loop-place
invariant-loop-place g l = ReadUpTo (g.K.Keeper.state l.fn.keeper) l.pk l.fn.rows.items l.from l.rows.items (g.K.Keeper.state l.keeper)

abbrev pub decreases-loop-place : goal.decreases-loop-place
decreases-loop-place g l = 2 ^ 62 - (g.K.Keeper.state l.keeper).calls
