use Rattle.std.proofs.Common.{◌+◌, length}
use Rattle.mt_open.specs.Holdings.{pair_in}
use Rattle.mt_open.proofs.WalkLaws.{Tabled}
use Rattle.mt_open.proofs.walk.logical_table.Given as goal

abbrev pub invariant-loop-key : goal.invariant-loop-key
invariant-loop-key l = Tabled (pair_in l.stores) l.items.items l.old l.new

abbrev pub decreases-loop-key : goal.decreases-loop-key
decreases-loop-key l = length l.old + length l.new
