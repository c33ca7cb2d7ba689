use Rattle.std.proofs.Common.{◌+◌}
use Rattle.mt_open.specs.Holdings.{pair_in}
use Rattle.mt_open.proofs.FirstLaws.{CleanBelow}
use Rattle.mt_open.proofs.first.first_by_rows.Given as goal

abbrev pub invariant-loop-at : goal.invariant-loop-at
invariant-loop-at l = CleanBelow (pair_in l.stores) (l.at + 1)
