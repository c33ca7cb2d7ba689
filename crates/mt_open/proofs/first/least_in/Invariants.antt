use Rattle.mt_open.specs.Holdings.{pair_in}
use Rattle.mt_meta.specs.Steps.{contents_of}
use Rattle.mt_open.proofs.LeastLaws.{NoneBefore}
use Rattle.mt_open.proofs.first.least_in.Given as goal

abbrev pub invariant-loop-row : goal.invariant-loop-row
invariant-loop-row l = NoneBefore (pair_in l.stores) l.rule l.side (contents_of (pair_in l.stores) l.side).rows l.row-index
