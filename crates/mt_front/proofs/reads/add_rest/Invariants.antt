use Rattle.std.proofs.Common.{take}
use Rattle.mt_front.proofs.ReadLaws.{Added}
use Rattle.mt_front.proofs.reads.add_rest.Given as goal

abbrev pub invariant-loop-row : goal.invariant-loop-row
invariant-loop-row l = Added l.show l.fn.body.items (take l.row-index l.rows) l.body.items
