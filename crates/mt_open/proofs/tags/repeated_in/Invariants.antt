use Rattle.std.proofs.Common.{take}
use Rattle.mt_open.specs.Repeats.{AreCounted}
use Rattle.mt_open.proofs.tags.repeated_in.Given as goal

abbrev pub invariant-loop-row : goal.invariant-loop-row
invariant-loop-row l = AreCounted l.store.number (take l.row-index l.store.contents.rows) l.seen l.repeated
