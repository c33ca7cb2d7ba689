use Rattle.std.proofs.Common.{length}
use Rattle.mt_mime.specs.Marks.{Passed}
use Rattle.mt_mime.proofs.marks.to_mark.Given as goal

abbrev pub invariant-lines : goal.invariant-lines
invariant-lines l = Passed l.boundary l.bytes l.rest

abbrev pub decreases-lines : goal.decreases-lines
decreases-lines l = length l.rest
