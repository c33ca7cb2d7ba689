use Rattle.std.proofs.Common.{length}
use Rattle.mt_mime.specs.Lines.{left}
use Rattle.mt_mime.specs.Parts.{Begun}
use Rattle.mt_mime.proofs.split.split_parts.Given as goal

abbrev pub invariant-parts : goal.invariant-parts
invariant-parts l = Begun l.boundary l.body l.mark l.parts.items

abbrev pub decreases-parts : goal.decreases-parts
decreases-parts l = length (left l.mark.rest)
