use Rattle.mt_mime.specs.Lines.{NoEndBefore}
use Rattle.mt_mime.proofs.lines.peel_line.Given as goal

abbrev pub invariant-loop-at : goal.invariant-loop-at
invariant-loop-at l = NoEndBefore l.bytes l.at
