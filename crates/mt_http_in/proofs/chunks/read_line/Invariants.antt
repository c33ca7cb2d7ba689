use Rattle.std.proofs.Common.{◌-◌, ◌^◌}
use Rattle.mt_http_in.specs.Filling.{Reached}
use Rattle.mt_http_in.specs.Chunks.{IsLineBytes}
use Rattle.mt_http_in.proofs.chunks.read_line.Given as goal

abbrev pub invariant-lines : goal.invariant-lines
invariant-lines g l = Reached IsLineBytes l.fn.reader (g.S.Source.input l.fn.source) l.reader (g.S.Source.input l.source)

abbrev pub decreases-lines : goal.decreases-lines
decreases-lines g l = 2 ^ 32 - (g.S.Source.input l.source).calls
