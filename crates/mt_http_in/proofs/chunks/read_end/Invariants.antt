use Rattle.std.proofs.Common.{◌-◌, ◌^◌}
use Rattle.mt_http_in.specs.Filling.{Reached}
use Rattle.mt_http_in.specs.Chunks.{IsPairOfBytes}
use Rattle.mt_http_in.proofs.chunks.read_end.Given as goal

abbrev pub invariant-ends : goal.invariant-ends
invariant-ends g l = Reached IsPairOfBytes l.fn.reader (g.S.Source.input l.fn.source) l.reader (g.S.Source.input l.source)

abbrev pub decreases-ends : goal.decreases-ends
decreases-ends g l = 2 ^ 32 - (g.S.Source.input l.source).calls
