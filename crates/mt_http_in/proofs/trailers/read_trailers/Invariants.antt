use Rattle.std.proofs.Common.{◌-◌, ◌^◌}
use Rattle.mt_http_in.specs.Filling.{Reached}
use Rattle.mt_http_in.specs.Trailers.{IsSectionBytes}
use Rattle.mt_http_in.proofs.trailers.read_trailers.Given as goal

abbrev pub invariant-trailers : goal.invariant-trailers
invariant-trailers g l = Reached IsSectionBytes l.fn.reader (g.S.Source.input l.fn.source) l.reader (g.S.Source.input l.source)

abbrev pub decreases-trailers : goal.decreases-trailers
decreases-trailers g l = 2 ^ 32 - (g.S.Source.input l.source).calls
