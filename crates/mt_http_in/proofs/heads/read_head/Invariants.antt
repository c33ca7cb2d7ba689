use Rattle.std.proofs.Common.{◌-◌, ◌^◌}
use Rattle.mt_http_in.specs.Filling.{Reached}
use Rattle.mt_http_in.specs.Heads.{IsHeadBytes}
use Rattle.mt_http_in.proofs.heads.read_head.Given as goal

abbrev pub invariant-heads : goal.invariant-heads
invariant-heads g l = Reached IsHeadBytes l.fn.reader (g.S.Source.input l.fn.source) l.reader (g.S.Source.input l.source)

abbrev pub decreases-heads : goal.decreases-heads
decreases-heads g l = 2 ^ 32 - (g.S.Source.input l.source).calls
