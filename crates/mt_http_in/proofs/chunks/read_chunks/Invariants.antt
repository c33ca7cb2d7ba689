use Rattle.std.proofs.Common.{◌-◌, length}
use Rattle.mt_http_in.specs.Chunks.{Between}
use Rattle.mt_http_in.proofs.chunks.read_chunks.Given as goal

abbrev pub invariant-chunks : goal.invariant-chunks
invariant-chunks g l = Between l.fn.reader (g.S.Source.input l.fn.source) l.body l.reader (g.S.Source.input l.source)

abbrev pub decreases-chunks : goal.decreases-chunks
decreases-chunks g l = 4194304 - length l.body
