use Rattle.mt_http_in.specs.Heads.{IsHeadBytes}
use Rattle.mt_http_in.proofs.FillLaws.{reached_none, reached_fill}
use Rattle.mt_http_in.proofs.HeadLaws.{begun_none}
use Rattle.mt_http_in.proofs.heads.read_head.Goals as goal

pub heads-init : goal.heads-init
heads-init g c = reached_none IsHeadBytes c.args.reader.now (g.S.Source.input c.args.source.now)

pub heads-preserved : goal.heads-preserved
heads-preserved g c =
    reached_fill IsHeadBytes c.args.reader.now (g.S.Source.input c.args.source.now) c.heads.reader (g.S.Source.input c.heads.source) c.in-Ok.field-0 c.fill.new.self (g.S.Source.input c.fill.new.source) c.heads.invariant
    (begun_none c.heads.reader c.as_slice.result.now c.as_slice.ensures (rw c.in-Ok-More.field-0-is at c.in-Ok-More.ensures)) c.in-Ok.ensures c.in-Ok.field-0-test.1
