use Rattle.mt_http_in.specs.Chunks.{IsLineBytes}
use Rattle.mt_http_in.proofs.FillLaws.{reached_none, reached_fill}
use Rattle.mt_http_in.proofs.ChunkLaws.{line_late, line_long, line_none}
use Rattle.mt_http_in.proofs.chunks.read_line.Goals as goal

pub lines-init : goal.lines-init
lines-init g c = reached_none IsLineBytes c.args.reader.now (g.S.Source.input c.args.source.now)

pub returns-then-len-gt-MAX_LINE : goal.returns-then-len-gt-MAX_LINE
returns-then-len-gt-MAX_LINE g c =
    line_long c.args.reader.now (g.S.Source.input c.args.source.now) c.lines.reader c.as_slice.result.now (g.S.Source.input c.lines.source) c.in-Ok-Complete.len c.in-Ok-Complete.size c.lines.invariant c.as_slice.ensures
    (rw c.in-Ok-Complete.field-0-is at c.in-Ok-Complete.ensures.complete) c.if-len-gt-MAX_LINE.true

pub returns-then-len-ge-MAX_LINE : goal.returns-then-len-ge-MAX_LINE
returns-then-len-ge-MAX_LINE g c =
    line_late c.args.reader.now (g.S.Source.input c.args.source.now) c.lines.reader c.as_slice.result.now (g.S.Source.input c.lines.source) c.len.result c.lines.invariant c.as_slice.ensures
    (rw c.in-Ok-Partial.field-0-is at c.in-Ok-Partial.ensures.partial) c.len.ensures.value c.if-len-ge-MAX_LINE.true

pub lines-preserved : goal.lines-preserved
lines-preserved g c =
    reached_fill IsLineBytes c.args.reader.now (g.S.Source.input c.args.source.now) c.lines.reader (g.S.Source.input c.lines.source) c.in-Ok.field-0 c.fill.new.self (g.S.Source.input c.fill.new.source) c.lines.invariant
    (line_none c.lines.reader c.as_slice.result.now c.as_slice.ensures (rw c.in-Ok-Partial.field-0-is at c.in-Ok-Partial.ensures.partial)) c.in-Ok.ensures c.in-Ok.field-0-test.1
