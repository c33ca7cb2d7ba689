use Rattle.mt_http_in.proofs.ChunkLaws.{chunks_last, chunks_stop, chunks_more, chunk_stops}
use Rattle.mt_http_in.proofs.chunks.read_chunks.Goals as goal

pub returns-in-Err : goal.returns-in-Err
returns-in-Err g c =
    chunks_stop c.args.reader.now (g.S.Source.input c.args.source.now) c.chunks.body c.chunks.reader (g.S.Source.input c.chunks.source) c.chunks.invariant c.in-Err.halt c.read_line.new.reader (g.S.Source.input c.read_line.new.source) c.in-Err.ensures

pub returns-then-size-eq0 : goal.returns-then-size-eq0
returns-then-size-eq0 g c =
    chunks_last c.args.reader.now (g.S.Source.input c.args.source.now) c.chunks.body c.chunks.reader (g.S.Source.input c.chunks.source) c.chunks.invariant c.read_line.new.reader (g.S.Source.input c.read_line.new.source) c.in-Ok.size c.in-Ok.ensures
    c.if-size-eq0.true

pub chunks-preserved : goal.chunks-preserved
chunks-preserved g c =
    chunks_more c.args.reader.now (g.S.Source.input c.args.source.now) c.chunks.body c.chunks.reader (g.S.Source.input c.chunks.source) c.chunks.invariant c.read_line.new.reader (g.S.Source.input c.read_line.new.source) c.in-Ok.size c.in-Ok.ensures
    c.if-size-eq0.false c.read_content.new.reader (g.S.Source.input c.read_content.new.source) c.in-Ok-read_content.longer c.in-Ok-read_content.ensures

pub returns-in-Err-read_content : goal.returns-in-Err-read_content
returns-in-Err-read_content g c =
    chunk_stops c.args.reader.now (g.S.Source.input c.args.source.now) c.chunks.body c.chunks.reader (g.S.Source.input c.chunks.source) c.chunks.invariant c.read_line.new.reader (g.S.Source.input c.read_line.new.source) c.in-Ok.size c.in-Ok.ensures
    c.if-size-eq0.false c.in-Err-read_content.halt c.read_content.new.reader (g.S.Source.input c.read_content.new.source) c.in-Err-read_content.ensures
