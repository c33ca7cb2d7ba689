use Rattle.mt_http_in.proofs.BodyLaws.{chunked_whole, chunked_stops}
use Rattle.mt_http_in.proofs.bodies.read_chunked.Goals as goal

pub returns-in-Ok-read_trailers : goal.returns-in-Ok-read_trailers
returns-in-Ok-read_trailers g c =
    chunked_whole c.args.room c.args.reader.now (g.S.Source.input c.args.source.now) c.in-Ok.body c.read_chunks.new.reader (g.S.Source.input c.read_chunks.new.source) c.in-Ok.ensures c.read_trailers.new.reader (g.S.Source.input c.read_trailers.new.source)
    c.in-Ok-read_trailers.ensures

pub returns-in-Err-read_trailers : goal.returns-in-Err-read_trailers
returns-in-Err-read_trailers g c =
    chunked_stops c.args.room c.args.reader.now (g.S.Source.input c.args.source.now) c.in-Ok.body c.read_chunks.new.reader (g.S.Source.input c.read_chunks.new.source) c.in-Ok.ensures c.in-Err-read_trailers.halt c.read_trailers.new.reader
    (g.S.Source.input c.read_trailers.new.source) c.in-Err-read_trailers.ensures
