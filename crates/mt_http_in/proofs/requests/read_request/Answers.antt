use Rattle.mt_http_in.proofs.RequestLaws.{after_head, no_head}
use Rattle.mt_http_in.proofs.requests.read_request.Goals as goal

pub returns-in-Ok-Some : goal.returns-in-Ok-Some
returns-in-Ok-Some g c =
    after_head c.args.reader.now (g.S.Source.input c.args.source.now) (g.T.Sink.output c.args.sink.now) c.in-Ok-Some.head c.read_head.new.reader (g.S.Source.input c.read_head.new.source) c.read_rest.result c.read_rest.new.reader
    (g.S.Source.input c.read_rest.new.source) (g.T.Sink.output c.read_rest.new.sink) (rw c.in-Ok-Some.field-0-is at c.in-Ok-Some.ensures) c.read_rest.ensures

pub returns-in-Err : goal.returns-in-Err
returns-in-Err g c =
    no_head c.args.reader.now (g.S.Source.input c.args.source.now) (g.T.Sink.output c.args.sink.now) c.in-Err.halt c.fault_of.result c.read_head.new.reader (g.S.Source.input c.read_head.new.source) c.in-Err.ensures c.fault_of.ensures
