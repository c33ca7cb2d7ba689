use Rattle.mt_front.proofs.TurnLaws.{turn_answered, turn_faulted}
use Rattle.mt_front.proofs.connection.take_turn.Goals as goal

pub returns-in-Ok-Some : goal.returns-in-Ok-Some
returns-in-Ok-Some g c =
    turn_answered 0 c.args.table.now c.args.reader.now (g.S.Source.input c.args.source.now) (g.T.Sink.output c.args.sink.now) c.args.world.now c.args.machines.now c.read_request.new.reader (g.S.Source.input c.read_request.new.source)
    (g.T.Sink.output c.read_request.new.sink) (g.T.Sink.output c.answer_request.new.sink) c.answer_request.new.world c.answer_request.new.machines c.in-Ok-Some.request c.answer_request.result
    (rw c.in-Ok-Some.field-0-is at c.in-Ok-Some.ensures) c.answer_request.ensures

pub returns-in-Err : goal.returns-in-Err
returns-in-Err g c =
    turn_faulted 0 c.args.table.now c.args.reader.now (g.S.Source.input c.args.source.now) (g.T.Sink.output c.args.sink.now) c.args.world.now c.args.machines.now c.read_request.new.reader (g.S.Source.input c.read_request.new.source)
    (g.T.Sink.output c.read_request.new.sink) (g.T.Sink.output c.answer_fault.new.sink) c.in-Err.fault c.answer_fault.result
    (rw c.in-Err.is at c.read_request.ensures) c.answer_fault.ensures
