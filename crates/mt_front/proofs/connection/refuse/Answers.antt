use Rattle.mt_front.proofs.TurnLaws.{refused_sent, refused_not}
use Rattle.mt_front.proofs.connection.refuse.Goals as goal

pub returns-in-Ok-clause-answers : goal.returns-in-Ok-clause-answers
returns-in-Ok-clause-answers g c =
    refused_sent (g.T.Sink.output c.args.sink.now) (g.T.Sink.output c.send_refusal.new.sink) c.args.code c.args.close c.head_refusal.result c.turn_refused.result
    c.head_refusal.ensures c.turn_refused.ensures (rw c.in-Ok.is at c.send_refusal.ensures)

pub returns-in-Err-clause-answers : goal.returns-in-Err-clause-answers
returns-in-Err-clause-answers g c =
    refused_not (g.T.Sink.output c.args.sink.now) (g.T.Sink.output c.send_refusal.new.sink) c.args.code c.args.close c.head_refusal.result c.in-Err.fault c.head_refusal.ensures (rw c.in-Err.is at c.send_refusal.ensures)
