use Rattle.mt_front.specs.Refusals.{bad_reply}
use Rattle.mt_front.proofs.TurnLaws.{says_made}
use Rattle.mt_front.proofs.connection.send_refusal.Goals as goal

pub returns : goal.returns
returns g c =
    says_made (g.T.Sink.output c.args.sink.now) (g.T.Sink.output c.send_reply.new.sink) (bad_reply c.args.refusal c.args.close) c.bad_request.result c.send_reply.result c.bad_request.ensures c.send_reply.ensures
