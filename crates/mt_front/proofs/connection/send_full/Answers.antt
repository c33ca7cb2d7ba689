use Rattle.mt_front.specs.Refusals.{full_reply}
use Rattle.mt_front.proofs.TurnLaws.{says_made}
use Rattle.mt_front.proofs.connection.send_full.Goals as goal

pub returns : goal.returns
returns g c =
    says_made (g.T.Sink.output c.args.sink.now) (g.T.Sink.output c.send_reply.new.sink) (full_reply c.args.close) c.history_full.result c.send_reply.result c.history_full.ensures c.send_reply.ensures
