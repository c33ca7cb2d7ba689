use Rattle.mt_front.specs.Refusals.{fault_reply}
use Rattle.mt_front.proofs.TurnLaws.{says_made}
use Rattle.mt_front.proofs.connection.send_fault.Goals as goal

pub returns : goal.returns
returns g c =
    says_made (g.T.Sink.output c.args.sink.now) (g.T.Sink.output c.send_reply.new.sink) (fault_reply c.args.close) c.store_fault.result c.send_reply.result c.store_fault.ensures c.send_reply.ensures
