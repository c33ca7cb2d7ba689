use Rattle.mt_front.proofs.ReportLaws.{unmigrated_made}
use Rattle.mt_front.proofs.reports.unmigrated_reply.Goals as goal

pub returns : goal.returns
returns c = unmigrated_made c.in_ok-fields.fields c.in_ok-body.body c.args.pk.now c.args.close c.in_ok-fields.ensures c.in_ok-body.ensures
