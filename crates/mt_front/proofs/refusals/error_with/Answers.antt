use Rattle.mt_front.proofs.RefusalLaws.{error_made}
use Rattle.mt_front.proofs.refusals.error_with.Goals as goal

pub returns : goal.returns
returns c = error_made c.args.resource c.args.status c.in_ok-fields.fields c.in_ok-body.body c.args.code.now c.args.sentence.now c.args.close c.requires c.in_ok-fields.ensures c.in_ok-body.ensures
