use Rattle.std.proofs.Common.{rules}
use Rattle.mt_front.proofs.ChangeLaws.{put_may}
use Rattle.mt_front.proofs.changes.put_by.Goals as goal

pub returns-in-Ok-clause-may : goal.returns-in-Ok-clause-may
returns-in-Ok-clause-may c = put_may c.put_op.result c.args.cond c.args.key c.in-Ok.body.props c.put_op.ensures c.requires c.in-Ok.ensures.visible (search rules)
