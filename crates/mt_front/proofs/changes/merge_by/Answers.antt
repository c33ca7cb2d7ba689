use Rattle.std.proofs.Common.{rules}
use Rattle.mt_front.proofs.ChangeLaws.{merge_may}
use Rattle.mt_front.proofs.changes.merge_by.Goals as goal

pub returns-in-Ok-clause-may : goal.returns-in-Ok-clause-may
returns-in-Ok-clause-may c = merge_may c.merge_op.result c.args.cond c.args.key c.in-Ok.body.props c.merge_op.ensures c.requires c.in-Ok.ensures.visible (search rules)
