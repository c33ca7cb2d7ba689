use Rattle.std.proofs.Common.{rules}
use Rattle.mt_front.proofs.changes.insert_at.Goals as goal

pub returns-in-Ok-clause-may : goal.returns-in-Ok-clause-may
returns-in-Ok-clause-may c = (record { key = search rules; visible = c.requires.visible }, c.requires.shows c.in-Ok.key c.args.props, search rules)
