use Rattle.std.proofs.Common.{rules}
use Rattle.mt_front.proofs.ChangeLaws.{entity_asks}
use Rattle.mt_front.proofs.changes.entity_by.Goals as goal

pub returns-in-Ok-clause-asks : goal.returns-in-Ok-clause-asks
returns-in-Ok-clause-asks c =
    entity_asks c.args.action c.args.if_match c.args.pk.now c.args.rk.now c.args.bytes.now c.in-Ok.key c.action_by.result (search rules) c.in-Ok.ensures.answers c.in-Ok.ensures.key.0 c.in-Ok.ensures.key.1 c.action_by.ensures.asks
