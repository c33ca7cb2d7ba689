use Rattle.std.proofs.Common.{sym, ◌∙◌}
use Rattle.mt_world.proofs.LogLaws.{held_same}
use Rattle.mt_world.proofs.log.hold_number.Goals as goal

pub returns-in-Ok-clause-same : goal.returns-in-Ok-clause-same
returns-in-Ok-clause-same c =
    held_same c.args.numbers.now.entries c.insert.new.self.entries c.args.caller (sym c.contains_key.ensures ∙ c.if-contains_key.false) c.in-Ok.ensures.updates.0
