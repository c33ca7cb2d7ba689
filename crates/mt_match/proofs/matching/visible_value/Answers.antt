use Rattle.std.proofs.Common.{sym, ◌∙◌}
use Rattle.mt_match.proofs.Seen.{seen, unseen}
use Rattle.mt_match.proofs.matching.visible_value.Goals as goal

pub returns-then-is_hidden : goal.returns-then-is_hidden
returns-then-is_hidden c = sym (unseen c.args.name.now c.args.props.now (sym c.is_hidden.ensures ∙ c.if-is_hidden.true))

pub returns-else-is_hidden : goal.returns-else-is_hidden
returns-else-is_hidden c = c.get.ensures ∙ seen c.args.name.now c.args.props.now (sym c.is_hidden.ensures ∙ c.if-is_hidden.false)
