use Rattle.std.proofs.Common.{sym, ◌∙◌}
use Rattle.mt_mime.proofs.HeaderLaws.{head_made, head_loose}
use Rattle.mt_mime.proofs.changes.read_head.Goals as goal

pub returns-then-is_strict-clause-head : goal.returns-then-is_strict-clause-head
returns-then-is_strict-clause-head c = head_made c.args.text.now c.in-Ok-Whole.head (rw c.in-Ok-Whole.field-0-is at c.in-Ok-Whole.ensures) (sym c.is_strict.ensures ∙ c.if-is_strict.true)

pub returns-else-is_strict-clause-bad : goal.returns-else-is_strict-clause-bad
returns-else-is_strict-clause-bad c = λ _. head_loose c.args.text.now c.in-Ok-Whole.head (rw c.in-Ok-Whole.field-0-is at c.in-Ok-Whole.ensures) (sym c.is_strict.ensures ∙ c.if-is_strict.false)
