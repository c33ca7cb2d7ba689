use Rattle.std.proofs.Common.{sym, ◌∙◌}
use Rattle.std.proofs.lemmas.List.{take_rest}
use Rattle.std.proofs.lemmas.Result.{IfOk-weaker}
use Rattle.mt_mime.proofs.ChangeLaws.{operation_made, no_operation_type, no_operation_head}
use Rattle.mt_mime.proofs.changes.read_operation.Goals as goal

pub returns-then-not-is_of-clause-bad : goal.returns-then-not-is_of-clause-bad
returns-then-not-is_of-clause-bad c = λ _. no_operation_type c.args.text.now c.in-Some.peeled c.in-Some.ensures (sym c.is_of.ensures ∙ c.if-not-is_of.true)

pub returns-in-Err-clause-bad : goal.returns-in-Err-clause-bad
returns-in-Err-clause-bad c = λ bad. no_operation_head c.args.text.now c.in-Some.peeled c.in-Some.ensures (c.in-Err.ensures.bad bad)

pub returns-clause-operation : goal.returns-clause-operation
returns-clause-operation c = IfOk-weaker c.part_with.result _ _
    (λ p h. operation_made c.args.text.now c.in-Some.peeled c.in-Ok.head p c.in-Some.ensures (sym c.is_of.ensures ∙ c.if-not-is_of.false) c.in-Ok.ensures.head h.0 h.1 h.2
    (h.3 ∙ take_rest c.in-Some.peeled.rest.now c.in-Ok.head.size))
    c.part_with.ensures.part
