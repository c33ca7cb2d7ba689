use Rattle.std.proofs.Common.{List, ℕ, Bor, length, sym, ap, ◌∙◌}
use Rattle.std.proofs.lemmas.Result.{IfOk-weaker, IfErr-weaker}
use Rattle.mt_mime.proofs.ChangeLaws.{batch_made, no_batch_set, no_batch_many}
use Rattle.mt_mime.proofs.changes.read_changes.Goals as goal

pub returns-in-Some-clause-changes : goal.returns-in-Some-clause-changes
returns-in-Some-clause-changes c = IfOk-weaker c.read_set.result _ _
    (λ v set. batch_made c.args.boundary.now c.args.body.now c.in-Ok.texts.items c.in-Some.text v.items c.in-Ok.ensures.parts (sym c.deref.ensures.value ∙ c.in-Some.ensures) set)
    c.read_set.ensures.changes

pub returns-in-Some-clause-bad : goal.returns-in-Some-clause-bad
returns-in-Some-clause-bad c = IfErr-weaker c.read_set.result _ _
    (λ e none bad. no_batch_set c.args.boundary.now c.args.body.now c.in-Ok.texts.items c.in-Some.text c.in-Ok.ensures.parts (sym c.deref.ensures.value ∙ c.in-Some.ensures) (none bad))
    c.read_set.ensures.bad

pub returns-clause-bad : goal.returns-clause-bad
returns-clause-bad c = λ _. no_batch_many c.args.boundary.now c.args.body.now c.in-Ok.texts.items c.in-Ok.ensures.parts
    (λ one. c.in-None.ensures (ap (λ (xs : List (Bor (List ℕ))). length xs) c.deref.ensures.value ∙ one))
