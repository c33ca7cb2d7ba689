use Rattle.std.proofs.Common.{List, ℕ, Bor, subst}
use Rattle.std.proofs.lemmas.Result.{IfOk-weaker, IfErr-weaker}
use Rattle.mt_mime.specs.Changes.{bytes_in, ReadsAll, SpellsNone}
use Rattle.mt_mime.proofs.ChangeLaws.{set_made, no_set_boundary, no_set_parts, no_set_operations}
use Rattle.mt_mime.proofs.changes.read_set.Goals as goal

pub returns-in_default-boundary_in-clause-bad : goal.returns-in_default-boundary_in-clause-bad
returns-in_default-boundary_in-clause-bad c = λ _. no_set_boundary c.args.text.now c.in-Some.peeled c.in-Some.ensures c.in_default-boundary_in.ensures

pub returns-in-Ok-clause-changes : goal.returns-in-Ok-clause-changes
returns-in-Ok-clause-changes c = IfOk-weaker c.read_all.result _ _
    (λ v read. set_made c.args.text.now c.in-Some.peeled c.in-Some-boundary_in.boundary.now c.in-Ok.texts.items v.items c.in-Some.ensures c.in-Some-boundary_in.ensures c.in-Ok.ensures.parts
    (subst (λ (xs : List (Bor (List ℕ))). ReadsAll (bytes_in xs) v.items) c.deref.ensures.value read))
    c.read_all.ensures.operations

pub returns-in-Ok-clause-bad : goal.returns-in-Ok-clause-bad
returns-in-Ok-clause-bad c = IfErr-weaker c.read_all.result _ _
    (λ e none bad. no_set_operations c.args.text.now c.in-Some.peeled c.in-Some-boundary_in.boundary.now c.in-Ok.texts.items c.in-Some.ensures c.in-Some-boundary_in.ensures c.in-Ok.ensures.parts
    (subst (λ (xs : List (Bor (List ℕ))). SpellsNone (bytes_in xs)) c.deref.ensures.value (none bad)))
    c.read_all.ensures.bad

pub returns-in-Err-clause-bad : goal.returns-in-Err-clause-bad
returns-in-Err-clause-bad c = λ bad. no_set_parts c.args.text.now c.in-Some.peeled c.in-Some-boundary_in.boundary.now c.in-Some.ensures c.in-Some-boundary_in.ensures (c.in-Err.ensures.bad bad)
