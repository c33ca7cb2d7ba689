use Rattle.std.proofs.Common.{sym, ◌∙◌, codes, ◌≡◌, false, true}
use Rattle.std.proofs.lemmas.Slice.Eq.{bytes_eq-Decides}
use Rattle.mt_target.proofs.PathLaws.{first_quoted, behind_quoted, second_quoted, entity_made, last_is, clash}
use Rattle.mt_target.proofs.paths.read_entity.Goals as goal

pub returns-in_default : goal.returns-in_default
returns-in_default c x e = c.in_default.ensures _ e

pub returns-in_default-2 : goal.returns-in_default-2
returns-in_default-2 c x e = (rw c.in_default-2.is at c.in_ok-pk.ensures) _ _ (first_quoted c.args.text.now c.in-Some.rest.now x.0 x.1 c.in-Some.ensures e)

pub returns-in_default-after : goal.returns-in_default-after
returns-in_default-after c x e =
    c.in_default-after.ensures _ (behind_quoted c.args.text.now c.in-Some.rest.now c.in-Some-2.pk c.in-Some-2.rest.now x.0 x.1 c.in-Some.ensures (rw c.in-Some-2.is at c.in_ok-pk.ensures) e)

pub returns-in_default-3 : goal.returns-in_default-3
returns-in_default-3 c x e =
    (rw c.in_default-3.is at c.in_ok-rk.ensures) _ _
    (second_quoted c.args.text.now c.in-Some.rest.now c.in-Some-2.pk c.in-Some-2.rest.now c.in-Some-after.rest.now x.0 x.1 c.in-Some.ensures (rw c.in-Some-2.is at c.in_ok-pk.ensures) c.in-Some-after.ensures e).1

pub returns-then-ends : goal.returns-then-ends
returns-then-ends c =
    entity_made c.args.text.now c.in-Some.rest.now c.in-Some-2.pk c.in-Some-2.rest.now c.in-Some-after.rest.now c.in-Some-3.rk c.in-Some-3.rest.now c.in-Some.ensures (rw c.in-Some-2.is at c.in_ok-pk.ensures)
    c.in-Some-after.ensures (rw c.in-Some-3.is at c.in_ok-rk.ensures) ((bytes_eq-Decides c.in-Some-3.rest.now (codes ")")).0 (sym c.ends.ensures ∙ c.if-ends.true))

pub returns-else-ends : goal.returns-else-ends
returns-else-ends c x e =
    let second = (second_quoted c.args.text.now c.in-Some.rest.now c.in-Some-2.pk c.in-Some-2.rest.now c.in-Some-after.rest.now x.0 x.1 c.in-Some.ensures (rw c.in-Some-2.is at c.in_ok-pk.ensures) c.in-Some-after.ensures e).1 in
    let last = last_is c.in-Some-after.rest.now c.in-Some-3.rk c.in-Some-3.rest.now x.1 (rw c.in-Some-3.is at c.in_ok-rk.ensures) second in
    clash c.ends.result (c.ends.ensures ∙ (bytes_eq-Decides c.in-Some-3.rest.now (codes ")")).1 last) c.if-ends.false
