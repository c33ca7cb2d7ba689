use Rattle.std.proofs.Common.{refl, inr, subst}
use Rattle.std.specs.Prelude.{IfOk}
use Rattle.mt_front.specs.ChangeSets.{AsksSet}
use Rattle.mt_front.proofs.ChangeSetLaws.{batch_asks}
use Rattle.mt_front.proofs.change_sets.asked_within.Goals as goal

pub returns-in-Ok : goal.returns-in-Ok
returns-in-Ok c =
    batch_asks c.args.table.now c.args.boundary.now c.args.body.now c.in-Ok.parts.items c.asked_together.result c.in-Ok.ensures.changes
    (subst (λ ps. IfOk c.asked_together.result (AsksSet c.args.table.now ps)) c.as_slice.ensures.value c.asked_together.ensures)

pub returns-in-Err-Bad : goal.returns-in-Err-Bad
returns-in-Err-Bad c = inr (c.in-Err-Bad.ensures.bad c.in-Err-Bad.field-0-is, refl)
