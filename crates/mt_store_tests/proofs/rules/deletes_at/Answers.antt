use Rattle.std.proofs.Common.{All, sym, subst, ◌∙◌, ap, ◌++◌, ◌∷◌, []}
use Rattle.std.proofs.lemmas.List.Elements.{All-push}
use Rattle.mt_rules.specs.Batches.{MayAsk}
use Rattle.mt_store_tests.proofs.rules.deletes_at.Goals as goal

pub loop-pk-preserved : goal.loop-pk-preserved
loop-pk-preserved c =
    subst (All MayAsk) (sym c.in_ok-push.ensures.items)
    (All-push MayAsk c.loop-pk.ops.items c.in_ok-delete.field-0 c.loop-pk.invariant c.in_ok-delete.ensures)
