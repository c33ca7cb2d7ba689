use Rattle.std.proofs.Common.{All, sym, subst}
use Rattle.std.proofs.lemmas.List.Elements.{All-push}
use Rattle.mt_rules.specs.Batches.{MayAsk}
use Rattle.mt_store_tests.proofs.history.inserts.Goals as goal

pub loop-row-preserved : goal.loop-row-preserved
loop-row-preserved c =
    subst (All MayAsk) (sym c.in_ok-push.ensures.items)
    (All-push MayAsk c.loop-row.ops.items c.in_ok-insert.field-0 c.loop-row.invariant c.in_ok-insert.ensures)
