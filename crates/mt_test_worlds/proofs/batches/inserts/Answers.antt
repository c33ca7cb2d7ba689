use Rattle.std.proofs.Common.{All, sym, subst}
use Rattle.std.proofs.lemmas.List.Elements.{All-push}
use Rattle.mt_rules.specs.Batches.{MayAsk}
use Rattle.mt_test_worlds.proofs.batches.inserts.Goals as goal

pub loop-n-preserved : goal.loop-n-preserved
loop-n-preserved c =
    subst (All MayAsk) (sym c.in_ok-push.ensures.items)
    (All-push MayAsk c.loop-n.ops.items c.in_ok-op_of.field-0 c.loop-n.invariant c.in_ok-op_of.ensures)
