use Rattle.std.proofs.Common.{All, sym, subst}
use Rattle.std.proofs.lemmas.List.Elements.{All-push}
use Rattle.mt_rules.specs.Batches.{MayAsk}
use Rattle.mt_test_worlds.proofs.batches.ops_of.Goals as goal

pub loop-sample-preserved : goal.loop-sample-preserved
loop-sample-preserved c =
    subst (All MayAsk) (sym c.in_ok-push.ensures.items)
    (All-push MayAsk c.loop-sample.ops.items c.in_ok-op_of.field-0 c.loop-sample.invariant c.in_ok-op_of.ensures)
