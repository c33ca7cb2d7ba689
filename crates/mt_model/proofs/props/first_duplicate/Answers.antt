use Rattle.std.proofs.Common.{sym, ◌∙◌, ◌≡◌, false, take}
use Rattle.mt_model.specs.Props.{repeats}
use Rattle.mt_model.proofs.Repeats.{seen_step, left_step, not_true}
use Rattle.mt_model.proofs.props.first_duplicate.Goals as goal

pub loop-at-preserved : goal.loop-at-preserved
loop-at-preserved c =
    let none : repeats c.index-props-at.result.name (take c.loop-at.at c.args.props.now) ≡ false =
    rw (← c.as_str.ensures.value) (sym (c.loop-at.invariant.seen c.as_str.result) ∙ not_true _ (sym c.in-Ok-true.ensures.added ∙ c.in-Ok-true.field-0-test)) in
    record {
      left = left_step c.args.props.now c.loop-at.at c.index-props-at.result c.loop-at-test.true c.index-props-at.is none ∙ c.loop-at.invariant.left;
      seen = λ n. seen_step c.args.props.now c.loop-at.at c.index-props-at.result n.now _ _ c.loop-at-test.true c.index-props-at.is
          (rw (← c.as_str.ensures.value) (c.in-Ok-true.ensures.updates.0 n)) (c.loop-at.invariant.seen n);
    }
