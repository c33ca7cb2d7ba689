use Rattle.std.proofs.Common.{sym, ◌∙◌, ◌≡◌, false, take}
use Rattle.mt_target.specs.Options.{has_option}
use Rattle.mt_target.proofs.OptionLaws.{seen_step, left_step, not_true}
use Rattle.mt_target.proofs.options.has_repeat.Goals as goal

pub loop-option-preserved : goal.loop-option-preserved
loop-option-preserved c =
    let none : has_option c.option-item.result.name (take c.loop-option.option-index c.args.options.now) ≡ false =
    rw (← c.as_str.ensures) (sym (c.loop-option.invariant.seen c.as_str.result) ∙ not_true _ (sym c.in-Ok-true.ensures.added ∙ c.in-Ok-true.field-0-test)) in
    record {
      left = left_step c.args.options.now c.loop-option.option-index c.option-item.result c.loop-option-test.true c.option-item.is none ∙ c.loop-option.invariant.left;
      seen = λ n. seen_step c.args.options.now c.loop-option.option-index c.option-item.result n.now _ _ c.loop-option-test.true c.option-item.is
          (rw (← c.as_str.ensures) (c.in-Ok-true.ensures.updates.0 n)) (c.loop-option.invariant.seen n);
    }
