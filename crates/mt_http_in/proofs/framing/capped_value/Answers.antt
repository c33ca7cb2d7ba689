use Rattle.std.proofs.Common.{◌-◌, get_or, ◌∙◌}
use Rattle.mt_http_in.proofs.WordLaws.{capped_more, digits_left}
use Rattle.mt_http_in.proofs.framing.capped_value.Goals as goal

pub loop-digit-preserved : goal.loop-digit-preserved
loop-digit-preserved c =
    let left = digits_left c.args.digits.now c.loop-digit.digit-index c.loop-digit-test.true c.loop-digit.invariant.left in
    record {
      value = c.min-n.ensures ∙ capped_more c.args.digits.now c.loop-digit.digit-index c.loop-digit.n (get_or c.args.digits.now c.loop-digit.digit-index 0 - 48) c.loop-digit-test.true c.loop-digit.invariant.value left.0;
      left = left.1;
    }
