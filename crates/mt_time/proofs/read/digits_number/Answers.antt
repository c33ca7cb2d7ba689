use Rattle.std.proofs.Common.{arith}
use Rattle.mt_time.proofs.DigitLaws.{value_more, value_small, digit_at}
use Rattle.mt_time.proofs.read.digits_number.Goals as goal

pub returns-then-not-is_ascii_digit : goal.returns-then-not-is_ascii_digit
returns-then-not-is_ascii_digit c all =
    let digit = digit_at c.args.digits.now c.loop-digit.digit-index c.loop-digit-test.true all in
    let outside = c.if-not-is_ascii_digit.ensures.cases in
    grind (arith, digit, outside)

pub overflow_mul-number : goal.overflow_mul-number
overflow_mul-number c = omega (arith, value_small c.args.digits.now c.loop-digit.digit-index c.loop-digit.number (omega arith) c.loop-digit.invariant)

pub overflow_add-number : goal.overflow_add-number
overflow_add-number c =
    let digit = c.if-not-is_ascii_digit.ensures.cases in
    omega (arith, c.from.ensures, digit.1, value_small c.args.digits.now c.loop-digit.digit-index c.loop-digit.number (omega arith) c.loop-digit.invariant)

pub loop-digit-preserved : goal.loop-digit-preserved
loop-digit-preserved c = value_more c.args.digits.now c.loop-digit.digit-index c.loop-digit.number c.from.result c.loop-digit-test.true c.loop-digit.invariant c.if-not-is_ascii_digit.ensures.cases c.from.ensures
