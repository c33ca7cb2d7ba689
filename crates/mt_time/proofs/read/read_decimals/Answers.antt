use Rattle.std.proofs.Common.{rules, arith}
use Rattle.mt_time.specs.Digits.{AreDecimals}
use Rattle.mt_time.proofs.FractionLaws.{fraction_by_zeros}
use Rattle.mt_time.proofs.read.read_decimals.Goals as goal

pub overflow_mul-result : goal.overflow_mul-result
overflow_mul-result c =
    let decimals : AreDecimals c.args.digits.now = record { digits = c.in-Some.ensures.0; few = c.if-digits-gt7.false } in
    omega (arith, (fraction_by_zeros c.args.digits.now c.in-Some.number c.pow.result decimals c.in-Some.ensures.1 c.pow.ensures).0)

pub returns : goal.returns
returns c =
    let decimals : AreDecimals c.args.digits.now = record { digits = c.in-Some.ensures.0; few = c.if-digits-gt7.false } in
    let whole = fraction_by_zeros c.args.digits.now c.in-Some.number c.pow.result decimals c.in-Some.ensures.1 c.pow.ensures in
    (whole.0, decimals, search rules, whole.1)
