use Rattle.std.proofs.Common.{subst, arith}
use Rattle.mt_filter.specs.declared.reader.Halt.{Halt}
use Rattle.mt_filter.specs.Grammar.{bad, IsWhole}
use Rattle.mt_filter.specs.Answer.{IfHalted}
use Rattle.mt_filter.proofs.Places.{fault_within}
use Rattle.mt_filter.proofs.reader.read_filter.Goals as goal

pub overflow_sub-result : goal.overflow_sub-result
overflow_sub-result c =
    let P : Halt → Type 0 = λ h. IfHalted h (λ place kind. IsWhole c.args.text.now (bad place kind)) in
    let whole : IsWhole c.args.text.now (bad c.in-Err-Bad.stop.left c.in-Err-Bad.stop.kind) = subst P c.in-Err-Bad.field-0-is c.in-Err-Bad.ensures in
    fault_within c.args.text.now c.in-Err-Bad.stop.left c.in-Err-Bad.stop.kind whole

pub returns-in-Err-Bad : goal.returns-in-Err-Bad
returns-in-Err-Bad c =
    let P : Halt → Type 0 = λ h. IfHalted h (λ place kind. IsWhole c.args.text.now (bad place kind)) in
    let whole : IsWhole c.args.text.now (bad c.in-Err-Bad.stop.left c.in-Err-Bad.stop.kind) = subst P c.in-Err-Bad.field-0-is c.in-Err-Bad.ensures in
    let most = fault_within c.args.text.now c.in-Err-Bad.stop.left c.in-Err-Bad.stop.kind whole in
    (c.in-Err-Bad.stop.left, whole, omega (arith, most))
