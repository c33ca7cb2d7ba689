use Rattle.std.proofs.Common.{◌∙◌, ◌<◌, arith}
use Rattle.std.proofs.lemmas.Result.{err_from_is_err_and}
use Rattle.mt_filter.specs.Grammar.{too_many}
use Rattle.mt_filter.proofs.Sought.{if_halted}
use Rattle.mt_filter.proofs.Steps.{test_read, compare_missed, literal_missed}
use Rattle.mt_filter.proofs.reader.Reader.read_test.Goals as goal

pub returns-then-self-ge-MAX_TESTS : goal.returns-then-self-ge-MAX_TESTS
returns-then-self-ge-MAX_TESTS c = λ level. too_many _ _ _ level _ c.if-self-ge-MAX_TESTS.true

pub returns-in_err-compare : goal.returns-in_err-compare
returns-in_err-compare c = λ level.
    let few : c.args.self.now.tests < 15 = omega (arith, c.if-self-ge-MAX_TESTS.false) in
    let p = err_from_is_err_and c.from_residual.result c.from_residual.ensures.1 in
    rw (p.1, p.2) (if_halted _ _ c.in_err-compare.field-0.0 (compare_missed c.args.field c.args.left _ level _ few) c.in_err-compare.ensures.value)

pub returns-in_err-literal : goal.returns-in_err-literal
returns-in_err-literal c = λ level.
    let few : c.args.self.now.tests < 15 = omega (arith, c.if-self-ge-MAX_TESTS.false) in
    let p = err_from_is_err_and c.from_residual-in_err-literal.result c.from_residual-in_err-literal.ensures.1 in
    rw (p.1, p.2) (if_halted _ _ c.in_err-literal.field-0.0 (literal_missed c.args.field _ c.args.left _ level _ _ few c.in_ok-compare.ensures.value) c.in_err-literal.ensures.value)

pub returns : goal.returns
returns c = λ level.
    let few : c.args.self.now.tests < 15 = omega (arith, c.if-self-ge-MAX_TESTS.false) in
    test_read c.args.field _ _ c.args.left _ _ level _ _ _ few (c.in_ok-literal.ensures.tests ∙ c.in_ok-compare.ensures.tests) c.in_ok-compare.ensures.value c.in_ok-literal.ensures.value
