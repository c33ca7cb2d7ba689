use Rattle.std.proofs.Common.{◌≡◌, sym, ap, ◌∙◌, arith, append-nil, ◌++◌}
use Rattle.std.specs.Prelude.{string_bytes}
use Rattle.mt_time.specs.Digits.{numeral}
use Rattle.mt_time.proofs.DigitLaws.{pushed, numeral_none}
use Rattle.mt_time.proofs.print.+push_digits.Goals as goal

pub returns-in_ok-push : goal.returns-in_ok-push
returns-in_ok-push t c =
    pushed (string_bytes c.args.text.now) (string_bytes c.push_digits.new.text) (string_bytes c.push.new.self) c.args.count c.args.number c.from.result c.if-count-gt0.true
    c.in_ok-push_digits.ensures c.from.ensures
    (c.in_ok-push.ensures.bytes ∙ ap (λ v. string_bytes c.push_digits.new.text ++ v) (c.in_ok-push.ensures.ascii (omega (arith, c.from.ensures))))

pub returns-else-count-gt0 : goal.returns-else-count-gt0
returns-else-count-gt0 t c =
    let none : c.args.count ≡ 0 = omega (arith, c.if-count-gt0.false) in
    sym (ap (λ k. string_bytes c.args.text.now ++ numeral k c.args.number) none ∙ ap (λ v. string_bytes c.args.text.now ++ v) (numeral_none c.args.number) ∙ append-nil (string_bytes c.args.text.now))
