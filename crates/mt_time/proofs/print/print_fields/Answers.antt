use Rattle.std.proofs.Common.{ap, ◌∙◌, arith, ◌<◌, ◌++◌, length, lit<}
use Rattle.std.specs.Prelude.{string_bytes}
use Rattle.mt_time.specs.Digits.{numeral}
use Rattle.mt_time.specs.Written.{with_decimals}
use Rattle.mt_time.proofs.DigitLaws.{length-numeral}
use Rattle.mt_time.proofs.TextLaws.{text_steps}
use Rattle.mt_time.proofs.print.print_fields.Goals as goal

pub returns : goal.returns
returns c =
    let some : 0 < length (numeral 7 c.args.fields.fraction) = omega (arith, length-numeral 7 c.args.fields.fraction) in
    text_steps (with_decimals c.args.fields (numeral 7 c.args.fields.fraction)) (string_bytes c.in_ok-text.text) (string_bytes c.push_digits.new.text)
    (string_bytes c.push_two_after.new.text) (string_bytes c.push_two_after-2.new.text) (string_bytes c.push_two_after-3.new.text)
    (string_bytes c.push_two_after-4.new.text) (string_bytes c.push_two_after-5.new.text) (string_bytes c.push.new.self) (string_bytes c.push_digits-2.new.text)
    (string_bytes c.push-2.new.self) some c.in_ok-text.ensures.bytes c.in_ok-push_digits.ensures c.in_ok-push_two_after.ensures c.in_ok-push_two_after-2.ensures
    c.in_ok-push_two_after-3.ensures c.in_ok-push_two_after-4.ensures c.in_ok-push_two_after-5.ensures
    (c.in_ok-push.ensures.bytes ∙ ap (λ v. string_bytes c.push_two_after-5.new.text ++ v) (c.in_ok-push.ensures.ascii (lit< tt)))
    c.in_ok-push_digits-2.ensures
    (c.in_ok-push-2.ensures.bytes ∙ ap (λ v. string_bytes c.push_digits-2.new.text ++ v) (c.in_ok-push-2.ensures.ascii (lit< tt)))
