use Rattle.std.proofs.Common.{◌≡◌, ◌∙◌, sym, ap, pos}
use Rattle.std.specs.Prelude.{unsigned_abs}
use Rattle.mt_time.specs.Digits.{numeral}
use Rattle.mt_time.specs.Moment.{Parts, text_of, ticks_of, padded}
use Rattle.mt_time.specs.Written.{with_decimals}
use Rattle.mt_time.proofs.DigitLaws.{length-numeral}
use Rattle.mt_time.proofs.UniqueLaws.{if_ok, nonnegative, ticks_unique}
use Rattle.mt_time.proofs.print.print_utc.Goals as goal

pub returns-clause-full : goal.returns-clause-full
returns-clause-full c =
    let q : Parts = with_decimals c.at.result (numeral 7 c.at.result.fraction) in
    let value : c.args.ticks ≡ pos (ticks_of q) = nonnegative c.args.ticks c.ranges.ticks c.requires.low ∙ ap pos c.at.ensures.ticks in
    if_ok c.print_fields.result _ _ (λ text is. (q, c.at.ensures.date, length-numeral 7 c.at.result.fraction, is, value)) c.print_fields.ensures

pub returns-clause-reads_back : goal.returns-clause-reads_back
returns-clause-reads_back c =
    let q : Parts = with_decimals c.at.result (numeral 7 c.at.result.fraction) in
    let value : c.args.ticks ≡ pos (ticks_of q) = nonnegative c.args.ticks c.ranges.ticks c.requires.low ∙ ap pos c.at.ensures.ticks in
    if_ok c.print_fields.result _ _ (λ text is. (q, c.at.ensures.date, is, value)) c.print_fields.ensures

pub returns-clause-same : goal.returns-clause-same
returns-clause-same c p date is =
    let q : Parts = with_decimals c.at.result (numeral 7 c.at.result.fraction) in
    let value : c.args.ticks ≡ pos (ticks_of q) = nonnegative c.args.ticks c.ranges.ticks c.requires.low ∙ ap pos c.at.ensures.ticks in
    let same : ticks_of p ≡ ticks_of q = ap unsigned_abs (sym is ∙ value) in
    let one : padded p ≡ q = ticks_unique p q date c.at.ensures.date (length-numeral 7 c.at.result.fraction) same in
    if_ok c.print_fields.result _ _ (λ text written. written ∙ ap text_of (sym one)) c.print_fields.ensures
