use Rattle.std.proofs.Common.{◌≡◌, ℕ, ◌+◌, ◌/◌, ◌%◌, ◌∙◌, sym, subst, refl, arith}
use Rattle.mt_time.specs.Digits.{numeral}
use Rattle.mt_time.specs.Moment.{ticks_at}
use Rattle.mt_time.specs.Written.{with_decimals}
use Rattle.mt_time.specs.declared.fields.Fields.{Fields}
use Rattle.mt_time.proofs.DayLaws.{IsDayOf, day_at, year_back, ticks_made}
use Rattle.std.specs.Prelude.{unsigned_abs}
use Rattle.mt_time.proofs.FractionLaws.{decimals_of, fraction_of_numeral}
use Rattle.mt_time.proofs.fields.Fields.at.Goals as goal

same_day : (year month day n year' month' day' : ℕ) → year' ≡ year → month' ≡ month → day' ≡ day → IsDayOf year month day n → IsDayOf year' month' day' n
same_day year month day n year' month' day' y m d is =
    subst (λ v. IsDayOf v month' day' n) (sym y) (subst (λ v. IsDayOf year v day' n) (sym m) (subst (λ v. IsDayOf year month v n) (sym d) is))

split : (t : ℕ) → t ≡ ticks_at (t / 10_000_000 / 60 / 60 / 24) (t / 10_000_000 / 60 / 60 % 24) (t / 10_000_000 / 60 % 60) (t / 10_000_000 % 60) (t % 10_000_000)
split t = omega arith

pub returns-clause-date : goal.returns-clause-date
returns-clause-date c =
    let days = c.args.ticks / 10_000_000 / 60 / 60 / 24 in
    let date = c.from_days_since_min-date.result in
    let year : c.from.result ≡ unsigned_abs date.year = c.from.ensures ∙ c.unsigned_abs.ensures.value ∙ year_back date days c.from_days_since_min-date.ensures in
    let day : IsDayOf c.from.result c.from-2.result c.from-3.result (days + 4_236_813) =
    same_day (unsigned_abs date.year) date.month date.day (days + 4_236_813) c.from.result c.from-2.result c.from-3.result year c.from-2.ensures c.from-3.ensures
    (day_at date days c.from_days_since_min-date.ensures) in record {
      year = day.year_in;
      month = day.month_in;
      day = day.day_in;
      hour = omega arith;
      minute = omega arith;
      second = omega arith;
      decimals = decimals_of (c.args.ticks % 10_000_000);
    }

pub returns-clause-ticks : goal.returns-clause-ticks
returns-clause-ticks c =
    let t = c.args.ticks in
    let days = t / 10_000_000 / 60 / 60 / 24 in
    let date = c.from_days_since_min-date.result in
    let year : c.from.result ≡ unsigned_abs date.year = c.from.ensures ∙ c.unsigned_abs.ensures.value ∙ year_back date days c.from_days_since_min-date.ensures in
    let day : IsDayOf c.from.result c.from-2.result c.from-3.result (days + 4_236_813) =
    same_day (unsigned_abs date.year) date.month date.day (days + 4_236_813) c.from.result c.from-2.result c.from-3.result year c.from-2.ensures c.from-3.ensures
    (day_at date days c.from_days_since_min-date.ensures) in
    let fields : Fields = record {
      year = c.from.result;
      month = c.from-2.result;
      day = c.from-3.result;
      hour = t / 10_000_000 / 60 / 60 % 24;
      minute = t / 10_000_000 / 60 % 60;
      second = t / 10_000_000 % 60;
      fraction = t % 10_000_000;
    } in
    split t ∙ ticks_made (with_decimals fields (numeral 7 (t % 10_000_000))) days fields.hour fields.minute fields.second fields.fraction
    (omega (arith, day.days)) refl refl refl (sym (fraction_of_numeral (t % 10_000_000) (omega arith)))
