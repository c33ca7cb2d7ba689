-- A number of ticks is the value of one moment with seven decimals.
use Rattle.std.proofs.Common.{◌≡◌, ℕ, ◌+◌, ◌*◌, ◌<◌, ◌≤◌, List, length, ℤ, pos, ◌≤ℤ◌, sym, ap, ◌∙◌, arith, Result, Ok, Err}
use Rattle.std.specs.Prelude.{IfOk, unsigned_abs}
use mir.Val.{SFits, to_z, of_z}
use Rattle.std.proofs.lemmas.Int.{to_z-of_z}
use mir.Syntax.{w64}
use Rattle.jiff_core.specs.Calendar.{day_count, days_from_civil, IsYear}
use Rattle.jiff_core.specs.declared.civil.date.Date.{Date}
use Rattle.jiff_core.proofs.SignedLemmas.{signed_arith}
use Rattle.jiff_core.proofs.CalendarLemmas.{days_from_civil-day_count}
use Rattle.jiff_core.proofs.DateLemmas.{epoch_day_injective}
use Rattle.mt_time.specs.Digits.{numeral, AreDecimals, seven_of, fraction_of}
use Rattle.mt_time.specs.Moment.{Parts, IsDateTime, days_from_1601, ticks_at, ticks_of, padded}
use Rattle.mt_time.proofs.DayLaws.{abs_pos, first_day, from_first_day}
use Rattle.mt_time.proofs.DigitLaws.{numeral-value}
use Rattle.mt_time.proofs.FractionLaws.{fraction_small, length-seven_of, digits-seven_of, seven_of_seven}
use Rattle.mt_time.proofs.TextLaws.{same_parts}

pub if_ok : {A E : Type 0} (r : Result A E) (P Q : A → Type 0) → ((a : A) → P a → Q a) → IfOk r P → IfOk r Q
if_ok (Ok a) P Q f p = f a p
if_ok (Err e) P Q f p = tt

-- a signed number that is not negative, as it is cast to an unsigned one
pub nonnegative : (z : ℤ) → SFits w64 z → pos 0 ≤ℤ z → z ≡ pos (unsigned_abs (to_z w64 (of_z w64 z)))
nonnegative z fits low = abs_pos z low ∙ ap (λ v. pos (unsigned_abs v)) (sym (to_z-of_z w64 z fits))

date_of : (p : Parts) → IsDateTime p → Date
date_of p d =
    let year : IsYear (pos p.year) = (omega (arith, signed_arith), omega (arith, signed_arith, d.year.1)) in
    record { year = pos p.year; month = p.month; day = p.day; year_in = year; month_in = d.month; day_in = d.day }

-- dates from 1601 on with the same number of days are the same
same_date : (p q : Parts) → IsDateTime p → IsDateTime q → days_from_1601 p.year p.month p.day ≡ days_from_1601 q.year q.month q.day → (p.year ≡ q.year) × (p.month ≡ q.month) × (p.day ≡ q.day)
unfolding date_of
same_date p q d e is =
    let late : 4_237_179 ≤ day_count (pos p.year) p.month p.day = from_first_day (pos p.year) p.month p.day d.day.0 (omega (arith, signed_arith, d.year.0)) in
    let late' : 4_237_179 ≤ day_count (pos q.year) q.month q.day = from_first_day (pos q.year) q.month q.day e.day.0 (omega (arith, signed_arith, e.year.0)) in
    let count : day_count (pos p.year) p.month p.day ≡ day_count (pos q.year) q.month q.day = omega (arith, is, late, late', first_day) in
    let day : days_from_civil (pos p.year) p.month p.day ≡ days_from_civil (pos q.year) q.month q.day =
    omega (arith, signed_arith, count, days_from_civil-day_count (pos p.year) p.month p.day, days_from_civil-day_count (pos q.year) q.month q.day) in
    let same = epoch_day_injective (date_of p d) (date_of q e) day in
    (ap unsigned_abs same.0, same.1, same.2)

record SameTime (days hour minute second fraction days' hour' minute' second' fraction' : ℕ) : Type 0 where
  same_days : days ≡ days'
  same_hour : hour ≡ hour'
  same_minute : minute ≡ minute'
  same_second : second ≡ second'
  same_fraction : fraction ≡ fraction'

same_time : (days hour minute second fraction days' hour' minute' second' fraction' : ℕ) → hour < 24 → hour' < 24 → minute < 60 → minute' < 60 → second < 60 → second' < 60 → fraction < 10_000_000 → fraction' < 10_000_000
    → ticks_at days hour minute second fraction ≡ ticks_at days' hour' minute' second' fraction' → SameTime days hour minute second fraction days' hour' minute' second' fraction'
same_time a b c d e a' b' c' d' e' b1 b2 c1 c2 d1 d2 e1 e2 is =
    let f : e ≡ e' = omega (arith, is, e1, e2) in
    let seconds : ((a * 24 + b) * 60 + c) * 60 + d ≡ ((a' * 24 + b') * 60 + c') * 60 + d' = omega (arith, is, f) in
    let s : d ≡ d' = omega (arith, seconds, d1, d2) in
    let minutes : (a * 24 + b) * 60 + c ≡ (a' * 24 + b') * 60 + c' = omega (arith, seconds, s) in
    let m : c ≡ c' = omega (arith, minutes, c1, c2) in
    let hours : a * 24 + b ≡ a' * 24 + b' = omega (arith, minutes, m) in
    let h : b ≡ b' = omega (arith, hours, b1, b2) in
    record { same_days = omega (arith, hours, h); same_hour = h; same_minute = m; same_second = s; same_fraction = f }

same_decimals : (ds es : List ℕ) → AreDecimals ds → AreDecimals es → length es ≡ 7 → fraction_of ds ≡ fraction_of es → seven_of ds ≡ es
same_decimals ds es d e seven is =
    sym (numeral-value 7 (seven_of ds) (length-seven_of ds d) (digits-seven_of ds d))
    ∙ ap (numeral 7) is
    ∙ numeral-value 7 (seven_of es) (length-seven_of es e) (digits-seven_of es e)
    ∙ seven_of_seven es seven

pub ticks_unique : (p q : Parts) → IsDateTime p → IsDateTime q → length q.decimals ≡ 7 → ticks_of p ≡ ticks_of q → padded p ≡ q
unfolding ticks_of
ticks_unique p q d e seven is =
    let same = same_time (days_from_1601 p.year p.month p.day) p.hour p.minute p.second (fraction_of p.decimals) (days_from_1601 q.year q.month q.day) q.hour q.minute q.second (fraction_of q.decimals)
    d.hour e.hour d.minute e.minute d.second e.second (fraction_small p.decimals d.decimals) (fraction_small q.decimals e.decimals) is in
    let date = same_date p q d e same.same_days in
    same_parts (padded p) q date.0 date.1 date.2 same.same_hour same.same_minute same.same_second (same_decimals p.decimals q.decimals d.decimals e.decimals seven same.same_fraction)
