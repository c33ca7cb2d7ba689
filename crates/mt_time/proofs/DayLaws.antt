-- Days from 1601 on, and the value of a moment.
use Rattle.std.proofs.Common.{◌≡◌, ℕ, ◌+◌, ◌-◌, ◌<◌, ◌≤◌, ap, ◌∙◌, subst, ℤ, ◌<ℤ◌, refl, arith, pos, ◌+ℤ◌, rules, w8, w16}
use Rattle.std.specs.Int.{IsInRange}
use Rattle.std.specs.Prelude.{unsigned_abs, negsuc, ◌≤ℤ◌}
use mir.Val.{to_z, of_z}
use Rattle.std.proofs.lemmas.Int.{to_z_pos, by_lt_z}
use Rattle.jiff_core.proofs.DateLemmas.{civil}
use Rattle.jiff_core.specs.Calendar.{day_count, days_from_civil, days_in_month, IsCivilDate, days_of_years, days_of_months}
use Rattle.jiff_core.specs.Date.{epoch_day, IsYmd}
use Rattle.jiff_core.specs.declared.civil.date.Date.{Date}
use Rattle.mt_time.specs.Digits.{fraction_of}
use Rattle.mt_time.specs.Moment.{Parts, days_from_1601, ticks_at, ticks_of}
use Rattle.jiff_core.proofs.SignedLemmas.{signed_arith, back_small}
use Rattle.jiff_core.proofs.CalendarLemmas.{days_from_civil-day_count, day_count-lt_year}

pub first_day : day_count (pos 1601) 1 1 ≡ 4_237_179
unfolding day_count days_of_years days_of_months
first_day = refl

pub last_day_before : day_count (pos 1600) 12 31 ≡ 4_237_178
unfolding day_count days_of_years days_of_months
last_day_before = refl

last_date_before : IsCivilDate (pos 1600) 12 31
last_date_before = search rules

-- a date from 1601 on comes after the last day of 1600
pub from_first_day : (y : ℤ) (m d : ℕ) → 1 ≤ d → pos 1600 <ℤ y → 4_237_179 ≤ day_count y m d
from_first_day y m d some from = omega (arith, last_day_before, day_count-lt_year (pos 1600) 12 31 y m d last_date_before some from)

-- the number that jiff_core counts from its first date
pub count_since_min : (y : ℤ) (m d n : ℕ) → days_from_civil y m d +ℤ pos 4_371_587 ≡ pos n → n + 366 ≡ day_count y m d
count_since_min y m d n is = omega (arith, signed_arith, days_from_civil-day_count, is)

-- what a date of jiff_core is that was made of these numbers
pub record IsDayOf (year month day n : ℕ) : Type 0 where
  pub year_in : IsInRange 1601 9999 year
  pub month_in : IsInRange 1 12 month
  pub day_in : IsInRange 1 (days_in_month (pos year) month) day
  pub late : 4_236_813 ≤ n
  pub days : n - 4_236_813 ≡ days_from_1601 year month day

same_count : (d : Date) (year month day : ℕ) → d.year ≡ pos year → d.month ≡ month → d.day ≡ day → day_count d.year d.month d.day ≡ day_count (pos year) month day
same_count d year month day y m k = ap (λ v. day_count v d.month d.day) y ∙ ap (λ v. day_count (pos year) v d.day) m ∙ ap (day_count (pos year) month) k

same_day_in : (d : Date) (year month day : ℕ) → d.year ≡ pos year → d.month ≡ month → d.day ≡ day → IsInRange 1 (days_in_month (pos year) month) day
same_day_in d year month day y m k =
    subst (λ v. IsInRange 1 (days_in_month (pos year) month) v) k
    (subst (λ v. IsInRange 1 (days_in_month (pos year) v) d.day) m
    (subst (λ v. IsInRange 1 (days_in_month v d.month) d.day) y d.day_in))

pub day_of_date : (d : Date) (year month day n : ℕ) → IsYmd (pos year) (pos month) (pos day) d → epoch_day d +ℤ pos 4_371_587 ≡ pos n → 1601 ≤ year → IsDayOf year month day n
day_of_date d year month day n is days from =
    let y : d.year ≡ pos year = is.0 in
    let m : d.month ≡ month = ap unsigned_abs is.1 in
    let k : d.day ≡ day = ap unsigned_abs is.2 in
    let count : n + 366 ≡ day_count (pos year) month day = count_since_min d.year d.month d.day n days ∙ same_count d year month day y m k in
    let in_month : IsInRange 1 (days_in_month (pos year) month) day = same_day_in d year month day y m k in
    let late : 4_237_179 ≤ day_count (pos year) month day = from_first_day (pos year) month day in_month.0 (omega (arith, signed_arith, from)) in
    record {
      year_in = (from, omega (arith, signed_arith, y, d.year_in.1));
      month_in = subst (λ v. IsInRange 1 12 v) m d.month_in;
      day_in = in_month;
      late = omega (arith, count, late);
      days = omega (arith, count, late, first_day);
    }

pub ticks_made : (p : Parts) (days hour minute second fraction : ℕ) → days ≡ days_from_1601 p.year p.month p.day → hour ≡ p.hour → minute ≡ p.minute → second ≡ p.second → fraction ≡ fraction_of p.decimals → ticks_at days hour minute second fraction ≡ ticks_of p
unfolding ticks_of
ticks_made p days hour minute second fraction d h m s f =
    ap (λ v. ticks_at v hour minute second fraction) d
    ∙ ap (λ v. ticks_at (days_from_1601 p.year p.month p.day) v minute second fraction) h
    ∙ ap (λ v. ticks_at (days_from_1601 p.year p.month p.day) p.hour v second fraction) m
    ∙ ap (λ v. ticks_at (days_from_1601 p.year p.month p.day) p.hour p.minute v fraction) s
    ∙ ap (λ v. ticks_at (days_from_1601 p.year p.month p.day) p.hour p.minute p.second v) f

-- the numbers as they are passed to jiff_core
pub small_parts : (d : Date) (year month day : ℕ) → year < 10_000 → month < 100 → day < 100 → IsYmd (to_z w16 year) (to_z w8 month) (to_z w8 day) d → IsYmd (pos year) (pos month) (pos day) d
small_parts d year month day y m k is =
    (is.0 ∙ to_z_pos w16 year (omega (arith, y)), is.1 ∙ to_z_pos w8 month (omega (arith, m)), is.2 ∙ to_z_pos w8 day (omega (arith, k)))

pub abs_pos : (z : ℤ) → pos 0 ≤ℤ z → z ≡ pos (unsigned_abs z)
abs_pos (pos n) low = refl
abs_pos (negsuc n) low = let none : ⊥ = omega (arith, signed_arith, low) in absurd none

not_before : (d : Date) (n : ℕ) → epoch_day d +ℤ pos 4_371_587 ≡ pos (n + 4_236_813) → d.year <ℤ pos 1601 → ⊥
not_before d n is before =
    omega (arith, first_day, count_since_min d.year d.month d.day (n + 4_236_813) is, day_count-lt_year d.year d.month d.day (pos 1601) 1 1 (civil d) (omega arith) before)

from_1601 : (d : Date) (n : ℕ) → epoch_day d +ℤ pos 4_371_587 ≡ pos (n + 4_236_813) → pos 1601 ≤ℤ d.year
from_1601 d n is = by_lt_z d.year (pos 1601) (λ before. absurd (not_before d n is before)) (λ late. late)

-- the day with this number from 1601-01-01 on
pub day_at : (d : Date) (n : ℕ) → epoch_day d +ℤ pos 4_371_587 ≡ pos (n + 4_236_813) → IsDayOf (unsigned_abs d.year) d.month d.day (n + 4_236_813)
day_at d n is =
    let late : pos 1601 ≤ℤ d.year = from_1601 d n is in
    let year : d.year ≡ pos (unsigned_abs d.year) = abs_pos d.year (omega (arith, signed_arith, late)) in
    day_of_date d (unsigned_abs d.year) d.month d.day (n + 4_236_813) (year, refl, refl) is (omega (arith, signed_arith, late, year))

pub year_back : (d : Date) (n : ℕ) → epoch_day d +ℤ pos 4_371_587 ≡ pos (n + 4_236_813) → unsigned_abs (to_z w16 (of_z w16 d.year)) ≡ unsigned_abs d.year
year_back d n is = let last : unsigned_abs d.year ≤ 9999 = (day_at d n is).year_in.1 in ap unsigned_abs (back_small w16 d.year (omega (arith, last)))
