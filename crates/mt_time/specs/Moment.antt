-- A moment of UTC as it is written: its parts, its text, and its value in ticks of 100 ns from 1601-01-01T00:00:00Z.
-- The text is a date-time of RFC 3339 with the offset Z, capital letters and at most seven decimals.
use Rattle.std.specs.Prelude.{◌≡◌, ℕ, ◌+◌, ◌-◌, ◌*◌, ◌<◌, List, [], ◌∷◌, ◌++◌, length, ℤ, pos}
use Rattle.std.specs.Int.{IsInRange}
use Rattle.jiff_core.specs.Calendar.{day_count, days_in_month}
use Rattle.mt_time.specs.Digits.{numeral, AreDecimals, seven_of, fraction_of}

-- the parts of a moment, with the decimals of its second as they are written
pub record Parts : Type 0 where
  pub year : ℕ
  pub month : ℕ
  pub day : ℕ
  pub hour : ℕ
  pub minute : ℕ
  pub second : ℕ
  pub decimals : List ℕ

-- the calendar has the day, the day has the time, and the year is one of 1601 to 9999
pub record IsDateTime (p : Parts) : Type 0 where
  pub year : IsInRange 1601 9999 p.year
  pub month : IsInRange 1 12 p.month
  pub day : IsInRange 1 (days_in_month (pos p.year) p.month) p.day
  pub hour : p.hour < 24
  pub minute : p.minute < 60
  pub second : p.second < 60
  pub decimals : AreDecimals p.decimals

-- the end of a text: a point (46) and the decimals, if there are any, and Z (90)
abbrev pub end_of : List ℕ → List ℕ
end_of [] = 90 ∷ []
end_of (digit ∷ digits) = 46 ∷ ((digit ∷ digits) ++ (90 ∷ []))

-- a character, two digits, and what follows
abbrev pub two_after : ℕ → ℕ → List ℕ → List ℕ
two_after before n rest = before ∷ (numeral 2 n ++ rest)

-- the text: year-month-dayThour:minute:second and its end, where 45 is '-', 84 'T' and 58 ':'
unfoldable pub text_of : Parts → List ℕ
text_of p =
    numeral 4 p.year
    ++ two_after 45 p.month (two_after 45 p.day (two_after 84 p.hour (two_after 58 p.minute (two_after 58 p.second (end_of p.decimals)))))

-- how many days a date is past 1601-01-01
abbrev pub days_from_1601 : ℕ → ℕ → ℕ → ℕ
days_from_1601 year month day = day_count (pos year) month day - day_count (pos 1601) 1 1

-- the ticks up to a time of day of a day with this number
abbrev pub ticks_at : ℕ → ℕ → ℕ → ℕ → ℕ → ℕ
ticks_at days hour minute second fraction =
    (((days * 24 + hour) * 60 + minute) * 60 + second) * 10_000_000 + fraction

-- the value of a moment: its ticks from 1601-01-01T00:00:00Z on
unfoldable pub ticks_of : Parts → ℕ
ticks_of p = ticks_at (days_from_1601 p.year p.month p.day) p.hour p.minute p.second (fraction_of p.decimals)

-- the same moment written with seven decimals
abbrev pub padded : Parts → Parts
padded p = record p { decimals = seven_of p.decimals }

-- the text is in the grammar and has this value
abbrev pub HasTicks : List ℕ → ℤ → Type 0
HasTicks text ticks = (p : Parts) × IsDateTime p × (text ≡ text_of p) × (ticks ≡ pos (ticks_of p))

-- the text is not in the grammar
abbrev pub HasNoTicks : List ℕ → Type 0
HasNoTicks text = (ticks : ℤ) → HasTicks text ticks → ⊥

-- the text is in the grammar, has this value, and has seven decimals
abbrev pub HasTicksInFull : List ℕ → ℤ → Type 0
HasTicksInFull text ticks = (p : Parts) × IsDateTime p × (length p.decimals ≡ 7) × (text ≡ text_of p) × (ticks ≡ pos (ticks_of p))
