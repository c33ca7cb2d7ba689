-- What the parts of a text are before it is seen whether there is such a moment.
use Rattle.std.specs.Prelude.{◌≡◌, ℕ, ◌<◌, List}
use Rattle.mt_time.specs.declared.fields.Fields.{Fields}
use Rattle.mt_time.specs.Digits.{AreDecimals, fraction_of}
use Rattle.mt_time.specs.Moment.{Parts, text_of}

-- the numbers have as many digits as the text has places for them
pub record AreShort (f : Fields) : Type 0 where
  pub year : f.year < 10_000
  pub month : f.month < 100
  pub day : f.day < 100
  pub hour : f.hour < 100
  pub minute : f.minute < 100
  pub second : f.second < 100
  pub fraction : f.fraction < 10_000_000

-- numbers with these decimals
abbrev pub with_decimals : Fields → List ℕ → Parts
with_decimals f decimals =
    record { year = f.year; month = f.month; day = f.day; hour = f.hour; minute = f.minute; second = f.second; decimals = decimals }

-- the text is written with these numbers
abbrev pub IsWritten : List ℕ → Fields → Type 0
IsWritten text f = (decimals : List ℕ) × AreDecimals decimals × (f.fraction ≡ fraction_of decimals) × (text ≡ text_of (with_decimals f decimals))

-- the text is not of this form, whatever its numbers
abbrev pub IsNotWritten : List ℕ → Type 0
IsNotWritten text = (p : Parts) → AreDecimals p.decimals → text ≡ text_of p → ⊥
