-- Decimal digits as their ASCII codes.
use Rattle.std.specs.Prelude.{ℕ, zero, suc, ◌+◌, ◌-◌, ◌/◌, ◌%◌, ◌≤◌, List, [], ◌∷◌, ◌++◌, length, replicate}
use Rattle.std.specs.Str.Parse.{AllDigits, digits_value}

-- the last k digits of a number, with leading zeros
unfoldable pub numeral : ℕ → ℕ → List ℕ
numeral zero n = []
numeral (suc k) n = numeral k (n / 10) ++ ((48 + n % 10) ∷ [])

-- what may stand after the point of a second: at most seven digits
pub record AreDecimals (decimals : List ℕ) : Type 0 where
  pub digits : AllDigits 10 decimals
  pub few : length decimals ≤ 7

-- the same decimals, filled up with zeros to seven
abbrev pub seven_of : List ℕ → List ℕ
seven_of decimals = decimals ++ replicate (7 - length decimals) 48

-- decimals of a second as a number of ticks of 100 ns
abbrev pub fraction_of : List ℕ → ℕ
fraction_of decimals = digits_value 10 (seven_of decimals)
