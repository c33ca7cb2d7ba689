-- Decimals filled up with zeros.
use Rattle.std.proofs.Common.{◌≡◌, ℕ, zero, suc, ◌+◌, ◌-◌, ◌*◌, ◌^◌, ◌<◌, List, [], ◌∷◌, ◌++◌, length, replicate, refl, sym, ap, ◌∙◌, arith, subst, length-append, pow-suc, append-nil, lit<}
use Rattle.std.specs.Char.{digit_value}
use Rattle.std.specs.Str.Parse.{AllDigits, digits_value, digits_value_after}
use Rattle.std.proofs.Math.Nat.{mul_assoc, mul_comm, pow-zero}
use Rattle.std.proofs.lemmas.List.{length-replicate}
use Rattle.std.proofs.lemmas.Int.Digits.{digits_value-lt}
use Rattle.mt_time.proofs.DigitLaws.{length-numeral, digits-numeral, value-numeral}
use Rattle.mt_time.specs.Digits.{numeral, AreDecimals, seven_of, fraction_of}

zeros_after : (v j : ℕ) → digits_value_after 10 v (replicate j 48) ≡ v * 10 ^ j
zeros_after v zero = omega (arith, pow-zero 10)
zeros_after v (suc j) = zeros_after (v * 10 + 0) j ∙ (let e : v * 10 + 0 ≡ v * 10 = omega arith in rw (e, pow-suc, mul_assoc, mul_comm 10) refl)

value_after_append : (xs ys : List ℕ) (v : ℕ) → digits_value_after 10 v (xs ++ ys) ≡ digits_value_after 10 (digits_value_after 10 v xs) ys
value_after_append [] ys v = refl
value_after_append (x ∷ xs) ys v = value_after_append xs ys (v * 10 + digit_value x)

pub fraction_is : (ds : List ℕ) → fraction_of ds ≡ digits_value 10 ds * 10 ^ (7 - length ds)
fraction_is ds = value_after_append ds (replicate (7 - length ds) 48) 0 ∙ zeros_after (digits_value 10 ds) (7 - length ds)

zeros_are_digits : (j : ℕ) → AllDigits 10 (replicate j 48)
zeros_are_digits zero = tt
zeros_are_digits (suc j) = (lit< tt, zeros_are_digits j)

both_digits : (xs ys : List ℕ) → AllDigits 10 xs → AllDigits 10 ys → AllDigits 10 (xs ++ ys)
both_digits [] ys p q = q
both_digits (x ∷ xs) ys p q = (p.0, both_digits xs ys p.1 q)

pub length-seven_of : (ds : List ℕ) → AreDecimals ds → length (seven_of ds) ≡ 7
length-seven_of ds d = omega (arith, length-append ds (replicate (7 - length ds) 48), length-replicate {A = ℕ} (7 - length ds) 48, d.few)

pub digits-seven_of : (ds : List ℕ) → AreDecimals ds → AllDigits 10 (seven_of ds)
digits-seven_of ds d = both_digits ds (replicate (7 - length ds) 48) d.digits (zeros_are_digits (7 - length ds))

pub fraction_small : (ds : List ℕ) → AreDecimals ds → fraction_of ds < 10_000_000
fraction_small ds d =
    let below : digits_value 10 (seven_of ds) < 10 ^ length (seven_of ds) = digits_value-lt 10 (seven_of ds) (digits-seven_of ds d) in
    subst (λ k. fraction_of ds < 10 ^ k) (length-seven_of ds d) below

-- seven decimals are filled up already
pub seven_of_seven : (ds : List ℕ) → length ds ≡ 7 → seven_of ds ≡ ds
seven_of_seven ds is = ap (λ k. ds ++ replicate (7 - k) 48) is ∙ append-nil ds

-- a number with its zeros
pub fraction_by_zeros : (ds : List ℕ) (n power : ℕ) → AreDecimals ds → n ≡ digits_value 10 ds → power ≡ 10 ^ (7 - length ds) → (n * power < 10_000_000) × (n * power ≡ fraction_of ds)
fraction_by_zeros ds n power d value zeros =
    let same : n * power ≡ fraction_of ds = ap (λ m. m * power) value ∙ ap (λ m. digits_value 10 ds * m) zeros ∙ sym (fraction_is ds) in
    (subst (λ m. m < 10_000_000) (sym same) (fraction_small ds d), same)

-- seven digits of a number are decimals with this value
pub decimals_of : (n : ℕ) → AreDecimals (numeral 7 n)
decimals_of n = record { digits = digits-numeral 7 n; few = omega (arith, length-numeral 7 n) }

pub fraction_of_numeral : (n : ℕ) → n < 10_000_000 → fraction_of (numeral 7 n) ≡ n
fraction_of_numeral n lt = ap (digits_value 10) (seven_of_seven (numeral 7 n) (length-numeral 7 n)) ∙ value-numeral 7 n lt
