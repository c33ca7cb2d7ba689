-- What is written for a value, beside its own type key, is read as that value.
use Rattle.std.proofs.Common.{◌≡◌, subst, inr, ℕ, suc, ◌^◌, ◌<◌, ◌≤◌, ℤ, pos, negsuc, false, ◌∷◌, get_or, refl, arith, decimal}
use Rattle.std.specs.Prelude.{FitsSigned, slice_index, ◌==◌}
use Rattle.std.specs.Int.{w64}
use Rattle.std.specs.Fmt.{signed_decimal}
use Rattle.std.specs.Str.Parse.{signed_digits_value}
use Rattle.std.proofs.lemmas.Bool.{ne_eqb}
use Rattle.std.proofs.lemmas.Fmt.{decimal_is_IsNumeral}
use Rattle.std.proofs.lemmas.Str.Parse.{digit_at}
use Rattle.serde_json.specs.Data.{string}
use Rattle.mt_model.specs.declared.value.Value.TheVariants as value
use Rattle.mt_json.specs.Value.{IsDecimal}
use Rattle.mt_json.specs.Written.{IsReadBack}

first_digit : (n : ℕ) → n < 2 ^ 64 → (48 ≤ get_or (decimal n) 0 0) × (get_or (decimal n) 0 0 ≤ 57)
first_digit n h = digit_at (decimal n) 0 (decimal_is_IsNumeral n h).0.1 (decimal_is_IsNumeral n h).0.0

unsigned_decimal : (n : ℕ) → n < 2 ^ 63 → FitsSigned w64 (pos n) → IsDecimal (decimal n) (pos n)
unsigned_decimal n h small =
    let k = decimal_is_IsNumeral n (omega arith) in
    let first = first_digit n (omega arith) in
    let minus : (slice_index (decimal n) 0 == 45) ≡ false = ne_eqb _ 45 (λ e. omega arith) in
    let plus : (slice_index (decimal n) 0 == 43) ≡ false = ne_eqb _ 43 (λ e. omega arith) in
    let value : pos n ≡ signed_digits_value 10 (decimal n) = rw (minus, plus, k.1) refl in
    record {
      no_plus = plus;
      digits = rw (minus, plus) k.0;
      fits = subst (FitsSigned w64) value small;
      value = value;
    }

negative_decimal : (n : ℕ) → suc n < 2 ^ 64 → FitsSigned w64 (negsuc n) → IsDecimal (45 ∷ decimal (suc n)) (negsuc n)
negative_decimal n h small =
    let k = decimal_is_IsNumeral (suc n) h in
    let value : negsuc n ≡ signed_digits_value 10 (45 ∷ decimal (suc n)) = rw k.1 refl in
    record {
      no_plus = refl;
      digits = k.0;
      fits = subst (FitsSigned w64) value small;
      value = value;
    }

pub int64_back : (z : ℤ) → FitsSigned w64 z → IsReadBack (value.Int64 z) (string (signed_decimal z))
int64_back (pos n) h = (pos n, inr (decimal n, refl, unsigned_decimal n (omega (arith, h.sfits)) h), refl)
int64_back (negsuc n) h = (negsuc n, inr (45 ∷ decimal (suc n), refl, negative_decimal n (omega (arith, h.sfits)) h), refl)
