-- Numerals of a fixed length and the numbers that digits write.
use Rattle.std.proofs.Common.{◌≡◌, ℕ, zero, suc, ◌+◌, ◌-◌, ◌*◌, ◌/◌, ◌%◌, ◌^◌, ◌<◌, ◌≤◌, List, [], ◌∷◌, ◌++◌, length, take, get_or, refl, sym, ap, ◌∙◌, arith, subst, length-append, append_assoc, length-take, pow-suc}
use Rattle.std.specs.Str.Parse.{AllDigits, digits_value}
use Rattle.std.specs.Char.{digit_value}
use Rattle.std.specs.Int.{IsInRange}
use Rattle.std.proofs.Math.Seq.{take-suc}
use Rattle.std.proofs.lemmas.List.{take_all}
use Rattle.std.proofs.Math.Nat.{pow-le-pow_right}
use Rattle.std.proofs.lemmas.Int.Digits.{digits_value_push, digits_value-lt, digits_value_more, digits_push, digits_more}
use Rattle.std.proofs.lemmas.Str.{digit_value_digit}
use Rattle.std.proofs.lemmas.Str.Parse.{digit_from_value}
use Rattle.mt_time.specs.Digits.{numeral}

-- digits and their values
digit_code : (d : ℕ) → d < 10 → digit_value (48 + d) ≡ d
digit_code d lt = let in_range : IsInRange 48 57 (48 + d) = (omega arith, omega (arith, lt)) in omega (arith, digit_value_digit (48 + d) in_range)

pub code_digit : (c : ℕ) → digit_value c < 10 → 48 + digit_value c ≡ c
code_digit c lt = omega (arith, digit_value_digit c (digit_from_value c lt))

pub numeral_more : (k n : ℕ) → numeral (suc k) n ≡ numeral k (n / 10) ++ ((48 + n % 10) ∷ [])
unfolding numeral
numeral_more k n = refl

pub numeral_none : (n : ℕ) → numeral 0 n ≡ []
unfolding numeral
numeral_none n = refl

pub length-numeral : (k n : ℕ) → length (numeral k n) ≡ k
length-numeral zero n = ap length (numeral_none n)
length-numeral (suc k) n =
    let front : length (numeral k (n / 10)) ≡ k = length-numeral k (n / 10) in
    omega (arith, ap length (numeral_more k n), length-append (numeral k (n / 10)) ((48 + n % 10) ∷ []), front)

pub digits-numeral : (k n : ℕ) → AllDigits 10 (numeral k n)
digits-numeral zero n = subst (AllDigits 10) (sym (numeral_none n)) tt
digits-numeral (suc k) n =
    let small : digit_value (48 + n % 10) < 10 = rw (digit_code (n % 10) (omega arith)) (omega arith) in
    subst (AllDigits 10) (sym (numeral_more k n)) (digits_push 10 (numeral k (n / 10)) (48 + n % 10) (digits-numeral k (n / 10)) small)

pub value-numeral : (k n : ℕ) → n < 10 ^ k → digits_value 10 (numeral k n) ≡ n
value-numeral zero n lt = ap (digits_value 10) (numeral_none n) ∙ omega (arith, lt)
value-numeral (suc k) n lt =
    let front : digits_value 10 (numeral k (n / 10)) ≡ n / 10 = value-numeral k (n / 10) (omega (arith, lt, pow-suc 10 k)) in
    let last : digit_value (48 + n % 10) ≡ n % 10 = digit_code (n % 10) (omega arith) in
    ap (digits_value 10) (numeral_more k n) ∙ digits_value_push 10 (numeral k (n / 10)) (48 + n % 10) ∙ omega (arith, front, last)

front_digits : (xs ys : List ℕ) → AllDigits 10 (xs ++ ys) → AllDigits 10 xs × AllDigits 10 ys
front_digits [] ys all = (tt, all)
front_digits (x ∷ xs) ys all = let rest = front_digits xs ys all.1 in ((all.0, rest.0), rest.1)

empty_of : (xs : List ℕ) → length xs ≡ 0 → xs ≡ []
empty_of [] is = refl
empty_of (x ∷ xs) is = let none : ⊥ = omega (arith, is) in absurd none

pub numeral-value : (k : ℕ) (ds : List ℕ) → length ds ≡ k → AllDigits 10 ds → numeral k (digits_value 10 ds) ≡ ds
numeral-value zero ds is all = numeral_none (digits_value 10 ds) ∙ sym (empty_of ds is)
numeral-value (suc k) ds is all =
    let front : List ℕ = take k ds in
    let last : ℕ = get_or ds k 0 in
    let split : ds ≡ front ++ (last ∷ []) = sym (take_all (suc k) ds (omega (arith, is))) ∙ take-suc ds k 0 (omega (arith, is)) in
    let both : AllDigits 10 front × AllDigits 10 (last ∷ []) = front_digits front (last ∷ []) (subst (AllDigits 10) split all) in
    let size : length front ≡ k = length-take k ds ∙ omega (arith, is) in
    let value : digits_value 10 ds ≡ digits_value 10 front * 10 + digit_value last = ap (digits_value 10) split ∙ digits_value_push 10 front last in
    let lt : digit_value last < 10 = both.1.0 in
    let tens : digits_value 10 ds / 10 ≡ digits_value 10 front = omega (arith, value, lt) in
    let units : digits_value 10 ds % 10 ≡ digit_value last = omega (arith, value, lt) in
    numeral_more k (digits_value 10 ds)
    ∙ ap (λ n. numeral k n ++ ((48 + digits_value 10 ds % 10) ∷ [])) tens
    ∙ ap (λ n. numeral k (digits_value 10 front) ++ ((48 + n) ∷ [])) units
    ∙ ap (λ c. numeral k (digits_value 10 front) ++ (c ∷ [])) (code_digit last lt)
    ∙ ap (λ v. v ++ (last ∷ [])) (numeral-value k front size both.0)
    ∙ sym split

-- one more digit of a text
pub value_more : (ds : List ℕ) (i number digit : ℕ) → i < length ds → AllDigits 10 (take i ds) × (number ≡ digits_value 10 (take i ds)) → IsInRange 48 57 (get_or ds i 0) → digit ≡ get_or ds i 0 - 48 → AllDigits 10 (take (i + 1) ds) × (number * 10 + digit ≡ digits_value 10 (take (i + 1) ds))
value_more ds i number digit lt before in_range is =
    let value : digit_value (get_or ds i 0) + 48 ≡ get_or ds i 0 = digit_value_digit (get_or ds i 0) in_range in
    let small : digit_value (get_or ds i 0) < 10 = omega (arith, value, in_range.1) in (
      digits_more 10 ds i lt before.0 small,
      omega (arith, digits_value_more 10 ds i lt, before.1, is, value),
    )

-- at most eight digits
pub value_small : (ds : List ℕ) (i number : ℕ) → i ≤ 8 → AllDigits 10 (take i ds) × (number ≡ digits_value 10 (take i ds)) → number < 100_000_000
value_small ds i number le before =
    let size : length (take i ds) ≤ 8 = omega (arith, length-take i ds) in
    let below : digits_value 10 (take i ds) < 10 ^ length (take i ds) = digits_value-lt 10 (take i ds) before.0 in
    let most : 10 ^ length (take i ds) ≤ 10 ^ 8 = pow-le-pow_right {n = 10} (omega arith) size in
    omega (arith, below, most, before.1)

pub digit_at : (ds : List ℕ) (i : ℕ) → i < length ds → AllDigits 10 ds → IsInRange 48 57 (get_or ds i 0)
digit_at [] i lt all = let none : ⊥ = omega (arith, lt) in absurd none
digit_at (c ∷ cs) zero lt all = digit_from_value c all.0
digit_at (c ∷ cs) (suc i) lt all = digit_at cs i (omega (arith, lt)) all.1

-- the last digit is written after those before it
pub numeral_step : (k n : ℕ) → 0 < k → numeral k n ≡ numeral (k - 1) (n / 10) ++ ((48 + n % 10) ∷ [])
numeral_step zero n some = let none : ⊥ = omega (arith, some) in absurd none
numeral_step (suc k) n some = let same : suc k - 1 ≡ k = omega arith in numeral_more k n ∙ ap (λ j. numeral j (n / 10) ++ ((48 + n % 10) ∷ [])) (sym same)

pub pushed : (old front whole : List ℕ) (k n digit : ℕ) → 0 < k → front ≡ old ++ numeral (k - 1) (n / 10) → digit ≡ 48 + n % 10 → whole ≡ front ++ (digit ∷ []) → whole ≡ old ++ numeral k n
pushed old front whole k n digit some before last is =
    is ∙ ap (λ v. v ++ (digit ∷ [])) before ∙ append_assoc old (numeral (k - 1) (n / 10)) (digit ∷ [])
    ∙ ap (λ c. old ++ (numeral (k - 1) (n / 10) ++ (c ∷ []))) last ∙ ap (λ v. old ++ v) (sym (numeral_step k n some))
