-- Words without regard to case, pieces between commas, numbers up to a cap.
use Rattle.std.proofs.Common.{◌≡◌, ℕ, ◌+◌, ◌-◌, ◌*◌, ◌<◌, min, Bool, true, false, List, ◌∷◌, map, take, drop, length, get_or, refl, sym, ap, ◌∙◌, arith, rules, subst}
use Rattle.std.specs.Prelude.{IsTrue, ◌↔◌, nat_eq, bytes_eq}
use Rattle.std.specs.Char.{to_ascii_lowercase}
use Rattle.std.specs.Str.Parse.{digits_value}
use Rattle.std.specs.Cmp.Derive.Mapped.{pointwise-map}
use Rattle.std.proofs.lemmas.Slice.Eq.{bytes_eq-Decides}
use Rattle.std.proofs.lemmas.List.{take_more, drop_more}
use Rattle.httparse.proofs.ChunkLemmas.{digits_value_after_push}
use Rattle.std.specs.Char.{digit_value, is_ascii_digit}
use Rattle.std.specs.List.{list_all}
use Rattle.mt_http_in.specs.Fields.{is_same}

by_truth : (a b : Bool) → (a ≡ true → b ≡ true) → (b ≡ true → a ≡ true) → a ≡ b
by_truth true b f g = sym (f refl)
by_truth false true f g = g refl
by_truth false false f g = refl

same_is : (a b : List ℕ) → bytes_eq (map to_ascii_lowercase a) (map to_ascii_lowercase b) ≡ is_same a b
same_is a b = pointwise-map to_ascii_lowercase nat_eq a b

pub word_is : (a b : List ℕ) (r : Bool) → IsTrue r ↔ (map to_ascii_lowercase a ≡ map to_ascii_lowercase b) → r ≡ is_same a b
word_is a b r e =
    let d = bytes_eq-Decides (map to_ascii_lowercase a) (map to_ascii_lowercase b) in
    by_truth r (is_same a b) (λ t. sym (same_is a b) ∙ d.1 (e.0 t)) (λ t. e.1 (d.0 (same_is a b ∙ t)))

cap_step : (v d : ℕ) → min (min v 4194305 * 10 + d) 4194305 ≡ min (v * 10 + d) 4194305
cap_step v d = omega arith

-- one more digit
pub capped_more : (digits : List ℕ) (i n d : ℕ) → i < length digits → n ≡ min (digits_value 10 (take i digits)) 4194305 → digit_value (get_or digits i 0) ≡ d
    → min (n * 10 + d) 4194305 ≡ min (digits_value 10 (take (i + 1) digits)) 4194305
capped_more digits i n d less n_is d_is =
    let v : ℕ = digits_value 10 (take i digits) in
    let more : digits_value 10 (take (i + 1) digits) ≡ v * 10 + d =
    ap (digits_value 10) (take_more digits i 0 less) ∙ digits_value_after_push 10 0 (take i digits) (get_or digits i 0) ∙ ap (λ k. v * 10 + k) d_is in
    ap (λ k. min (k * 10 + d) 4194305) n_is ∙ cap_step v d ∙ ap (λ k. min k 4194305) (sym more)

digit_is : (d : ℕ) → is_ascii_digit d ≡ true → digit_value d ≡ d - 48
digit_is d is = search rules

digits_of : (d : ℕ) (ds : List ℕ) → list_all is_ascii_digit (d ∷ ds) ≡ true → (is_ascii_digit d ≡ true) × (list_all is_ascii_digit ds ≡ true)
digits_of d ds all = search rules

-- the next byte is a digit, and those behind it are
pub digits_left : (digits : List ℕ) (i : ℕ) → i < length digits → list_all is_ascii_digit (drop i digits) ≡ true
    → (digit_value (get_or digits i 0) ≡ get_or digits i 0 - 48) × (list_all is_ascii_digit (drop (i + 1) digits) ≡ true)
digits_left digits i less all =
    let both = digits_of (get_or digits i 0) (drop (i + 1) digits) (subst (λ v. list_all is_ascii_digit v ≡ true) (drop_more digits i 0 less) all) in
    (digit_is (get_or digits i 0) both.0, both.1)
