-- What value a member of an object is, by its type.
use Rattle.std.specs.Prelude.{◌≡◌, ◌⊎◌, ℕ, ◌==◌, ◌&&◌, false, ℤ, pos, negsuc, int_le, List, slice_index, FitsSigned, Option, None, Some, option_map, option_and_then, MatchOption, if◌then◌else◌}
use Rattle.std.specs.Option.{option_or}
use Rattle.std.specs.Int.{w64}
use Rattle.std.specs.Result.{result_ok}
use Rattle.std.specs.Str.Parse.{IsNumeral, signed_digits_value, without_leading_sign}
use Rattle.base64.specs.Engines.{standard}
use Rattle.base64.specs.GeneralPurpose.{decode_of}
use Rattle.serde_json.specs.Data.{Data}
use Rattle.serde_json.specs.Find.{as_bool, as_str, as_number, as_i64}
use Rattle.uuid.specs.Text.{parsed_hyphenated}
use Rattle.mt_model.specs.declared.value.Value.{Value}
use Rattle.mt_model.specs.declared.value.Value.TheVariants as value
use Rattle.mt_time.specs.Moment.{HasTicks}
use Rattle.mt_json.specs.declared.kind.Kind.{Kind}
use Rattle.mt_json.specs.declared.kind.Kind.TheVariants.{Untyped, String, Boolean, Int32, Int64, Guid, DateTime, Binary, Double, Unknown}

-- a whole number in Int32
abbrev pub int32_in : ℤ → Option ℤ
int32_in z = if int_le (negsuc 2147483647) z && int_le z (pos 2147483647) then Some z else None

-- the whole number of 64 bits that it is, where it fits a signed one
abbrev pub int64_of : Data → Option ℤ
int64_of d = option_and_then as_i64 (as_number d)

-- the whole number in Int32 that it is
abbrev pub int32_of : Data → Option ℤ
int32_of d = option_and_then int32_in (int64_of d)

-- an optional `-` (43 is `+`) and one or more digits, with a value in Int64
pub record IsDecimal (text : List ℕ) (z : ℤ) : Type 0 where
  pub no_plus : (slice_index text 0 == 43) ≡ false
  pub digits : IsNumeral 10 (without_leading_sign text)
  pub fits : FitsSigned w64 (signed_digits_value 10 text)
  pub value : z ≡ signed_digits_value 10 text

-- a decimal string or a whole number in Int64
abbrev pub IsInt64 : Data → ℤ → Type 0
IsInt64 d z = (int64_of d ≡ Some z) ⊎ ((text : List ℕ) × (as_str d ≡ Some text) × IsDecimal text z)

-- a text that is a date, with its ticks
abbrev pub IsMoment : Data → ℤ → Type 0
IsMoment d ticks = (text : List ℕ) × (as_str d ≡ Some text) × HasTicks text ticks

-- standard base64 with padding
abbrev pub binary_of : List ℕ → Option (List ℕ)
binary_of text = result_ok (decode_of standard text)

-- a text, true or false, or a whole number in Int32
abbrev pub untyped_of : Data → Option Value
untyped_of d = option_or (option_map value.Str (as_str d)) (option_or (option_map value.Bool (as_bool d)) (option_map value.Int32 (int32_of d)))

-- d is the value v, where it has this type
abbrev pub IsValue : Kind → Data → Value → Type 0
IsValue Untyped d v = untyped_of d ≡ Some v
IsValue String d v = option_map value.Str (as_str d) ≡ Some v
IsValue Boolean d v = option_map value.Bool (as_bool d) ≡ Some v
IsValue Int32 d v = option_map value.Int32 (int32_of d) ≡ Some v
IsValue Int64 d v = (z : ℤ) × IsInt64 d z × (v ≡ value.Int64 z)
IsValue Guid d v = option_map value.Guid (option_and_then parsed_hyphenated (as_str d)) ≡ Some v
IsValue DateTime d v = (ticks : ℤ) × IsMoment d ticks × (v ≡ value.Moment ticks)
IsValue Binary d v = option_map value.Binary (option_and_then binary_of (as_str d)) ≡ Some v
IsValue Double d v = ⊥
IsValue Unknown d v = ⊥

-- d is no value of this type
abbrev pub HasNoValue : Kind → Data → Type 0
HasNoValue kind d = (v : Value) → IsValue kind d v → ⊥

-- the value, where there is one
abbrev pub IsTyped : Kind → Data → Option Value → Type 0
IsTyped kind d r = MatchOption r (HasNoValue kind d) (IsValue kind d)
