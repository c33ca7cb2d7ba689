-- The lexemes of a filter's text, each the longest that begins at its place, and why none begins there.
use Rattle.std.specs.Prelude.{◌≡◌, ℕ, ◌+◌, ◌≤◌, ◌^◌, ◌⊎◌, ℤ, pos, negsuc, Bool, true, false, ◌||◌, ◌==◌, nat_lt, FitsSigned, List, [], ◌∷◌, length, take, drop, slice_index, slice_range, Option, None, Result, Ok, Err, MatchOption, MatchResult, if◌then◌else◌}
use Rattle.std.specs.Bool.{MatchBool}
use Rattle.std.specs.Char.{is_ascii_digit}
use Rattle.std.specs.Str.{chars, IsCharBoundary}
use Rattle.std.specs.Str.Parse.{IsNumeral, signed_digits_value, without_leading_sign}
use Rattle.std.proofs.Common.{w64}
use Rattle.uuid.specs.Text.{parsed_hyphenated}
use Rattle.mt_model.specs.Name.{begins_name}
use Rattle.mt_time.specs.Moment.{HasTicks, HasNoTicks}
use Rattle.mt_filter.specs.Class.{run_length}
use Rattle.mt_filter.specs.Quoted.{quoted_by, doubled, Closes, is_hex}
use Rattle.mt_filter.specs.declared.classes.Class.TheVariants.{Digit, Letter}
use Rattle.mt_filter.specs.declared.filter.FilterKind.{FilterKind}
use Rattle.mt_filter.specs.declared.filter.FilterKind.TheVariants.{Token, Expected, DoubleLiteral, OutOfRange}
use Rattle.mt_filter.specs.declared.quoted.Quoted.{Quoted}
use Rattle.mt_filter.specs.declared.quoted.Quoted.TheVariants.{Text as InText, Moment as InMoment, Guid as InGuid, Binary as InBinary}
use Rattle.mt_filter.specs.declared.lexeme.Front.{Front}
use Rattle.mt_filter.specs.declared.lexeme.Front.TheVariants.{End, Open as AtOpen, Close as AtClose, Quote, Number, Word as AtWord, Nothing}
use Rattle.mt_filter.specs.declared.lexeme.LexemeKind.{LexemeKind}
use Rattle.mt_filter.specs.declared.lexeme.LexemeKind.TheVariants.{Open, Close, Word, Text, Binary, Guid, Moment, Int32, Int64}
use Rattle.mt_filter.specs.declared.lexeme.Lexeme.{Lexeme}

-- a lexeme with the places of the part that says its value, and its length
abbrev pub lexeme : LexemeKind → ℕ → ℕ → ℕ → Lexeme
lexeme kind from to len = record { kind = kind; from = from; to = to; len = len }

-- a lexeme between quotes, whose inside begins at byte `at`
abbrev pub quoted_lexeme : LexemeKind → ℕ → List ℕ → Lexeme
quoted_lexeme kind at inside = lexeme kind at (at + length inside) (at + length inside + 1)

-- a lexeme that a text can be cut at: at its end, and at both ends of the part that says its value
pub record IsWithin (bs : List ℕ) (x : Lexeme) : Type 0 where
  pub order : x.from ≤ x.to
  pub end : IsCharBoundary bs x.len
  pub from : IsCharBoundary bs x.from
  pub to : IsCharBoundary bs x.to

-- what the first character begins: ( is 40, ) is 41, ' is 39 and - is 45
abbrev pub front_of : List ℕ → Front
front_of [] = End
front_of (b ∷ bs) =
    if b == 40 then AtOpen
    else if b == 41 then AtClose
    else if b == 39 then Quote
    else if (b == 45) || is_ascii_digit b then Number
    else if begins_name (chars (b ∷ bs)) then AtWord
    else Nothing

-- the literal whose quotes have this inside, which begins at byte `at`
abbrev pub IsInside : Quoted → ℕ → List ℕ → Result Lexeme FilterKind → Type 0
IsInside InText at inside r = r ≡ Ok (quoted_lexeme Text at inside)
IsInside InMoment at inside r =
    MatchResult r (λ x. (ticks : ℤ) × HasTicks inside ticks × (x ≡ quoted_lexeme (Moment ticks) at inside))
    (λ kind. HasNoTicks inside × (kind ≡ Token))
IsInside InGuid at inside r =
    MatchOption (parsed_hyphenated inside) (r ≡ Err Token) (λ bytes. r ≡ Ok (quoted_lexeme (Guid bytes) at inside))
IsInside InBinary at inside r = r ≡ (if is_hex inside then Ok (quoted_lexeme Binary at inside) else Err Token)

-- the literal whose quotes begin at byte `quote`, by its inside, or none where no quote ends it
abbrev pub IsQuoted : Quoted → ℕ → List ℕ → Result Lexeme FilterKind → Type 0
IsQuoted kind quote bs r =
    ((text : List ℕ) × Closes (drop (quote + 1) bs) text × IsInside kind (quote + 1) (doubled text) r)
    ⊎ (((text : List ℕ) → Closes (drop (quote + 1) bs) text → ⊥) × (r ≡ Err Token))

-- a number of 32 bits
abbrev pub is_int32 : ℤ → Bool
is_int32 (pos n) = nat_lt n (2 ^ 31)
is_int32 (negsuc n) = nat_lt n (2 ^ 31)

-- the kind of a whole number: Int32 where it fits, unless it is marked as Int64
abbrev pub whole_kind : Bool → ℤ → LexemeKind
whole_kind true n = Int64 n
whole_kind false n = if is_int32 n then Int32 n else Int64 n

-- the sign and the digits write a number of Int64
abbrev pub IsInt64 : List ℕ → Type 0
IsInt64 numeral = IsNumeral 10 (without_leading_sign numeral) × FitsSigned w64 (signed_digits_value 10 numeral)

-- how many bytes the mark of Int64 takes
abbrev pub mark_length : Bool → ℕ
mark_length b = if b then 1 else 0

-- the whole number of this sign and digits
abbrev pub IsWhole : Bool → List ℕ → Result Lexeme FilterKind → Type 0
IsWhole is_long numeral r =
    MatchResult r (λ x. IsInt64 numeral × (x ≡ lexeme (whole_kind is_long (signed_digits_value 10 numeral)) 0 (length numeral + mark_length is_long) (length numeral + mark_length is_long)))
    (λ kind. (IsInt64 numeral → ⊥) × (kind ≡ OutOfRange))

-- what makes the digits before it a literal of Edm.Double: . is 46, e is 101 and E is 69
abbrev pub begins_fraction : List ℕ → Bool
begins_fraction [] = false
begins_fraction (b ∷ bs) = (b == 46) || (b == 101) || (b == 69)

-- the mark of Int64, L (76)
abbrev pub begins_mark : List ℕ → Bool
begins_mark [] = false
begins_mark (b ∷ bs) = b == 76

-- the number of this sign and digits, before what follows them
abbrev pub IsNumberBefore : List ℕ → List ℕ → Result Lexeme FilterKind → Type 0
IsNumberBefore numeral rest r = MatchBool (begins_fraction rest) (r ≡ Err DoubleLiteral) (IsWhole (begins_mark rest) numeral r)

-- how many bytes the sign - (45) takes
abbrev pub sign_length : List ℕ → ℕ
sign_length bs = if slice_index bs 0 == 45 then 1 else 0

-- how many bytes the digits after the sign take
abbrev pub digits_length : List ℕ → ℕ
digits_length bs = run_length Digit (drop (sign_length bs) bs)

-- a number, which has a digit
abbrev pub IsNumber : List ℕ → Result Lexeme FilterKind → Type 0
IsNumber bs r =
    MatchBool (digits_length bs == 0) (r ≡ Err Token)
    (IsNumberBefore (take (sign_length bs + digits_length bs) bs) (drop (sign_length bs + digits_length bs) bs) r)

-- what the literal is that begins with this word, if a quote stands right after it
abbrev pub quoted_kind : List ℕ → List ℕ → Option Quoted
quoted_kind word [] = None
quoted_kind word (b ∷ bs) = if b == 39 then quoted_by word else None

-- a word, which ends where a character cannot continue it, or the literal that begins with it
abbrev pub IsWord : List ℕ → Result Lexeme FilterKind → Type 0
IsWord bs r =
    MatchOption (quoted_kind (take (run_length Letter bs) bs) (drop (run_length Letter bs) bs))
    (r ≡ Ok (lexeme Word 0 (run_length Letter bs) (run_length Letter bs))) (λ kind. IsQuoted kind (run_length Letter bs) bs r)

-- by what the first character begins
abbrev pub IsAtFront : Front → List ℕ → Result Lexeme FilterKind → Type 0
IsAtFront End bs r = r ≡ Err Expected
IsAtFront AtOpen bs r = r ≡ Ok (lexeme Open 0 1 1)
IsAtFront AtClose bs r = r ≡ Ok (lexeme Close 0 1 1)
IsAtFront Quote bs r = IsQuoted InText 0 bs r
IsAtFront Number bs r = IsNumber bs r
IsAtFront AtWord bs r = IsWord bs r
IsAtFront Nothing bs r = r ≡ Err Token

-- the lexeme at the front of a text that does not begin with a blank, or why none begins
abbrev pub IsLexeme : List ℕ → Result Lexeme FilterKind → Type 0
IsLexeme bs r = IsAtFront (front_of bs) bs r

-- a lexeme of this kind stands at the front, with the part of the text that says its value and what follows it
abbrev pub IsNext : List ℕ → LexemeKind → List ℕ → List ℕ → Type 0
IsNext bs kind part rest =
    (x : Lexeme) × IsLexeme bs (Ok x) × (kind ≡ x.kind) × (part ≡ slice_range bs x.from x.to) × (rest ≡ drop x.len bs)
