-- The values of literals.
use Rattle.std.specs.Prelude.{◌≡◌, ℕ, Bool, true, false, ◌&&◌, ◌==◌, List, [], ◌∷◌, Option, Some, None, Ok, IsErr, MatchOption, codes, bytes_eq, if◌then◌else◌}
use Rattle.hex.specs.Hex.{decode_of}
use Rattle.mt_model.specs.declared.value.Value.{Value}
use Rattle.mt_model.specs.declared.value.Value.TheVariants.{Str, Binary, Bool as Boolean, Int32, Int64, Guid, Moment}
use Rattle.mt_filter.specs.declared.lexeme.LexemeKind.{LexemeKind}
use Rattle.mt_filter.specs.declared.lexeme.LexemeKind.TheVariants.{Open, Close, Word, Text, Binary as AsBinary, Guid as AsGuid, Moment as AsMoment, Int32 as AsInt32, Int64 as AsInt64}
use Rattle.std.specs.Str.{chars, encode_utf8_all}

-- the characters with one quote (39) for each two, where `after` says that a single one has just come
abbrev pub single_quotes : Bool → List ℕ → List ℕ
single_quotes after [] = []
single_quotes after (c ∷ cs) = if after && (c == 39) then single_quotes false cs else c ∷ single_quotes (c == 39) cs

-- the text whose quotes the inside of a literal doubles
abbrev pub undoubled : List ℕ → List ℕ
undoubled inside = encode_utf8_all (single_quotes false (chars inside))

-- the bytes that hexadecimal digits write, if they do
abbrev pub IsBlob : List ℕ → Option (List ℕ) → Type 0
IsBlob digits bytes = MatchOption bytes (IsErr (decode_of digits)) (λ found. decode_of digits ≡ Ok found)

-- the value that a word names
abbrev pub word_value : List ℕ → Option Value
word_value word =
    if bytes_eq word (codes "true") then Some (Boolean true)
    else if bytes_eq word (codes "false") then Some (Boolean false)
    else None

-- the value of a lexeme of this kind, whose value this part of the text says, if it is a literal
abbrev pub IsValue : LexemeKind → List ℕ → Option Value → Type 0
IsValue Open part value = value ≡ None
IsValue Close part value = value ≡ None
IsValue Word part value = value ≡ word_value part
IsValue Text part value = value ≡ Some (Str (undoubled part))
IsValue AsBinary part value =
    MatchOption value (IsErr (decode_of part)) (λ found. (bytes : List ℕ) × (decode_of part ≡ Ok bytes) × (found ≡ Binary bytes))
IsValue (AsGuid bytes) part value = value ≡ Some (Guid bytes)
IsValue (AsMoment ticks) part value = value ≡ Some (Moment ticks)
IsValue (AsInt32 n) part value = value ≡ Some (Int32 n)
IsValue (AsInt64 n) part value = value ≡ Some (Int64 n)
