-- The options of a target, and its parts.
use Rattle.std.specs.Prelude.{◌≡◌, ◌<◌, ℕ, ◌==◌, nat_eq, nat_lt, Bool, false, ◌||◌, List, [], ◌∷◌, ◌++◌, map, drop, length, codes, bytes_eq, if◌then◌else◌, IsUtf8, Option, Some, None, Result, Ok, Err}
use Rattle.std.specs.Borrow.{Bor}
use Rattle.std.specs.List.{AllByRecursion, list_any, starts_with, position_or_len, before_first, after_first, slice_split}
use Rattle.percent_encoding.specs.Percent.{percent_decode}
use Rattle.mt_model.specs.declared.text.NoMemory.{NoMemory}
use Rattle.mt_target.specs.declared.target.QueryOption.{QueryOption}

-- ---- parts

-- the byte ends an authority: it is a slash or a question mark
abbrev pub ends_authority : ℕ → Bool
ends_authority c = c == 47 || c == 63

abbrev pub is_question : ℕ → Bool
is_question c = c == 63

abbrev pub is_ampersand : ℕ → Bool
is_ampersand c = c == 38

abbrev pub is_equals : ℕ → Bool
is_equals c = c == 61

-- what follows an authority
abbrev pub behind_authority : List ℕ → List ℕ
behind_authority bytes = drop (position_or_len ends_authority bytes) bytes

-- the path with its options: what follows the authority of an absolute URI, else the whole target
abbrev pub origin_of : List ℕ → List ℕ
origin_of target =
    if starts_with nat_eq target (codes "http://") then behind_authority (drop 7 target)
    else if starts_with nat_eq target (codes "https://") then behind_authority (drop 8 target)
    else target

-- the path ends at the first question mark
abbrev pub path_in : List ℕ → List ℕ
path_in origin = before_first is_question origin

-- behind it an option stands between ampersands
abbrev pub pieces_in : List ℕ → List (List ℕ)
pieces_in origin = if nat_lt (position_or_len is_question origin) (length origin) then slice_split is_ampersand (after_first is_question origin) else []

-- ---- options

-- the name ends at the first equals sign, and the value follows it; each is decoded by itself
abbrev pub option_in : List ℕ → QueryOption
option_in piece = record { name = percent_decode (before_first is_equals piece); value = percent_decode (after_first is_equals piece) }

abbrev pub options_in : List ℕ → List QueryOption
options_in origin = map option_in (pieces_in origin)

-- both are texts
abbrev pub IsText : QueryOption → Type 0
IsText o = IsUtf8 o.name × IsUtf8 o.value

-- some option has that name
abbrev pub has_option : List ℕ → List QueryOption → Bool
has_option name options = list_any (λ o. bytes_eq name o.name) options

-- some option has the name of an earlier one, where these stand before the first
abbrev pub repeats_behind : List QueryOption → List QueryOption → Bool
repeats_behind earlier [] = false
repeats_behind earlier (o ∷ options) = has_option o.name earlier || repeats_behind (earlier ++ o ∷ []) options

-- some name stands twice
abbrev pub has_repeat : List QueryOption → Bool
has_repeat options = repeats_behind [] options

-- ---- parts

-- the bytes as a text, where they are one; want of memory says nothing
abbrev pub DecodedAs : List ℕ → Result (Option (List ℕ)) NoMemory → Type 0
DecodedAs bytes (Ok (Some text)) = IsUtf8 bytes × (text ≡ bytes)
DecodedAs bytes (Ok None) = IsUtf8 bytes → ⊥
DecodedAs bytes (Err e) = Unit {0}

-- the option, where both are texts
abbrev pub OptionAs : QueryOption → Result (Option QueryOption) NoMemory → Type 0
OptionAs o (Ok (Some given)) = IsText o × (given ≡ o)
OptionAs o (Ok None) = IsText o → ⊥
OptionAs o (Err e) = Unit {0}

-- these options, where all are texts
abbrev pub OptionsAs : List QueryOption → Result (Option (List QueryOption)) NoMemory → Type 0
OptionsAs options (Ok (Some given)) = AllByRecursion IsText options × (given ≡ options)
OptionsAs options (Ok None) = AllByRecursion IsText options → ⊥
OptionsAs options (Err e) = Unit {0}

-- the first piece between ampersands, and what follows it
abbrev pub FirstPiece : List ℕ → List ℕ → Option (Bor (List ℕ)) → Type 0
FirstPiece text piece None = slice_split is_ampersand text ≡ piece ∷ []
FirstPiece text piece (Some behind) = (slice_split is_ampersand text ≡ piece ∷ slice_split is_ampersand behind.now) × (length behind.now < length text)
