-- The values of Content-Type (RFC 9110, section 8.3): a media type, and its parameters.
use Rattle.std.specs.Prelude.{ℕ, ◌+◌, ◌==◌, Bool, false, not, ◌&&◌, List, [], ◌∷◌, ◌++◌, length, take, drop, codes, Option, Some, None, if◌then◌else◌}
use Rattle.std.specs.Borrow.{Bor}
use Rattle.std.specs.List.{position}
use Rattle.std.specs.Option.{option_or}
use Rattle.httparse.specs.Grammar.{trim_ows}
use Rattle.mt_http_in.specs.Fields.{is_same, onto}

-- a semicolon
abbrev pub is_semicolon : ℕ → Bool
is_semicolon c = c == 59

-- a quote
abbrev pub is_quote : ℕ → Bool
is_quote c = c == 34

-- an equals sign
abbrev pub is_equals : ℕ → Bool
is_equals c = c == 61

-- a quote begins what stands in quotes, and ends it
abbrev pub quoted_behind : Bool → ℕ → Bool
quoted_behind quoted c = if is_quote c then not quoted else quoted

-- the byte ends a piece
abbrev pub ends_piece : Bool → ℕ → Bool
ends_piece quoted c = is_semicolon c && not quoted

-- the pieces between the semicolons that stand outside of quotes, behind what stands in quotes or not
abbrev pub pieces : Bool → List ℕ → List (List ℕ)
pieces quoted [] = [] ∷ []
pieces quoted (c ∷ cs) = if ends_piece quoted c then [] ∷ pieces false cs else onto c (pieces (quoted_behind quoted c) cs)

-- ---- parameters

-- the value of a parameter whose equals sign has that place, where its name is `boundary`
abbrev pub value_at : List ℕ → Option ℕ → Option (List ℕ)
value_at piece None = None
value_at piece (Some at) = if is_same (trim_ows (take at piece)) (codes "boundary") then Some (trim_ows (drop (at + 1) piece)) else None

-- the value of the first parameter named `boundary`
abbrev pub first_boundary : List (List ℕ) → Option (List ℕ)
first_boundary [] = None
first_boundary (p ∷ ps) = option_or (value_at p (position is_equals p)) (first_boundary ps)

-- no word is empty
abbrev pub some_word : List ℕ → Option (List ℕ)
some_word [] = None
some_word (c ∷ cs) = Some (c ∷ cs)

-- the word before the closing quote of that place, which is the last byte
abbrev pub before_quote : List ℕ → Option ℕ → Option (List ℕ)
before_quote text None = None
before_quote text (Some at) = if at + 1 == length text then some_word (take at text) else None

-- the word that a parameter's value writes: what stands in its quotes, or the value as it is
abbrev pub word_of : List ℕ → Option (List ℕ)
word_of [] = None
word_of (c ∷ cs) = if is_quote c then before_quote cs (position is_quote cs) else Some (c ∷ cs)

-- the same of a value that may be absent
abbrev pub word_in : Option (List ℕ) → Option (List ℕ)
word_in None = None
word_in (Some value) = word_of value

-- ---- media types

-- the first piece is that media type
abbrev pub is_type : List ℕ → List (List ℕ) → Bool
is_type type [] = false
is_type type (p ∷ ps) = is_same (trim_ows p) type

-- the value is of that media type, with any parameters
abbrev pub has_type : List ℕ → List ℕ → Bool
has_type type value = is_type type (pieces false value)

-- the pieces behind the first
abbrev pub parameters : List (List ℕ) → List (List ℕ)
parameters [] = []
parameters (p ∷ ps) = ps

-- the boundary of the value of a Content-Type, where it is multipart/mixed and has one
abbrev pub boundary_of : List ℕ → Option (List ℕ)
boundary_of value = if has_type (codes "multipart/mixed") value then word_in (first_boundary (parameters (pieces false value))) else None

-- ---- while pieces are read

-- the pieces of what is left
abbrev pub pieces_left : Option (Bor (List ℕ)) → List (List ℕ)
pieces_left None = []
pieces_left (Some rest) = pieces false rest.now

-- the bytes, put before the first piece
abbrev pub before_all : List ℕ → List (List ℕ) → List (List ℕ)
before_all xs [] = xs ∷ []
before_all xs (p ∷ ps) = (xs ++ p) ∷ ps
