-- The trailers behind the chunks of a body.
use Rattle.std.specs.Prelude.{◌≡◌, ℕ, zero, suc, ◌+◌, ◌<◌, ◌≤◌, ◌⊎◌, ◌==◌, Bool, List, [], ◌∷◌, length, take, All, if◌then◌else◌}
use Rattle.std.specs.List.{flat_map, count_by}
use Rattle.httparse.specs.Ascii.{line_feed}
use Rattle.httparse.specs.Grammar.{Field, IsField, LineEnd, print_field, print_section, ReadsSection, HasNoSection, MayBecomeSection, NeverHasSection}
use Rattle.httparse.specs.Spans.{SectionExceeds, SectionOverflows}
use Rattle.mt_http_in.specs.declared.trailers.Trailers.{Trailers}
use Rattle.mt_http_in.specs.declared.trailers.Trailers.TheVariants.{Whole, More, Overlong, Malformed}
use Rattle.mt_http_in.specs.declared.Code.{Code}
use Rattle.mt_http_in.specs.declared.Code.TheVariants.{InvalidHead, InvalidFraming, RequestBodyTooLarge, InvalidBody, CompressedBody}

-- the bytes of field lines
abbrev pub print_lines : List Field → List ℕ
print_lines fields = flat_map print_field fields

-- at most 64 fields, whose lines have room; the empty line that ends them does not count
pub record AreTrailers (room : ℕ) (fields : List Field) : Type 0 where
  pub grammar : All IsField fields
  pub few : length fields ≤ 64
  pub short : length (print_lines fields) ≤ room

-- trailers and the empty line that ends them
pub record SpellsTrailers (room : ℕ) (bytes : List ℕ) (u : Unit {0}) : Type 0 where
  pub fields : List Field
  pub last : LineEnd
  pub are : AreTrailers room fields
  pub is : bytes ≡ print_section fields last

-- a line feed
abbrev pub is_feed : ℕ → Bool
is_feed b = b == line_feed

-- how many lines the bytes end
abbrev pub feeds : List ℕ → ℕ
feeds bytes = count_by is_feed bytes

-- no field section stands whole in the bytes, and more bytes can make one of them
pub record AreTrailersBegun (room : ℕ) (bytes : List ℕ) : Type 0 where
  pub none : HasNoSection bytes
  pub coming : MayBecomeSection bytes
  pub short : length bytes < room + 2
  pub few : feeds bytes < 65

-- the first n lines, and all where there are fewer
abbrev pub first_lines : ℕ → List ℕ → List ℕ
first_lines zero bytes = []
first_lines (suc n) [] = []
first_lines (suc n) (b ∷ bytes) = b ∷ (if is_feed b then first_lines n bytes else first_lines (suc n) bytes)

-- the bytes in which trailers stand: with the longest line end, and at most 65 lines with the empty one
abbrev pub window : ℕ → List ℕ → List ℕ
window room all = first_lines 65 (take (room + 2) all)

-- a field section whose lines have no room
pub record IsLongSection (room : ℕ) (all : List ℕ) : Type 0 where
  pub fields : List Field
  pub last : LineEnd
  pub rest : List ℕ
  pub reads : ReadsSection (window room all) fields last rest
  pub long : room < length (print_lines fields)

-- a field section that does not end where there is room
pub record IsEndless (room : ℕ) (all : List ℕ) : Type 0 where
  pub none : HasNoSection (window room all)
  pub coming : MayBecomeSection (window room all)
  pub long : (room + 2 ≤ length all) ⊎ (65 ≤ feeds (window room all))

-- too many fields, or too long
abbrev pub IsOverlong : ℕ → List ℕ → Type 0
IsOverlong room all = (SectionOverflows 64 (window room all) × SectionExceeds 64 (window room all)) ⊎ (IsLongSection room all ⊎ IsEndless room all)

-- why trailers are refused
abbrev pub TrailersRefused : ℕ → Code → List ℕ → Type 0
TrailersRefused room InvalidHead all = IsOverlong room all
TrailersRefused room InvalidFraming all = ⊥
TrailersRefused room RequestBodyTooLarge all = ⊥
TrailersRefused room InvalidBody all = NeverHasSection (window room all) ⊎ AreTrailersBegun room all
TrailersRefused room CompressedBody all = ⊥

-- what the bytes of a buffer begin with
abbrev pub TrailersAs : ℕ → List ℕ → Trailers → Type 0
TrailersAs room bytes (Whole n) = SpellsTrailers room (take n bytes) tt × (n ≤ length bytes)
TrailersAs room bytes More = AreTrailersBegun room bytes
TrailersAs room bytes Overlong = IsOverlong room bytes
TrailersAs room bytes Malformed = NeverHasSection (window room bytes)

-- the bytes of a field section
abbrev pub IsSectionBytes : List ℕ → Type 0
IsSectionBytes bytes = (fields : List Field) × (last : LineEnd) × All IsField fields × (bytes ≡ print_section fields last)
