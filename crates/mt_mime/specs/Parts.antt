-- The parts of a multipart body (RFC 2046, section 5.1.1), line by line.
use Rattle.std.specs.Prelude.{◌≡◌, ℕ, ◌-◌, List, [], ◌∷◌, ◌++◌, length, take, All, map}
use Rattle.std.specs.Borrow.{Bor}
use Rattle.mt_mime.specs.declared.marks.Mark.{Mark}
use Rattle.mt_mime.specs.Lines.{IsLine, print_line, print_lines, join_lines, left}
use Rattle.mt_mime.specs.Marks.{IsPlain, IsDelimiter, IsClosing, Ends}

-- a delimiter line, and the lines of the part behind it
pub record BodyPart : Type 0 where
  pub mark : List ℕ
  pub lines : List (List ℕ)

-- the lines before the first delimiter, the parts, the closing line, and the bytes behind it
pub record Multipart : Type 0 where
  pub preamble : List (List ℕ)
  pub parts : List BodyPart
  pub close : List ℕ
  pub epilogue : List ℕ

-- a delimiter of the boundary, and lines that are none
pub record IsBodyPart (boundary : List ℕ) (p : BodyPart) : Type 0 where
  pub line : IsLine p.mark
  pub mark : IsDelimiter boundary p.mark
  pub lines : All (IsPlain boundary) p.lines

-- each line is what it stands for; what follows the closing line may be anything
pub record IsMultipart (boundary : List ℕ) (m : Multipart) : Type 0 where
  pub preamble : All (IsPlain boundary) m.preamble
  pub parts : All (IsBodyPart boundary) m.parts
  pub line : IsLine m.close
  pub close : IsClosing boundary m.close

-- the lines of a part, its delimiter first
abbrev pub print_part : BodyPart → List ℕ
print_part p = print_line p.mark ++ print_lines p.lines

-- the lines of all parts
abbrev pub print_parts : List BodyPart → List ℕ
print_parts [] = []
print_parts (p ∷ ps) = print_part p ++ print_parts ps

-- the bytes of a body
abbrev pub print_multipart : Multipart → List ℕ
print_multipart m = print_lines m.preamble ++ (print_parts m.parts ++ (print_line m.close ++ m.epilogue))

-- the body, with one line end more, is spelled so: then a delimiter stands at the start or behind a line end, and the closing line before one or at the end
pub record HasParts (boundary body : List ℕ) (m : Multipart) : Type 0 where
  pub valid : IsMultipart boundary m
  pub whole : print_line body ≡ print_multipart m

-- the bytes of a part: its lines, without the line end before the next delimiter
abbrev pub part_text : BodyPart → List ℕ
part_text p = join_lines p.lines

-- the bytes of all parts
abbrev pub texts_of : Multipart → List (List ℕ)
texts_of m = map part_text m.parts

-- the body has no parts of that boundary
abbrev pub HasNoParts : List ℕ → List ℕ → Type 0
HasNoParts boundary body = (m : Multipart) → HasParts boundary body m → ⊥

-- ---- while parts are read

-- lines without the last one's end
abbrev pub without_end : List ℕ → List ℕ
without_end lines = take (length lines - 2) lines

-- the slices hold the bytes of all parts
pub record Splits (boundary body : List ℕ) (texts : List (Bor (List ℕ))) : Type 0 where
  pub m : Multipart
  pub has : HasParts boundary body m
  pub texts_are : map (λ (s : Bor (List ℕ)). s.now) texts ≡ texts_of m

-- so far these parts, and a line behind them that begins one more or closes
pub record Begun (boundary body : List ℕ) (k : Mark) (texts : List (Bor (List ℕ))) : Type 0 where
  pub preamble : List (List ℕ)
  pub plain : All (IsPlain boundary) preamble
  pub parts : List BodyPart
  pub each : All (IsBodyPart boundary) parts
  pub texts_are : map (λ (s : Bor (List ℕ)). s.now) texts ≡ map part_text parts
  pub mark : List ℕ
  pub line : IsLine mark
  pub ends : Ends boundary mark k.closing
  pub whole : print_line body ≡ print_lines preamble ++ (print_parts parts ++ (print_line mark ++ left k.rest))
