-- Delimiter lines of a boundary (RFC 2046, section 5.1.1).
use Rattle.std.specs.Prelude.{◌≡◌, ℕ, Bool, true, false, List, ◌++◌, codes, All}
use Rattle.std.specs.List.{list_all}
use Rattle.httparse.specs.Grammar.{is_ows}
use Rattle.mt_mime.specs.declared.marks.Kind.{Kind}
use Rattle.mt_mime.specs.declared.marks.Kind.TheVariants.{Plain, Delimiter, Closing}
use Rattle.mt_mime.specs.declared.marks.Mark.{Mark}
use Rattle.mt_mime.specs.Lines.{IsLine, print_line, print_lines, left}

-- the line is that word, and blanks and tabs
pub record IsMark (word line : List ℕ) : Type 0 where
  pub blanks : List ℕ
  pub each : list_all is_ows blanks ≡ true
  pub whole : line ≡ word ++ blanks

-- a line behind which a part begins
abbrev pub IsDelimiter : List ℕ → List ℕ → Type 0
IsDelimiter boundary line = IsMark (codes "--" ++ boundary) line

-- the line that ends the last part
abbrev pub IsClosing : List ℕ → List ℕ → Type 0
IsClosing boundary line = IsMark (codes "--" ++ boundary ++ codes "--") line

-- neither of both
abbrev pub IsOther : List ℕ → List ℕ → Type 0
IsOther boundary line = (IsDelimiter boundary line → ⊥) × (IsClosing boundary line → ⊥)

-- what a line is to a boundary
abbrev pub IsKind : List ℕ → List ℕ → Kind → Type 0
IsKind boundary line Plain = IsOther boundary line
IsKind boundary line Delimiter = IsDelimiter boundary line
IsKind boundary line Closing = IsClosing boundary line

-- a line that is neither
pub record IsPlain (boundary text : List ℕ) : Type 0 where
  pub line : IsLine text
  pub other : IsOther boundary text

-- ---- while marks are looked for

-- a line that ends what stands before it, and closes or begins a part
abbrev pub Ends : List ℕ → List ℕ → Bool → Type 0
Ends boundary line false = IsDelimiter boundary line
Ends boundary line true = IsClosing boundary line

-- all lines are plain
pub record HasNoMark (boundary bytes : List ℕ) : Type 0 where
  pub lines : List (List ℕ)
  pub each : All (IsPlain boundary) lines
  pub whole : print_line bytes ≡ print_lines lines

-- plain lines, then one that is a mark
pub record HasMark (boundary bytes : List ℕ) (k : Mark) : Type 0 where
  pub lines : List (List ℕ)
  pub each : All (IsPlain boundary) lines
  pub lines_are : k.lines.now ≡ print_lines lines
  pub mark : List ℕ
  pub line : IsLine mark
  pub ends : Ends boundary mark k.closing
  pub whole : print_line bytes ≡ print_lines lines ++ (print_line mark ++ left k.rest)

-- plain lines, and the rest
pub record Passed (boundary bytes rest : List ℕ) : Type 0 where
  pub lines : List (List ℕ)
  pub each : All (IsPlain boundary) lines
  pub whole : bytes ≡ print_lines lines ++ rest
