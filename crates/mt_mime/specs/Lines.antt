-- Lines that end in a carriage return and a line feed.
use Rattle.std.specs.Prelude.{◌≡◌, ◌≢◌, ℕ, ◌<◌, drop, List, [], ◌∷◌, ◌++◌, codes, Option, Some, None}
use Rattle.std.specs.Borrow.{Bor}
use Rattle.mt_mime.specs.declared.lines.Line.{Line}

-- what ends a line
abbrev pub line_end : List ℕ
line_end = codes "\r\n"

-- no line ends inside
abbrev pub IsLine : List ℕ → Type 0
IsLine text = (a b : List ℕ) → text ≢ a ++ (line_end ++ b)

-- a line with its end
abbrev pub print_line : List ℕ → List ℕ
print_line text = text ++ line_end

-- lines, each with its end
abbrev pub print_lines : List (List ℕ) → List ℕ
print_lines [] = []
print_lines (l ∷ ls) = print_line l ++ print_lines ls

-- lines without the end of the last one
abbrev pub join_lines : List (List ℕ) → List ℕ
join_lines [] = []
join_lines (l ∷ []) = l
join_lines (l ∷ m ∷ ls) = print_line l ++ join_lines (m ∷ ls)

-- ---- while lines are read

-- the bytes are a line, and what follows its end, where it has one
abbrev pub Follows : List ℕ → List ℕ → Option (Bor (List ℕ)) → Type 0
Follows bytes text None = bytes ≡ text
Follows bytes text (Some rest) = bytes ≡ print_line text ++ rest.now

-- the first line of the bytes
pub record IsPeeled (bytes : List ℕ) (l : Line) : Type 0 where
  pub line : IsLine l.text.now
  pub whole : Follows bytes l.text.now l.rest

-- the bytes that are left, and an end for the last line
abbrev pub left : Option (Bor (List ℕ)) → List ℕ
left None = []
left (Some rest) = print_line rest.now

-- no line ends before that place
abbrev pub NoEndBefore : List ℕ → ℕ → Type 0
NoEndBefore bytes at = (i : ℕ) → i < at → (rest : List ℕ) → drop i bytes ≢ line_end ++ rest
