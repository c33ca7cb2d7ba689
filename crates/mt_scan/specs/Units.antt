-- Units of pages, the places between them, and what a unit says of a table.
use Rattle.std.specs.Prelude.{◌≡◌, ℕ, true, List, Option, Some, None, IfSome, option_map, if◌then◌else◌}
use Rattle.mt_model.specs.declared.entity.Entity.{Entity}
use Rattle.mt_filter.specs.declared.filter.Filter.{Filter}
use Rattle.mt_filter.specs.Tree.{tree_of}
use Rattle.mt_match.specs.declared.bounds.Bounds.{Bounds}
use Rattle.mt_chain.specs.declared.query.RkFrom.{RkFrom}
use Rattle.mt_chain.specs.declared.query.RkFrom.TheVariants.{Start, After}
use Rattle.mt_chain.specs.declared.query.PkFrom.TheVariants as part
use Rattle.mt_chain.specs.Rows.{key_at, is_from, is_upto, is_past}
use Rattle.mt_chain.specs.Table.{Table}
use Rattle.mt_history.specs.declared.entry.What.{What}
use Rattle.mt_history.specs.declared.entry.What.TheVariants as what
use Rattle.mt_history.specs.declared.model.Reply.TheVariants as reply
use Rattle.mt_history.specs.Replies.{Replies}
use Rattle.mt_history.specs.Legal.{IsGap}
use Rattle.mt_scan.specs.declared.unit.Unit.{Unit as PageUnit}
use Rattle.mt_scan.specs.declared.unit.Unit.TheVariants.{Scan, Gap}
use Rattle.mt_scan.specs.declared.unit.Place.{Place}
use Rattle.mt_scan.specs.declared.unit.Place.TheVariants as at
use Rattle.mt_scan.specs.declared.unit.Token.{Token}
use Rattle.mt_scan.specs.declared.unit.Token.TheVariants as token

-- ---- units

-- the entry of a unit in a history
abbrev pub entry_of : Option Filter → PageUnit → What
entry_of filter (Scan pk from upto) = what.Scan pk from upto filter
entry_of filter (Gap from to) = what.Gap from to

-- equal filters have the same tree
abbrev pub IsSameFilter : Option Filter → Option Filter → Type 0
IsSameFilter a b = option_map tree_of a ≡ option_map tree_of b

-- the entry of a unit, with an equal filter
abbrev pub IsEntryOf : PageUnit → Option Filter → What → Type 0
IsEntryOf unit filter w = (kept : Option Filter) × IsSameFilter kept filter × (w ≡ entry_of kept unit)

-- what a unit says of the table: a gap that no row lies in it
abbrev pub IsTrueUnit : PageUnit → Table → Type 0
IsTrueUnit (Scan pk from upto) table = Unit {0}
IsTrueUnit (Gap from to) table = IsGap from to table

-- what the unit says of the table is true, and the rows are the reply to its entry
abbrev pub Delivers : Option Filter → PageUnit → Table → List Entity → Type 0
Delivers filter unit table rows = IsTrueUnit unit table × Replies (entry_of filter unit) table (reply.Rows rows)

-- ---- places

-- a page without a token begins at the lower bound of partition keys
abbrev pub place_of : Bounds → Option Token → Place
place_of bounds None = at.Parts (part.From bounds.pk_low)
place_of bounds (Some (token.Row key)) = at.Rows key.pk (Some key.rk)
place_of bounds (Some (token.Part from)) = at.Parts from

-- none at the end alone; a partition that a gap found is looked for again
abbrev pub token_of : Place → Option Token
token_of (at.Rows pk (Some rk)) = Some (token.Row (key_at pk rk))
token_of (at.Rows pk None) = Some (token.Part (part.From pk))
token_of (at.Parts from) = Some (token.Part from)
token_of at.End = None

-- past a row, or from the start of its partition
abbrev pub from_row : Option (List ℕ) → RkFrom
from_row None = Start
from_row (Some rk) = After rk

-- the unit comes next at the place, and goes on: a scan ends past where it begins, a gap at or past it
abbrev pub IsNext : Place → PageUnit → Type 0
IsNext (at.Rows p row) (Scan pk from upto) = (pk ≡ p) × (from ≡ from_row row) × IfSome upto (λ end. is_from from end ≡ true)
IsNext (at.Parts start) (Gap from to) = (from ≡ start) × IfSome to (λ pk. is_past from pk ≡ true)
IsNext place unit = ⊥

-- behind a scan up to a row that row, behind one to the end what follows its partition
abbrev pub after_scan : List ℕ → Option (List ℕ) → Place
after_scan pk (Some rk) = at.Rows pk (Some rk)
after_scan pk None = at.Parts (part.After pk)

-- behind a gap the partition that it found, or the end of the bounds
abbrev pub after_gap : Bounds → Option (List ℕ) → Place
after_gap bounds None = at.End
after_gap bounds (Some pk) = if is_upto bounds.pk_high pk then at.Rows pk None else at.End

abbrev pub after_unit : Bounds → PageUnit → Place
after_unit bounds (Scan pk from upto) = after_scan pk upto
after_unit bounds (Gap from to) = after_gap bounds to
