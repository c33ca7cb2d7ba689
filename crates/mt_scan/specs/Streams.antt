-- Pages as they were read: units one after the other, each with the table at its entry's place, and streams of pages.
use Rattle.std.specs.Prelude.{◌≡◌, ℕ, ◌+◌, ◌≤◌, Bool, true, false, ◌&&◌, List, [], ◌∷◌, ◌++◌, length, Option, Some, if◌then◌else◌}
use Rattle.std.specs.List.{AllByRecursion}
use Rattle.mt_model.specs.declared.key.Key.{Key}
use Rattle.mt_model.specs.declared.entity.Entity.{Entity}
use Rattle.mt_filter.specs.declared.filter.Filter.{Filter}
use Rattle.mt_match.specs.declared.bounds.Bounds.{Bounds}
use Rattle.mt_chain.specs.declared.row.Stored.{Stored}
use Rattle.mt_chain.specs.Rows.{is_past}
use Rattle.mt_chain.specs.Table.{Table}
use Rattle.mt_history.specs.Replies.{in_range}
use Rattle.mt_history.specs.Legal.{is_short_of}
use Rattle.mt_scan.specs.declared.unit.Unit.{Unit as PageUnit}
use Rattle.mt_scan.specs.declared.unit.Unit.TheVariants.{Scan, Gap}
use Rattle.mt_scan.specs.declared.unit.Place.{Place}
use Rattle.mt_scan.specs.declared.unit.Token.{Token}
use Rattle.mt_scan.specs.Units.{IsNext, Delivers, after_unit, place_of, token_of}
use Rattle.mt_scan.specs.Pages.{Page, begun, after, is_over}

-- a unit, the table at its entry's place, and the rows that it delivered
pub record Step : Type 0 where
  pub unit : PageUnit
  pub table : Table
  pub rows : List Entity

-- units that follow one another from a place to a place, each of which says of its table what is true
abbrev pub Runs : Bounds → Option Filter → Place → List Step → Place → Type 0
Runs bounds filter place [] to = to ≡ place
Runs bounds filter place (s ∷ steps) to = IsNext place s.unit × Delivers filter s.unit s.table s.rows × Runs bounds filter (after_unit bounds s.unit) steps to

-- units that follow one another from a place to a place, whatever they say of their tables
abbrev pub Follow : Bounds → Place → List Step → Place → Type 0
Follow bounds place [] to = to ≡ place
Follow bounds place (s ∷ steps) to = IsNext place s.unit × Follow bounds (after_unit bounds s.unit) steps to

-- the key lies in the unit
abbrev pub in_unit : PageUnit → Key → Bool
in_unit (Scan pk from upto) key = in_range pk from upto key
in_unit (Gap from to) key = is_past from key.pk && is_short_of to key.pk

-- in how many of the units a key lies
abbrev pub count_in : Key → List Step → ℕ
count_in key [] = 0
count_in key (s ∷ steps) = (if in_unit s.unit key then 1 else 0) + count_in key steps

-- the table has this row at the key at each of the units
abbrev pub IsStable : Key → Stored → List Step → Type 0
IsStable key row steps = AllByRecursion (λ s. s.table key ≡ Some row) steps

-- each row that a unit delivers stands in its table
abbrev pub AreThere : Step → Type 0
AreThere s = AllByRecursion (λ e. s.table e.key ≡ Some (record { props = e.props; tag = e.tag })) s.rows

-- their rows, in order
abbrev pub rows_of : List Step → List Entity
rows_of [] = []
rows_of (s ∷ steps) = s.rows ++ rows_of steps

-- ---- pages

-- the page behind these units
abbrev pub page_after : Page → List Step → Page
page_after page [] = page
page_after page (s ∷ steps) = page_after (after page s.unit s.rows) steps

-- before each of them the page was not over, and had room for its rows
abbrev pub GoesOn : Page → List Step → Type 0
GoesOn page [] = Unit {0}
GoesOn page (s ∷ steps) = (is_over page ≡ false) × (length s.rows ≤ page.room) × GoesOn (after page s.unit s.rows) steps

-- units that are a page of at most so many rows, from the token's place on
pub record IsWhole (filter : Option Filter) (bounds : Bounds) (top : ℕ) (token : Option Token) (steps : List Step) : Type 0 where
  pub runs : Runs bounds filter (place_of bounds token) steps (page_after (begun filter bounds top token) steps).place
  pub goes : GoesOn (begun filter bounds top token) steps
  pub over : is_over (page_after (begun filter bounds top token) steps) ≡ true

-- ---- streams

-- the token behind a page
abbrev pub token_behind : Option Filter → Bounds → ℕ → Option Token → List Step → Option Token
token_behind filter bounds top token steps = token_of (page_after (begun filter bounds top token) steps).place

-- pages of one filter, each with its number of rows at most: each begins at the token behind the one before it, and behind the last is this token, or none
abbrev pub IsStream : Option Filter → Bounds → Option Token → List (ℕ × List Step) → Option Token → Type 0
IsStream filter bounds token [] last = ⊥
IsStream filter bounds token (p ∷ []) last = IsWhole filter bounds p.0 token p.1 × (token_behind filter bounds p.0 token p.1 ≡ last)
IsStream filter bounds token (p ∷ next ∷ pages) last = IsWhole filter bounds p.0 token p.1 × ((t : Token) × (token_behind filter bounds p.0 token p.1 ≡ Some t) × IsStream filter bounds (Some t) (next ∷ pages) last)

-- all units of the pages
abbrev pub all_steps : List (ℕ × List Step) → List Step
all_steps [] = []
all_steps (p ∷ pages) = p.1 ++ all_steps pages
