-- What the turns of a page come to, with no other caller between them.
use Rattle.std.specs.Prelude.{◌≡◌, ℕ, ◌+◌, ◌≤◌, true, not, List, [], ◌∷◌, ◌++◌, Option, Some, None, Result, Ok, Err}
use Rattle.std.specs.List.{AllByRecursion}
use Rattle.mt_filter.specs.declared.filter.Filter.{Filter}
use Rattle.mt_history.specs.declared.entry.Entry.{Entry}
use Rattle.mt_history.specs.declared.model.Reply.TheVariants as reply
use Rattle.mt_history.specs.Kept.{Kept, has_room}
use Rattle.mt_history.specs.Weight.{need_of_page}
use Rattle.mt_history.specs.Replies.{Replies}
use Rattle.mt_scan.specs.Units.{IsEntryOf}
use Rattle.mt_scan.specs.Pages as pages
use Rattle.mt_scan.specs.Streams.{Step, Runs, Follow, page_after, GoesOn}
use Rattle.mt_world.specs.declared.actor.Answer.{Answer}
use Rattle.mt_world.specs.declared.actor.Answer.TheVariants.{Written, Refused, Rows, Page, Moved, Cleaned, NotSealed, NotMigrated}
use Rattle.mt_world.specs.declared.actor.TurnFault.{TurnFault}
use Rattle.mt_world.specs.declared.actor.TurnFault.TheVariants.{StoreFault, HistoryFull, NoMemory}
use Rattle.mt_world.specs.Worlds.{WorldState, Tells, next_number, table_now}
use Rattle.mt_world.specs.Moves.{NewEntry, fault_entry, page_of}
use Rattle.mt_world.specs.Turns.{IsSameWorld, EitherRose, is_full}
use Rattle.mt_world.specs.WholeCalls.{Mark, end_of}

-- ---- marks with entries

abbrev pub with_one : Option NewEntry → List NewEntry → List NewEntry
with_one None es = es
with_one (Some e) es = e ∷ es

-- the entries that turns with these marks left, in order
abbrev pub entries_left : List Mark → List NewEntry
entries_left [] = []
entries_left (m ∷ marks) = with_one m.entry (entries_left marks)

abbrev pub place_behind : Option NewEntry → ℕ → ℕ
place_behind None place = place
place_behind (Some e) place = place + 1

-- each turn found the end of the history where the one before it left it
abbrev pub ArePlaced : ℕ → List Mark → Type 0
ArePlaced place [] = Unit {0}
ArePlaced place (m ∷ marks) = (m.place ≡ place) × ArePlaced (place_behind m.entry place) marks

abbrev pub all_but_last : List Mark → List Mark
all_but_last [] = []
all_but_last (m ∷ []) = []
all_but_last (m ∷ next ∷ marks) = m ∷ all_but_last (next ∷ marks)

-- entries of a caller, numbered from there on
abbrev pub numbered : ℕ → ℕ → List NewEntry → List Entry
numbered caller number [] = []
numbered caller number (e ∷ es) = record { caller = caller; number = number; what = e.what } ∷ numbered caller (number + 1) es

-- the history's entries with these of the caller behind them
abbrev pub with_entries : WorldState → ℕ → List NewEntry → List Entry
with_entries w caller es = w.history.entries ++ numbered caller (next_number w.numbers caller) es

-- the history as the last of the turns found it
abbrev pub found_last : WorldState → ℕ → List Mark → Kept
found_last w caller marks = record w.history { entries = with_entries w caller (entries_left (all_but_last marks)) }

-- ---- a page

-- the entry of the step's unit, whose reply are the step's rows
abbrev pub IsStepEntry : Option Filter → Step → NewEntry → Type 0
IsStepEntry filter s e = IsEntryOf s.unit filter e.what × (e.reply ≡ reply.Rows s.rows)

-- one entry a unit, in order, and then these
abbrev pub AreStepEntries : Option Filter → List Step → List NewEntry → List NewEntry → Type 0
AreStepEntries filter [] then es = es ≡ then
AreStepEntries filter (s ∷ steps) then [] = ⊥
AreStepEntries filter (s ∷ steps) then (e ∷ es) = IsStepEntry filter s e × AreStepEntries filter steps then es

-- the entry behind those of the units: that of a store call that failed
abbrev pub entries_at_end : Result Answer TurnFault → List NewEntry
entries_at_end (Ok answer) = []
entries_at_end (Err StoreFault) = fault_entry ∷ []
entries_at_end (Err HistoryFull) = []
entries_at_end (Err NoMemory) = []

-- the answer is the page behind the units, which is over
abbrev pub IsPageAnswer : pages.Page → Result Answer TurnFault → Type 0
IsPageAnswer page (Ok (Page whole)) = (whole ≡ page_of page) × (pages.is_over page ≡ true)
IsPageAnswer page (Ok (Written tags)) = ⊥
IsPageAnswer page (Ok (Refused refusal)) = ⊥
IsPageAnswer page (Ok (Rows rows)) = ⊥
IsPageAnswer page (Ok Moved) = ⊥
IsPageAnswer page (Ok Cleaned) = ⊥
IsPageAnswer page (Ok NotSealed) = ⊥
IsPageAnswer page (Ok (NotMigrated pk)) = ⊥
IsPageAnswer page (Err fault) = Unit {0}

-- what the turns of a page come to: units that follow one another, each with its entry
pub record PageAnswers (w : WorldState) (caller : ℕ) (page : pages.Page) (marks : List Mark) (r : Result Answer TurnFault) (w' : WorldState) : Type 0 where
  pub same : IsSameWorld w w'
  pub retired : w'.retired ≡ w.retired
  pub tells : Tells w' → Tells w
  -- the units, each with the table at its place, which none of them changes
  pub steps : List Step
  pub tables : AllByRecursion (λ (s : Step). s.table ≡ table_now w) steps
  pub goes : GoesOn page steps
  pub follow : Follow page.bounds page.place steps (page_after page steps).place
  pub runs : Tells w' → Runs page.bounds page.filter page.place steps (page_after page steps).place
  pub answered : IsPageAnswer (page_after page steps) r
  -- one entry a unit, of this caller
  pub left : AreStepEntries page.filter steps (entries_at_end r) (entries_left marks)
  pub entries : w'.history.entries ≡ with_entries w caller (entries_left marks)
  pub placed : ArePlaced (end_of w) marks
  pub replies : Tells w' → AllByRecursion (λ (e : NewEntry). Replies e.what (table_now w) e.reply) (entries_left marks)
  -- full exactly where the last turn found no room
  pub full : is_full r ≡ not (has_room (found_last w caller marks) (need_of_page page.filter))
  pub cause : r ≡ Err StoreFault → EitherRose w w'
  pub old_faults : w.old_store.faults ≤ w'.old_store.faults
  pub new_faults : w.new_store.faults ≤ w'.new_store.faults
  pub calls : w.calls ≤ w'.calls
