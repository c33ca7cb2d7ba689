-- A page that is open: its units so far, each an entry of the history at its place. Entries of others may lie between them.
use Rattle.std.specs.Prelude.{◌≡◌, ℕ, ◌+◌, ◌≤◌, List, [], ◌∷◌, take, length, Option, Some}
use Rattle.std.specs.List.{slice_get}
use Rattle.mt_filter.specs.declared.filter.Filter.{Filter}
use Rattle.mt_history.specs.declared.entry.Entry.{Entry}
use Rattle.mt_history.specs.Window.{Window, replay}
use Rattle.mt_scan.specs.Units.{IsEntryOf}
use Rattle.mt_scan.specs.Pages as pages
use Rattle.mt_scan.specs.Streams.{Step, Runs, page_after, GoesOn}
use Rattle.mt_world.specs.Worlds.{WorldState, Tells, window_of}

-- the step is the caller's entry at this place of the window, counted from its first, and its table is that of the entries before
pub record IsEntered (h : Window) (caller : ℕ) (filter : Option Filter) (place : ℕ) (s : Step) : Type 0 where
  pub entry : Entry
  pub there : slice_get h.entries place ≡ Some entry
  pub own : entry.caller ≡ caller
  pub what : IsEntryOf s.unit filter entry.what
  pub table : s.table ≡ replay h.base (take place h.entries)

-- the steps are entries of the caller, one behind the other, from a place on and before another
abbrev pub AreEntered : Window → ℕ → Option Filter → ℕ → List Step → ℕ → Type 0
AreEntered h caller filter from [] to = from ≤ to
AreEntered h caller filter from (s ∷ steps) to = (place : ℕ) × (from ≤ place) × IsEntered h caller filter place s × AreEntered h caller filter (place + 1) steps to

-- the page has come with these steps from where it was, of which each is an entry since that place
pub record IsOpen (w : WorldState) (caller : ℕ) (start : pages.Page) (from : ℕ) (steps : List Step) (page : pages.Page) : Type 0 where
  pub came : page ≡ pages.with_half (page_after start steps) page.half
  pub goes : GoesOn start steps
  pub runs : Tells w → Runs start.bounds start.filter start.place steps page.place
  pub entered : AreEntered (window_of w) caller start.filter from steps (length w.history.entries)
