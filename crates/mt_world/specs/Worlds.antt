-- A world as contracts see it: two stores, the table at their opening, and the history since.
use Rattle.std.specs.Prelude.{◌≡◌, ◌⊎◌, ℕ, ◌+◌, ◌-◌, ◌^◌, ◌≤◌, Bool, true, false, All, IsTrue, is_some, List, [], ◌∷◌, filter, length, Option, Some, None}
use Rattle.std.specs.List.{last_or}
use Rattle.std.specs.Map.{lookup, count_at}
use Rattle.std.specs.Ordering.{nat_cmp, is_eq}
use Rattle.mt_model.specs.declared.entity.Entity.{Entity}
use Rattle.mt_model.specs.declared.tag.Tag.{Tag}
use Rattle.mt_chain.specs.Rows.{are_rising}
use Rattle.mt_chain.specs.StoreCall.{Contents, IsContents}
use Rattle.mt_chain.specs.Store.{Store}
use Rattle.mt_chain.specs.Table.{Table, IsSameTable, table_of, rows_of}
use Rattle.mt_history.specs.declared.entry.What.{What}
use Rattle.mt_history.specs.declared.entry.What.TheVariants as what
use Rattle.mt_history.specs.declared.entry.Entry.{Entry}
use Rattle.mt_history.specs.Kept.{Kept}
use Rattle.mt_history.specs.Window.{Window, table_at_end}
use Rattle.mt_history.specs.Legal.{IsLegal, HasTag, all_tags, numbers_of}
use Rattle.mt_meta.specs.Logical.{Pair, pair_of as pair_with, ForPair as ForTold}
use Rattle.mt_meta.specs.Sound.{IsSound}
use Rattle.mt_meta.specs.declared.fact.Fact.{Fact}
use Rattle.mt_meta.specs.Facts.{Holds, ApartFrom}
use Rattle.mt_meta.specs.Steps.{logical_table, AllHold, IsEmptied, IsGiven}

pub record WorldState : Type 0 where
  -- the two stores
  pub old_store : Store
  pub new_store : Store
  -- the rows of the table at opening
  pub base : List Entity
  -- what happened since
  pub history : Kept
  -- the number of each caller's next entry, of those callers for which one is in hand
  pub numbers : List (ℕ × ℕ)
  -- how many entries of faults were ever made; the count stands still at its end
  pub fault_entries : ℕ
  -- how many store calls were made since
  pub calls : ℕ
  -- how many stores the table had before the old one, and 1: the new store's number
  pub generation : ℕ
  -- old has nothing left
  pub retired : Bool
  -- the two stores' counts of faults at opening, together
  pub opened_faults : ℕ

-- ---- the pair

abbrev pub pair_of : WorldState → Contents → Contents → Pair
pair_of w old new = pair_with w.old_store.number w.new_store.number old new

-- what holds of the pair, where both stores tell
abbrev pub ForPair : WorldState → (Pair → Type 0) → Type 0
ForPair w P = ForTold w.old_store.number w.new_store.number w.old_store.told w.new_store.told P

-- both stores tell
pub record Tells (w : WorldState) : Type 0 where
  pub old : is_some w.old_store.told ≡ true
  pub new : is_some w.new_store.told ≡ true

-- ---- facts

-- the fact is true of this world, over the pair that its stores tell
abbrev pub IsTrueOf : WorldState → Pair → Fact → Type 0
IsTrueOf w p f = Holds p w.retired f

-- each of these facts is
abbrev pub AreTrueOf : WorldState → Pair → List Fact → Type 0
AreTrueOf w p fs = AllHold p w.retired fs

-- a fact is true of this world, and apart from these
abbrev pub StandsBeside : WorldState → List Fact → Fact → Type 0
StandsBeside w own f = ForPair w (λ p. IsTrueOf w p f × ApartFrom f own)

-- each fact that was true and is apart from the actor's own is true, and apart from those that it has now
abbrev pub KeepsApart : WorldState → List Fact → WorldState → List Fact → Type 0
KeepsApart w own w' own' = (f : Fact) → StandsBeside w own f → StandsBeside w' own' f

-- each of these facts is true and apart from the actor's own
abbrev pub AllStandBeside : WorldState → List Fact → List Fact → Type 0
AllStandBeside w own [] = Unit {0}
AllStandBeside w own (f ∷ fs) = StandsBeside w own f × AllStandBeside w own fs

-- ---- the history

-- the history as a window, with the table at opening before it
abbrev pub window_of : WorldState → Window
window_of w = record { first = w.history.first; base = table_of (rows_of w.base); entries = w.history.entries }

-- the reference table: what the history makes of the table at opening
abbrev pub table_now : WorldState → Table
table_now w = table_at_end (window_of w)

-- the number in hand for a caller's next entry
abbrev pub number_in : List (ℕ × ℕ) → ℕ → Option ℕ
number_in numbers caller = lookup (λ c. is_eq (nat_cmp caller c)) numbers

-- the number of a caller's next entry: of a caller for which none is in hand it is 0
abbrev pub next_number : List (ℕ × ℕ) → ℕ → ℕ
next_number numbers caller = count_at (number_in numbers) caller

-- a caller's next entry
abbrev pub entry_of : List (ℕ × ℕ) → ℕ → What → Entry
entry_of numbers caller said = record { caller = caller; number = next_number numbers caller; what = said }

abbrev pub after_last : Option ℕ → ℕ
after_last None = 0
after_last (Some last) = last + 1

-- the number that a caller's next entry is to have, where it has no entries before these
abbrev pub number_due : List Entry → ℕ → ℕ
number_due entries caller = after_last (last_or None (numbers_of caller entries))

-- the history says that a store call failed
abbrev pub is_fault : What → Bool
is_fault what.Fault = true
is_fault (what.Batch batch tags) = false
is_fault (what.Refused batch) = false
is_fault (what.Query pk filter) = false
is_fault (what.Scan pk from upto filter) = false
is_fault (what.Gap from to) = false

abbrev pub faults_in : List Entry → ℕ
faults_in entries = length (filter (λ e. is_fault e.what) entries)

-- ---- what each world keeps

-- over two stores that tell: the pair is sound, the history is legal, and what it makes of the table at opening is what the two stores show
pub record IsReplayed (w : WorldState) (p : Pair) : Type 0 where
  pub sound : IsSound p
  -- the keys of what each store tells rise
  pub contents : IsContents p.old × IsContents p.new
  pub legal : IsLegal (window_of w)
  pub table : IsSameTable (logical_table p) (table_now w)
  -- each tag that the table or the history has was given by a store
  pub given_before : (tag : Tag) → HasTag (table_of (rows_of w.base)) tag → IsGiven p tag
  pub given_since : All (IsGiven p) (all_tags w.history.entries)
  -- a world is retired only where old is sealed and empty
  pub retired : w.retired ≡ true → IsEmptied p

-- the entries of faults are no more than the rise of the stores' counts since opening; a count at its end says nothing more
abbrev pub AreCounted : WorldState → Type 0
AreCounted w = (w.opened_faults + w.fault_entries ≤ w.old_store.faults + w.new_store.faults)
    ⊎ ((2 ^ 64 - 1 ≤ w.old_store.faults) ⊎ (2 ^ 64 - 1 ≤ w.new_store.faults))

pub record IsWorld (w : WorldState) : Type 0 where
  -- the stores' numbers are that before the generation, and the generation
  pub numbers : (w.old_store.number + 1 ≡ w.generation) × (w.new_store.number ≡ w.generation)
  -- no entry was cut off yet
  pub whole : w.history.first ≡ 0
  pub bounded : w.history.limit ≤ 1048576
  pub rising : IsTrue (are_rising (rows_of w.base))
  pub replayed : ForPair w (IsReplayed w)
  -- where no entry was cut off, the numbers of next entries are those that are due
  pub due : w.history.first ≡ 0 → (caller : ℕ) → next_number w.numbers caller ≡ number_due w.history.entries caller
  -- where no entry was cut off, the entries of faults that were made are those of the history
  pub fault_entries : w.history.first ≡ 0 → w.fault_entries ≡ faults_in w.history.entries
  pub faults : AreCounted w
