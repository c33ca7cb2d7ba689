-- A history with the number of each caller's next entry, and how a turn adds to it.
use Rattle.std.specs.Prelude.{◌≡◌, ℕ, ◌+◌, ◌-◌, ◌^◌, ◌≤◌, min, nat_eq, Bool, true, false, All, IsSome, List, [], ◌∷◌, ◌++◌, length, Option, Some, None, if◌then◌else◌}
use Rattle.mt_history.specs.declared.entry.What.{What}
use Rattle.mt_history.specs.declared.entry.What.TheVariants as what
use Rattle.mt_history.specs.declared.entry.Entry.{Entry}
use Rattle.mt_history.specs.Kept.{Kept}
use Rattle.mt_world.specs.Worlds.{number_in, next_number, number_due, entry_of, is_fault, faults_in}
use Rattle.mt_world.specs.Moves.{NewEntry}

-- a history, the numbers of next entries in the order of their callers, and how many entries of faults were ever made
pub record Log : Type 0 where
  pub history : Kept
  pub numbers : List (ℕ × ℕ)
  pub fault_entries : ℕ

-- a batch has a tag for each operation
abbrev pub IsTagged : What → Type 0
IsTagged (what.Batch batch tags) = length tags ≡ length batch
IsTagged w = Unit {0}

-- what each log keeps
pub record IsLog (l : Log) : Type 0 where
  -- no entry was cut off yet
  pub whole : l.history.first ≡ 0
  -- the numbers are those that are due, and no more than there are entries
  pub due : (caller : ℕ) → next_number l.numbers caller ≡ number_due l.history.entries caller
  pub few : (caller : ℕ) → number_due l.history.entries caller ≤ length l.history.entries
  pub fault_entries : l.fault_entries ≡ faults_in l.history.entries
  pub tagged : All (λ (e : Entry). IsTagged e.what) l.history.entries
  pub bounded : l.history.limit ≤ 1048576

-- there is memory for one more entry of the caller
pub record IsReady (l : Log) (caller : ℕ) : Type 0 where
  pub spare : 1 ≤ l.history.spare
  pub number : IsSome (number_in l.numbers caller)

-- ---- one entry more

-- one more, or the end of a count
abbrev pub raised : ℕ → ℕ
raised count = min (count + 1) (2 ^ 64 - 1)

-- the entries with this one more, or none
abbrev pub entries_with : List Entry → List (ℕ × ℕ) → ℕ → Option NewEntry → List Entry
entries_with entries numbers caller None = entries
entries_with entries numbers caller (Some e) = entries ++ entry_of numbers caller e.what ∷ []

abbrev pub one_if : Bool → ℕ
one_if true = 1
one_if false = 0

-- the number of the next entry of `other` where `caller` has an entry more
abbrev pub number_of_next : List (ℕ × ℕ) → ℕ → ℕ → ℕ
number_of_next numbers caller other = next_number numbers other + one_if (nat_eq other caller)

-- the same where `caller` has this entry more, or none
abbrev pub number_after : Option NewEntry → ℕ → List (ℕ × ℕ) → ℕ → ℕ
number_after None caller numbers other = next_number numbers other
number_after (Some e) caller numbers other = number_of_next numbers caller other

-- how many entries of faults were made where one comes that says this
abbrev pub faults_with : What → ℕ → ℕ
faults_with said count = if is_fault said then raised count else count

-- the same where this entry comes, or none
abbrev pub faults_after : Option NewEntry → ℕ → ℕ
faults_after None count = count
faults_after (Some e) count = faults_with e.what count

-- the history has this entry of the caller more, or none, and beside its memory nothing else of it changes
pub record Adds (l : Log) (caller : ℕ) (entry : Option NewEntry) (l' : Log) : Type 0 where
  pub entries : l'.history.entries ≡ entries_with l.history.entries l.numbers caller entry
  pub numbers : (other : ℕ) → next_number l'.numbers other ≡ number_after entry caller l.numbers other
  pub fault_entries : l'.fault_entries ≡ faults_after entry l.fault_entries
  pub first : l'.history.first ≡ l.history.first
  pub limit : l'.history.limit ≡ l.history.limit

-- memory was taken for an entry, and nothing else changed
pub record Reserves (l l' : Log) : Type 0 where
  pub history : l'.history ≡ record l.history { spare = l'.history.spare }
  pub numbers : (other : ℕ) → next_number l'.numbers other ≡ next_number l.numbers other
  pub fault_entries : l'.fault_entries ≡ l.fault_entries
