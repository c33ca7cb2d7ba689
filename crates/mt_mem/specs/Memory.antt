-- A store in memory: what it holds, when its calls fail, and what a call leaves.
use Rattle.std.specs.Prelude.{◌≡◌, ℕ, ◌+◌, ◌-◌, ◌^◌, ◌≤◌, ◌==◌, min, nat_eq, nat_lt, nat_le, Bool, true, false, ◌||◌, IsTrue, All, List, map, length, Some, Result, Ok, Err}
use Rattle.std.specs.List.{list_any, IsDistinct}
use Rattle.mt_model.specs.declared.tag.Tag.{Tag}
use Rattle.mt_chain.specs.declared.row.Put.{Put}
use Rattle.mt_chain.specs.declared.keeper.KeepFault.{KeepFault}
use Rattle.mt_chain.specs.declared.keeper.KeepFault.TheVariants.{Unmet, Sealed, Failed, NoMemory}
use Rattle.mt_chain.specs.Rows.{Rows, are_rising}
use Rattle.mt_chain.specs.Puts.{all_rows_after, all_counter_after}
use Rattle.mt_chain.specs.StoreCall.{Contents, Done, UnmetAt, SealedOff, judge}
use Rattle.mt_chain.specs.Store.{Store}

pub record Memory : Type 0 where
  pub store : ℕ
  pub rows : Rows
  pub sealed : Bool
  pub counter : ℕ
  pub calls : ℕ
  pub faults : ℕ
  pub failing : List ℕ

-- the tag is of that store, and at most the counter
abbrev pub IsGiven : ℕ → ℕ → Tag → Type 0
IsGiven store counter tag = (tag.store ≡ store) × (tag.n ≤ counter)

-- rows whose keys rise, with tags of that store up to the counter, no two of them the same
pub record AreRows (store counter : ℕ) (rows : Rows) : Type 0 where
  pub rising : IsTrue (are_rising rows)
  pub given : All (λ e. IsGiven store counter e.1.tag) rows
  pub apart : IsDistinct nat_eq (map (λ e. e.1.tag.n) rows)

-- what a store in memory keeps whatever is asked of it
abbrev pub IsMemory : Memory → Type 0
IsMemory m = AreRows m.store m.counter m.rows

abbrev pub contents_of : Memory → Contents
contents_of m = record { rows = m.rows; sealed = m.sealed; counter = m.counter }

-- as a keeper, which tells its contents
abbrev pub store_of : Memory → Store
store_of m = record { number = m.store; told = Some (contents_of m); calls = m.calls; faults = m.faults }

-- a count one higher, or at its end
abbrev pub risen : ℕ → ℕ
risen count = min (count + 1) (2 ^ 64 - 1)

-- the next call is listed to fail, or is call 2^62 or a later one
abbrev pub is_failing : Memory → Bool
is_failing m = list_any (λ k. k == risen m.calls) m.failing || nat_le (2 ^ 62) (risen m.calls)

-- these puts could bring the counter past 2^62
abbrev pub is_at_end : Memory → List Put → Bool
is_at_end m puts = nat_lt (2 ^ 62) (m.counter + length puts)

-- the next call of `apply` fails
abbrev pub is_apply_failing : Memory → List Put → Bool
is_apply_failing m puts = is_failing m || is_at_end m puts

-- a call was counted, and nothing else changed
abbrev pub counted : Memory → Memory
counted m = record { store = m.store; rows = m.rows; sealed = m.sealed; counter = m.counter; calls = risen m.calls; faults = m.faults; failing = m.failing }

-- a call and a fault were counted, and nothing else changed
abbrev pub failed : Memory → Memory
failed m = record { store = m.store; rows = m.rows; sealed = m.sealed; counter = m.counter; calls = risen m.calls; faults = risen m.faults; failing = m.failing }

-- what a call leaves that is answered so, where it is to fail or not
abbrev pub Leaves : {A : Type 0} → Bool → Memory → Memory → Result A KeepFault → Memory → Type 0
Leaves fails m done (Ok a) after = (fails ≡ false) × (after ≡ done)
Leaves fails m done (Err Failed) after = (fails ≡ true) × (after ≡ failed m)
Leaves fails m done (Err (Unmet index)) after = (fails ≡ false) × (after ≡ counted m)
Leaves fails m done (Err Sealed) after = (fails ≡ false) × (after ≡ counted m)
Leaves fails m done (Err NoMemory) after = (fails ≡ false) × (after ≡ counted m)

-- after a call that only reads
abbrev pub LeavesRead : {A : Type 0} → Memory → Result A KeepFault → Memory → Type 0
LeavesRead m r after = Leaves (is_failing m) m (counted m) r after

-- puts were done, and nothing else changed
abbrev pub done_in : Memory → List ℕ → List Put → Memory
done_in m pk puts = record { store = m.store; rows = all_rows_after m.store m.counter pk puts m.rows; sealed = m.sealed; counter = all_counter_after m.counter puts; calls = m.calls; faults = m.faults; failing = m.failing }

-- the store was sealed, and nothing else changed
abbrev pub sealed_in : Memory → Memory
sealed_in m = record { store = m.store; rows = m.rows; sealed = true; counter = m.counter; calls = m.calls; faults = m.faults; failing = m.failing }

-- the count of faults was taken, and nothing else changed
abbrev pub without_faults : Memory → Memory
without_faults m = record { store = m.store; rows = m.rows; sealed = m.sealed; counter = m.counter; calls = m.calls; faults = 0; failing = m.failing }

-- what puts come to that are not to fail
abbrev pub Judges : Memory → List ℕ → List Put → Result (List Tag) KeepFault → Memory → Type 0
Judges m pk puts (Ok tags) after = (judge m.store (contents_of m) pk puts ≡ Done (contents_of after) tags) × (after ≡ done_in m pk puts)
Judges m pk puts (Err (Unmet index)) after = (judge m.store (contents_of m) pk puts ≡ UnmetAt index) × (after ≡ m)
Judges m pk puts (Err Sealed) after = (judge m.store (contents_of m) pk puts ≡ SealedOff) × (after ≡ m)
Judges m pk puts (Err Failed) after = ⊥
Judges m pk puts (Err NoMemory) after = after ≡ m
