-- A depot of two stores in memory, of the numbers 0 and 1: each stands in its place or is out.
use Rattle.std.specs.Prelude.{◌≡◌, ℕ, ◌+◌, ◌-◌, ◌^◌, ◌==◌, min, Bool, true, false, Option, Some, None, IfSome, option_map, is_none, Result, Ok, Err, if◌then◌else◌}
use Rattle.mt_chain.specs.declared.depot.DepotFault.{DepotFault}
use Rattle.mt_chain.specs.declared.depot.DepotFault.TheVariants.{Failed, NoMemory}
use Rattle.mt_mem.specs.Memory.{Memory, IsMemory, contents_of, without_faults, risen}
use Rattle.mt_chain.specs.Shelf.{Shelf}

pub record MemoryShelf : Type 0 where
  pub old_store : Option Memory
  pub new_store : Option Memory
  pub faults : ℕ

-- a store of that number, whose faults were counted
abbrev pub IsClean : ℕ → Memory → Type 0
IsClean n m = IsMemory m × (m.store ≡ n) × (m.faults ≡ 0)

pub record IsMemoryShelf (d : MemoryShelf) : Type 0 where
  pub at_0 : IfSome d.old_store (IsClean 0)
  pub at_1 : IfSome d.new_store (IsClean 1)

-- what stands in the place of a number
abbrev pub place : MemoryShelf → ℕ → Option Memory
place d n = if n == 0 then d.old_store else (if n == 1 then d.new_store else None)

-- the store of that number is out
abbrev pub is_out : MemoryShelf → ℕ → Bool
is_out d n = if n == 0 then is_none d.old_store else (if n == 1 then is_none d.new_store else false)

-- as a depot, which tells what stands in its places
abbrev pub shelf_of : MemoryShelf → Shelf
shelf_of d = record { tells = true; told = λ n. option_map contents_of (place d n); out = is_out d; faults = d.faults }

-- the depot with this in the place of a number
abbrev pub with_place : MemoryShelf → ℕ → Option Memory → MemoryShelf
with_place d n found = record { old_store = if n == 0 then found else d.old_store; new_store = if n == 1 then found else d.new_store; faults = d.faults }

-- a fault was counted, and nothing else changed
abbrev pub refused : MemoryShelf → MemoryShelf
refused d = record { old_store = d.old_store; new_store = d.new_store; faults = risen d.faults }

-- a store goes into its place, and its faults into the depot's count
abbrev pub taken_back : MemoryShelf → Memory → MemoryShelf
taken_back d m = record { old_store = if m.store == 0 then Some (without_faults m) else d.old_store; new_store = if m.store == 0 then d.new_store else Some (without_faults m); faults = min (d.faults + m.faults) (2 ^ 64 - 1) }

-- what asking for a store comes to: what stands in its place, else a fault
abbrev pub HandsOut : MemoryShelf → ℕ → Result Memory DepotFault → MemoryShelf → Type 0
HandsOut d n (Ok m) after = (place d n ≡ Some m) × (after ≡ with_place d n None)
HandsOut d n (Err Failed) after = (place d n ≡ None) × (after ≡ refused d)
HandsOut d n (Err NoMemory) after = ⊥
