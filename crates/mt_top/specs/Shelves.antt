-- A depot of two stores in memory of either kind, of the numbers 0 and 1: each stands in its place or is out.
use Rattle.std.specs.Prelude.{◌≡◌, ℕ, false, [], ◌+◌, ◌-◌, ◌^◌, ◌==◌, min, Option, Some, None, IfSome, option_map, Result, Ok, Err, if◌then◌else◌}
use Rattle.mt_words.specs.declared.command.StoreChoice.{StoreChoice}
use Rattle.mt_chain.specs.declared.depot.DepotFault.{DepotFault}
use Rattle.mt_chain.specs.declared.depot.DepotFault.TheVariants.{Failed, NoMemory}
use Rattle.mt_chain.specs.Shelf.{Shelf}
use Rattle.mt_mem.specs.Memory.{Memory, risen}
use Rattle.mt_mem.specs.MemoryShelf.{MemoryShelf, IsMemoryShelf, shelf_of}
use Rattle.mt_top.specs.declared.keeper.AnyKeeper.{AnyKeeper}
use Rattle.mt_top.specs.Keepers.{memory_of, kind_of, forgiven}

pub record AnyShelf : Type 0 where
  pub old_store : Option AnyKeeper
  pub new_store : Option AnyKeeper
  pub faults : ℕ

-- what its stores hold, whatever their kind
abbrev pub memories_of : AnyShelf → MemoryShelf
memories_of d = record { old_store = option_map memory_of d.old_store; new_store = option_map memory_of d.new_store; faults = d.faults }

-- as a depot, which tells what stands in its places
abbrev pub depot_of : AnyShelf → Shelf
depot_of d = shelf_of (memories_of d)

abbrev pub IsAnyShelf : AnyShelf → Type 0
IsAnyShelf d = IsMemoryShelf (memories_of d)

-- what stands in the place of a number
abbrev pub place : AnyShelf → ℕ → Option AnyKeeper
place d n = if n == 0 then d.old_store else (if n == 1 then d.new_store else None)

-- the depot without what stood in the place of a number
abbrev pub without_place : AnyShelf → ℕ → AnyShelf
without_place d n = record { old_store = if n == 0 then None else d.old_store; new_store = if n == 1 then None else d.new_store; faults = d.faults }

-- a fault was counted, and nothing else changed
abbrev pub refused : AnyShelf → AnyShelf
refused d = record { old_store = d.old_store; new_store = d.new_store; faults = risen d.faults }

-- what asking for a store comes to: what stands in its place, else a fault
abbrev pub HandsOut : AnyShelf → ℕ → Result AnyKeeper DepotFault → AnyShelf → Type 0
HandsOut d n (Ok k) after = (place d n ≡ Some k) × (after ≡ without_place d n)
HandsOut d n (Err Failed) after = (place d n ≡ None) × (after ≡ refused d)
HandsOut d n (Err NoMemory) after = ⊥

-- a store goes into its place, and its faults into the depot's count
abbrev pub taken_back : AnyShelf → AnyKeeper → AnyShelf
taken_back d k = record { old_store = if (memory_of k).store == 0 then Some (forgiven k) else d.old_store; new_store = if (memory_of k).store == 0 then d.new_store else Some (forgiven k); faults = min (d.faults + (memory_of k).faults) (2 ^ 64 - 1) }

-- a store of that kind and number which holds nothing and was never called
pub record IsEmpty (choice : StoreChoice) (n : ℕ) (k : AnyKeeper) : Type 0 where
  pub kind : kind_of k ≡ choice
  pub memory : memory_of k ≡ record { store = n; rows = []; sealed = false; counter = 0; calls = 0; faults = 0; failing = [] }

-- both stores of a depot are empty, and none is out
pub record IsFresh (choice : StoreChoice) (d : AnyShelf) : Type 0 where
  pub at_0 : (k : AnyKeeper) × (d.old_store ≡ Some k) × IsEmpty choice 0 k
  pub at_1 : (k : AnyKeeper) × (d.new_store ≡ Some k) × IsEmpty choice 1 k
  pub faults : d.faults ≡ 0
