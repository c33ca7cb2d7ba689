-- A store in memory of either kind.
use Rattle.std.specs.Prelude.{◌≡◌, ℕ}
use Rattle.mt_words.specs.declared.command.StoreChoice.{StoreChoice}
use Rattle.mt_words.specs.declared.command.StoreChoice.TheVariants as choice
use Rattle.mt_chain.specs.Store.{Store}
use Rattle.mt_mem.specs.Memory.{Memory, store_of, without_faults}
use Rattle.mt_paged.specs.Paged.{cleared}
use Rattle.mt_top.specs.declared.keeper.AnyKeeper.{AnyKeeper}
use Rattle.mt_top.specs.declared.keeper.AnyKeeper.TheVariants.{Plain, Paged}

-- what the store inside holds
abbrev pub memory_of : AnyKeeper → Memory
memory_of (Plain m) = m
memory_of (Paged p) = p.memory

-- as a keeper, which tells what the store inside tells
abbrev pub keeper_of : AnyKeeper → Store
keeper_of k = store_of (memory_of k)

-- which of the two kinds it is
abbrev pub kind_of : AnyKeeper → StoreChoice
kind_of (Plain m) = choice.Plain
kind_of (Paged p) = choice.Paged

-- the count of faults of the store inside was taken, and nothing else changed
abbrev pub forgiven : AnyKeeper → AnyKeeper
forgiven (Plain m) = Plain (without_faults m)
forgiven (Paged p) = Paged (cleared p)
