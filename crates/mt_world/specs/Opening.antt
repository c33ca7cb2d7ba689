-- Opening two stores as a world.
use Rattle.std.specs.Prelude.{◌≡◌, ℕ, ◌+◌, [], Ok, IfSome}
use Rattle.mt_chain.specs.Store.{Store}
use Rattle.mt_open.specs.Opening.{OpensPair, is_emptied}
use Rattle.mt_world.specs.Worlds.{WorldState}

-- the stores as they are in the world, which are a sound pair; its table at opening is their logical table, it has no history yet, and its generation is 1
pub record Opened (s s' : Store) (entries : ℕ) (w : WorldState) : Type 0 where
  pub opens : OpensPair s s' (Ok w.base) w.old_store w.new_store
  pub first : w.history.first ≡ 0
  pub nothing : w.history.entries ≡ []
  pub limit : w.history.limit ≡ entries
  pub numbers : w.numbers ≡ []
  pub fault_entries : w.fault_entries ≡ 0
  pub calls : w.calls ≡ 0
  pub generation : w.generation ≡ 1
  -- exactly where old is sealed and has no row
  pub retired : IfSome w.old_store.told (λ c. w.retired ≡ is_emptied c)
  pub opened_faults : w.opened_faults ≡ w.old_store.faults + w.new_store.faults
