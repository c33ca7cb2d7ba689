-- What the orders of a connection come to for the migration.
use Rattle.std.specs.Prelude.{◌≡◌, ◌⊎◌, ℕ, Bool, true, false, ◌&&◌, ◌||◌, List, ◌∷◌, ◌++◌}
use Rattle.std.specs.List.{list_any}
use Rattle.mt_migrate.specs.MoverSteps.{IsMoved}
use Rattle.mt_world.specs.Worlds.{WorldState, ForPair, Tells}
use Rattle.mt_front.specs.declared.asks.Asked.{Asked}
use Rattle.mt_front.specs.declared.asks.Asked.TheVariants.{Admin}
use Rattle.mt_front.specs.declared.services.Machine.TheVariants.{Migrator, Cleaner}
use Rattle.mt_front.specs.declared.services.Admin.TheVariants.{Steps, Seal, Status as TellStatus}
use Rattle.mt_front.specs.declared.services.Report.TheVariants.{Stepped, NotSealed, NotMigrated, Sealed, Status}
use Rattle.mt_front.specs.Items.{Item, ItemOutcome, Reported}

-- it was answered that a machine is done
abbrev pub says_done : ItemOutcome → Bool
says_done (Reported (Stepped true steps)) = true
says_done outcome = false

-- a migrator was asked for
abbrev pub is_of_migrator : Asked → Bool
is_of_migrator (Admin (Steps Migrator steps)) = true
is_of_migrator asks = false

-- a cleaner was asked for
abbrev pub is_of_cleaner : Asked → Bool
is_of_cleaner (Admin (Steps Cleaner steps)) = true
is_of_cleaner asks = false

-- the migrator was done
abbrev pub is_moved : Item → Bool
is_moved i = is_of_migrator i.asks && says_done i.outcome

-- the cleaner was done
abbrev pub is_cleaned : Item → Bool
is_cleaned i = is_of_cleaner i.asks && says_done i.outcome

-- it was answered that old is sealed
abbrev pub says_sealed : ItemOutcome → Bool
says_sealed (Reported Sealed) = true
says_sealed outcome = false

-- a seal was asked for
abbrev pub is_of_seal : Asked → Bool
is_of_seal (Admin Seal) = true
is_of_seal asks = false

-- the item sealed old: by an order of its own, or by a migrator that was done
abbrev pub is_sealing : Item → Bool
is_sealing i = (is_of_seal i.asks && says_sealed i.outcome) || is_moved i

-- the item stands among these, behind those
pub record StandsBehind (items before : List Item) (i : Item) : Type 0 where
  pub after : List Item
  pub are : items ≡ before ++ i ∷ after

-- what is so at the end of a connection, and what it was answered on its way, where both stores tell what they hold
pub record Migrates (w : WorldState) (items : List Item) (w' : WorldState) : Type 0 where
  -- behind a migrator that was done old is sealed, and each of its partitions is in new alone
  pub moved : list_any is_moved items ≡ true → ForPair w' IsMoved
  -- behind a seal old is sealed
  pub sealed : list_any is_sealing items ≡ true → ForPair w' (λ p. p.old.sealed ≡ true)
  -- behind a cleaner that was done the world is retired
  pub cleaned : list_any is_cleaned items ≡ true → w'.retired ≡ true
  -- no cleaner finds old not sealed behind a seal, or where old was sealed at the start
  pub not_sealed : Tells w' → (before : List Item) (i : Item) (steps : ℕ) → StandsBehind items before i → i.asks ≡ Admin (Steps Cleaner steps) → i.outcome ≡ Reported NotSealed → (list_any is_sealing before ≡ true) ⊎ ForPair w (λ p. p.old.sealed ≡ true) → ⊥
  -- none finds a partition not migrated behind a migrator that was done
  pub not_migrated : Tells w' → (before : List Item) (i : Item) (steps : ℕ) (pk : List ℕ) → StandsBehind items before i → i.asks ≡ Admin (Steps Cleaner steps) → i.outcome ≡ Reported (NotMigrated pk) → list_any is_moved before ≡ true → ⊥
  -- a status says retired exactly where the world was at the start, or a cleaner was done before
  pub statuses : (before : List Item) (i : Item) (entries generation : ℕ) (retired : Bool) → StandsBehind items before i → i.asks ≡ Admin TellStatus → i.outcome ≡ Reported (Status entries generation retired) → retired ≡ (w.retired || list_any is_cleaned before)
