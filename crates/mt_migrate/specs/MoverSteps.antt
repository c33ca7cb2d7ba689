-- What a step of a migrator does to a sound pair of stores.
use Rattle.std.specs.Prelude.{◌≡◌, ℕ, Bool, true, is_some, List}
use Rattle.mt_meta.specs.Markers.{marker_key}
use Rattle.mt_meta.specs.Logical.{Pair, logical, old_at, new_state_at}
use Rattle.mt_meta.specs.Facts.{is_use_new}
use Rattle.mt_meta.specs.Steps.{ActorStep}
use Rattle.mt_migrate.specs.declared.state.State.{State}
use Rattle.mt_migrate.specs.Known.{state_facts}

-- clients see the same
abbrev pub ShowsSame : Pair → Pair → Type 0
ShowsSame p q = (pk rk : List ℕ) → logical q pk rk ≡ logical p pk rk

-- a step of a migrator, from one state to the next: a step of an actor that knows what these states know
abbrev pub MoverStep : State → State → Bool → Pair → Pair → Type 0
MoverStep state to retired p q = ActorStep (state_facts state) (state_facts to) retired retired ShowsSame p q

-- old is sealed, and each of its partitions is in new alone
pub record IsMoved (p : Pair) : Type 0 where
  pub sealed : p.old.sealed ≡ true
  pub moved : (pk : List ℕ) → is_some (old_at p pk marker_key) ≡ true → is_use_new (new_state_at p pk) ≡ true
