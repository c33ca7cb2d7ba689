-- What a step of a cleaner does to a sound pair of stores.
use Rattle.std.specs.Prelude.{◌≡◌, ℕ, Bool, true, List}
use Rattle.mt_meta.specs.Logical.{Pair, logical}
use Rattle.mt_meta.specs.Steps.{ActorStep}
use Rattle.mt_clean.specs.declared.state.State.{State}
use Rattle.mt_clean.specs.declared.state.State.TheVariants as at
use Rattle.mt_clean.specs.Known.{state_facts}

-- clients see the same
abbrev pub ShowsSame : Pair → Pair → Type 0
ShowsSame p q = (pk rk : List ℕ) → logical q pk rk ≡ logical p pk rk

-- the world is retired where a cleaner is done
abbrev pub retired_at : Bool → State → Bool
retired_at retired at.Done = true
retired_at retired state = retired

-- a step of a cleaner, from one state to the next: a step of an actor that knows what these states know
abbrev pub CleanerStep : State → State → Bool → Pair → Pair → Type 0
CleanerStep state to retired p q = ActorStep (state_facts state) (state_facts to) retired (retired_at retired to) ShowsSame p q
