-- What is asked of the service beside the table.
use Rattle.std.specs.Prelude.{◌≡◌, ◌⊎◌, ℕ, ◌≤◌, decimal, List, codes, Option, Some, None}
use Rattle.mt_target.specs.declared.target.QueryOption.{QueryOption}
use Rattle.mt_options.specs.Values.{value_of}
use Rattle.mt_history.specs.Weight.{need_of_move}
use Rattle.mt_front.specs.declared.refusals.BadRequest.TheVariants.{InvalidQuery}
use Rattle.mt_front.specs.declared.services.Machine.{Machine}
use Rattle.mt_front.specs.declared.services.Admin.{Admin as Order}
use Rattle.mt_front.specs.declared.services.Admin.TheVariants.{Steps, Seal, Status}
use Rattle.mt_front.specs.declared.asks.Asked.{Asked}
use Rattle.mt_front.specs.declared.asks.Asked.TheVariants.{Admin, Refused}

-- the value of `steps` spells this number of turns, from 1 to 1,000,000
abbrev pub IsSteps : Option (List ℕ) → ℕ → Type 0
IsSteps None steps = ⊥
IsSteps (Some text) steps = (text ≡ decimal steps) × (1 ≤ steps) × (steps ≤ 1000000)

-- it is absent, or spells no such number
abbrev pub IsNoSteps : Option (List ℕ) → Type 0
IsNoSteps value = (steps : ℕ) → IsSteps value steps → ⊥

-- what a POST asks for that steps a machine: so many turns as `steps` says, or nothing that is valid
abbrev pub AsksSteps : Machine → List QueryOption → Asked → Type 0
AsksSteps machine options asked =
    (IsNoSteps (value_of (codes "steps") options) × (asked ≡ Refused InvalidQuery))
    ⊎ ((steps : ℕ) × IsSteps (value_of (codes "steps") options) steps × (asked ≡ Admin (Steps machine steps)))

-- the room in the history that each turn of it needs; to tell the status takes no turn
abbrev pub need_of_order : Order → Option ℕ
need_of_order (Steps machine steps) = Some need_of_move
need_of_order Seal = Some need_of_move
need_of_order Status = None

-- so many turns, where it asks for some, are at least one
abbrev pub MayOrder : Order → Type 0
MayOrder (Steps machine steps) = 1 ≤ steps
MayOrder Seal = Unit {0}
MayOrder Status = Unit {0}
