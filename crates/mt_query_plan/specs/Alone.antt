-- What a query stands on while no other actor comes between: the markers still say what it has read. These definitions are for the bound of `World::finish`, which ends a query in two turns, and for nothing else.
use Rattle.std.specs.Prelude.{◌≡◌, ℕ, List}
use Rattle.mt_meta.specs.Logical.{Pair, NoOld, AtPreferNew, AtUseNew, old_state_at, new_state_at}
use Rattle.mt_query_plan.specs.declared.place.AfterOld.{AfterOld}
use Rattle.mt_query_plan.specs.declared.place.AfterOld.TheVariants.{Turned, Closed, Moved}
use Rattle.mt_query_plan.specs.declared.place.Place.{Place}
use Rattle.mt_query_plan.specs.declared.place.Place.TheVariants.{ReadOld, ReadNew}

-- old's marker still says that new is to be read, or new's that it is used alone
abbrev pub AfterStands : Pair → List ℕ → AfterOld → Type 0
AfterStands p pk (Turned rows) = old_state_at p pk ≡ AtPreferNew
AfterStands p pk Closed = old_state_at p pk ≡ NoOld
AfterStands p pk Moved = new_state_at p pk ≡ AtUseNew

abbrev pub StandsOn : Pair → List ℕ → Place → Type 0
StandsOn p pk ReadOld = Unit {0}
StandsOn p pk (ReadNew after) = AfterStands p pk after

-- the most turns that a query has behind it at a place: it reads old, and then new where it must
abbrev pub turns_before : Place → ℕ
turns_before ReadOld = 0
turns_before (ReadNew after) = 1
