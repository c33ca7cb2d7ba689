-- The rows of the logical table of two stores, as entities.
use Rattle.std.specs.Prelude.{List, [], ◌∷◌, ◌++◌, Option, Some, None}
use Rattle.mt_model.specs.declared.key.Key.{Key}
use Rattle.mt_model.specs.declared.entity.Entity.{Entity}
use Rattle.mt_chain.specs.declared.row.Stored.{Stored}
use Rattle.mt_meta.specs.declared.marker.Phase.{Phase}
use Rattle.mt_meta.specs.declared.marker.Phase.TheVariants.{UseOld, PreferOld, PreferNew}
use Rattle.mt_meta.specs.declared.marker.NewPhase.{NewPhase}
use Rattle.mt_meta.specs.declared.marker.NewPhase.TheVariants.{Filling, UseNew}
use Rattle.mt_meta.specs.Logical.{Pair, Shown, OldState, NoOld, AtUseOld, AtPreferOld, AtPreferNew, BadOld, NewState, NoNew, AtFilling, AtUseNew, BadNew, from_old, from_new, from_both, logical}

-- the entity that clients see at a key
abbrev pub entity_by : Key → Option Shown → Option Entity
entity_by key None = None
entity_by key (Some s) = Some (record { key = key; props = s.props; tag = s.tag })

abbrev pub entity_at : Pair → Key → Option Entity
entity_at p key = entity_by key (logical p key.pk key.rk)

-- the list with one more entity after it, or none
abbrev pub with_one : List Entity → Option Entity → List Entity
with_one es None = es
with_one es (Some e) = es ++ e ∷ []

-- the phase that an old marker's state says
abbrev pub old_phase_in : OldState → Option Phase
old_phase_in NoOld = None
old_phase_in AtUseOld = Some UseOld
old_phase_in AtPreferOld = Some PreferOld
old_phase_in AtPreferNew = Some PreferNew
old_phase_in BadOld = None

abbrev pub new_phase_in : NewState → Option NewPhase
new_phase_in NoNew = None
new_phase_in AtFilling = Some Filling
new_phase_in AtUseNew = Some UseNew
new_phase_in BadNew = None

-- what both markers' phases make of old's row and new's row at a key
abbrev pub row_by_phases : Option Phase → Option NewPhase → Option Stored → Option Stored → Option Shown
row_by_phases (Some UseOld) new row entry = from_old row
row_by_phases (Some PreferOld) new row entry = from_old row
row_by_phases (Some PreferNew) (Some Filling) row entry = from_both row entry
row_by_phases old (Some UseNew) row entry = from_new entry
row_by_phases old new row entry = None
