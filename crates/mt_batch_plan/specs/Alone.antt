-- What a call stands on while no other actor comes between: the stores hold what it has read. These definitions are for the bound of `World::finish`, which ends a call in three turns, and for nothing else: no law of a step rests on them.
use Rattle.std.specs.Prelude.{◌≡◌, ℕ, false, List, None}
use Rattle.mt_chain.specs.declared.op.Op.{Op}
use Rattle.mt_chain.specs.declared.row.StoredRow.{StoredRow}
use Rattle.mt_chain.specs.Rows.{Rows, named_rows}
use Rattle.mt_rules.specs.Batches.{partition_of}
use Rattle.mt_meta.specs.Markers.{marker_key}
use Rattle.mt_meta.specs.Logical.{Pair, NoOld, AtPreferNew, old_state_at, old_at, new_at}
use Rattle.mt_batch_plan.specs.declared.place.AfterOld.{AfterOld}
use Rattle.mt_batch_plan.specs.declared.place.AfterOld.TheVariants.{Turned, Closed}
use Rattle.mt_batch_plan.specs.declared.place.Place.{Place}
use Rattle.mt_batch_plan.specs.declared.place.Place.TheVariants.{ReadOld, ReadNew, Write}
use Rattle.mt_batch_plan.specs.declared.basis.Basis.{Basis}
use Rattle.mt_batch_plan.specs.declared.basis.Basis.TheVariants.{OldRows, OldBirth, Overlay, NewRows, NewBirth}
use Rattle.mt_batch_plan.specs.Calls.{AreNames}

-- these are a store's rows at the keys that the call names
abbrev pub AreNamedRows : List Op → Rows → List StoredRow → Type 0
AreNamedRows ops rows named = (names : List (List ℕ)) × AreNames ops names × (named ≡ named_rows rows (partition_of ops) names)

-- the store that is written holds what was read of it
abbrev pub BasisStands : Pair → List Op → Basis → Type 0
BasisStands p ops (OldRows rows) = AreNamedRows ops p.old.rows rows
BasisStands p ops OldBirth = (old_at p (partition_of ops) marker_key ≡ None) × (p.old.sealed ≡ false)
BasisStands p ops (Overlay rows entries) = AreNamedRows ops p.new.rows entries
BasisStands p ops (NewRows entries) = AreNamedRows ops p.new.rows entries
BasisStands p ops NewBirth = new_at p (partition_of ops) marker_key ≡ None

-- old's marker still says that new is to be read
abbrev pub AfterStands : Pair → List Op → AfterOld → Type 0
AfterStands p ops (Turned rows) = old_state_at p (partition_of ops) ≡ AtPreferNew
AfterStands p ops Closed = old_state_at p (partition_of ops) ≡ NoOld

abbrev pub StandsOn : Pair → List Op → Place → Type 0
StandsOn p ops ReadOld = Unit {0}
StandsOn p ops (ReadNew after) = AfterStands p ops after
StandsOn p ops (Write basis) = BasisStands p ops basis

-- the most turns that a call has behind it at a place: it reads old, then new where it must, and then it writes
abbrev pub turns_before : Place → ℕ
turns_before ReadOld = 0
turns_before (ReadNew after) = 1
turns_before (Write basis) = 2
