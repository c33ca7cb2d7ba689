-- The table that two stores show as one.
use Rattle.std.specs.Prelude.{ℕ, bytes_eq, List, filter, Option, Some, None, option_map, IfSome, if◌then◌else◌}
use Rattle.mt_model.specs.declared.tag.Tag.{Tag}
use Rattle.mt_model.specs.declared.value.Prop.{Prop}
use Rattle.mt_model.specs.Props.{is_visible}
use Rattle.mt_chain.specs.declared.row.Stored.{Stored}
use Rattle.mt_chain.specs.Rows.{row_at}
use Rattle.mt_chain.specs.StoreCall.{Contents}
use Rattle.mt_meta.specs.declared.marker.Phase.{Phase}
use Rattle.mt_meta.specs.declared.marker.Phase.TheVariants as phase
use Rattle.mt_meta.specs.declared.marker.NewPhase.{NewPhase}
use Rattle.mt_meta.specs.declared.marker.NewPhase.TheVariants.{Filling, UseNew}
use Rattle.mt_meta.specs.declared.mark.Mark.{Mark}
use Rattle.mt_meta.specs.declared.mark.Mark.TheVariants.{Live, Copy, Tomb}
use Rattle.mt_meta.specs.declared.showing.Choice.{Choice}
use Rattle.mt_meta.specs.declared.showing.Choice.TheVariants.{Nothing, OldRow, NewRow}
use Rattle.mt_meta.specs.Markers.{marker_key, old_phase_of, new_phase_of}
use Rattle.mt_meta.specs.Marks.{mark_of, seen_tag}

-- the contents of two stores, with the stores' numbers
pub record Pair : Type 0 where
  pub old_number : ℕ
  pub new_number : ℕ
  pub old : Contents
  pub new : Contents

-- two stores of these numbers that hold this
abbrev pub pair_of : ℕ → ℕ → Contents → Contents → Pair
pair_of old_number new_number old new = record { old_number = old_number; new_number = new_number; old = old; new = new }

-- what holds of two stores of these numbers, where both tell what they hold
abbrev pub ForPair : ℕ → ℕ → Option Contents → Option Contents → (Pair → Type 0) → Type 0
ForPair old_number new_number old new P = IfSome old (λ a. IfSome new (λ b. P (pair_of old_number new_number a b)))

-- what the old store's marker of a partition says, or that there is none, or one that says nothing
pub data OldState : Type 0 where
  NoOld : OldState
  AtUseOld : OldState
  AtPreferOld : OldState
  AtPreferNew : OldState
  BadOld : OldState

-- the same of the new store
pub data NewState : Type 0 where
  NoNew : NewState
  AtFilling : NewState
  AtUseNew : NewState
  BadNew : NewState

abbrev pub old_says : Option Phase → OldState
old_says (Some phase.UseOld) = AtUseOld
old_says (Some phase.PreferOld) = AtPreferOld
old_says (Some phase.PreferNew) = AtPreferNew
old_says None = BadOld

abbrev pub new_says : Option NewPhase → NewState
new_says (Some Filling) = AtFilling
new_says (Some UseNew) = AtUseNew
new_says None = BadNew

abbrev pub old_state : Option Stored → OldState
old_state None = NoOld
old_state (Some row) = old_says (old_phase_of row.tag.store row.props)

abbrev pub new_state : Option Stored → NewState
new_state None = NoNew
new_state (Some row) = new_says (new_phase_of row.props)

abbrev pub old_at : Pair → List ℕ → List ℕ → Option Stored
old_at p pk rk = row_at p.old.rows pk rk

abbrev pub new_at : Pair → List ℕ → List ℕ → Option Stored
new_at p pk rk = row_at p.new.rows pk rk

abbrev pub old_state_at : Pair → List ℕ → OldState
old_state_at p pk = old_state (old_at p pk marker_key)

abbrev pub new_state_at : Pair → List ℕ → NewState
new_state_at p pk = new_state (new_at p pk marker_key)

-- a row as clients see it
pub record Shown : Type 0 where
  pub props : List Prop
  pub tag : Tag

-- the visible properties with a tag
abbrev pub shown_as : List Prop → Tag → Shown
shown_as ps tag = record { props = filter is_visible ps; tag = tag }

abbrev pub shown_with : List Prop → Option Tag → Option Shown
shown_with ps None = None
shown_with ps (Some tag) = Some (shown_as ps tag)

-- old's row with its seen tag
abbrev pub from_old : Option Stored → Option Shown
from_old None = None
from_old (Some row) = shown_with row.props (seen_tag row.props row.tag)

-- new's row by its mark: a live one with its own tag, a copy with its kept tag
abbrev pub new_by : Option Mark → Stored → Option Shown
new_by (Some Live) row = Some (shown_as row.props row.tag)
new_by (Some (Copy kept)) row = Some (shown_as row.props kept)
new_by (Some Tomb) row = None
new_by None row = None

abbrev pub from_new : Option Stored → Option Shown
from_new None = None
from_new (Some row) = new_by (mark_of row.props) row

-- while new fills: a live row, nothing at a tombstone, and old's row through a copy
abbrev pub filling_by : Option Mark → Stored → Option Shown → Option Shown
filling_by (Some Live) row old = Some (shown_as row.props row.tag)
filling_by (Some (Copy kept)) row old = old
filling_by (Some Tomb) row old = None
filling_by None row old = None

abbrev pub from_both : Option Stored → Option Stored → Option Shown
from_both row None = from_old row
from_both row (Some entry) = filling_by (mark_of entry.props) entry (from_old row)

-- while new fills, an entry over old's row; once new is used alone, the entry
abbrev pub shown_over : NewPhase → Option Stored → Option Stored → Option Shown
shown_over Filling row entry = from_both row entry
shown_over UseNew row entry = from_new entry

-- the row that the overlay chooses, as clients see it
abbrev pub chosen : Choice → Option Stored → Option Stored → Option Shown
chosen Nothing row entry = None
chosen (OldRow tag) row entry = option_map (λ (r : Stored). shown_as r.props tag) row
chosen (NewRow tag) row entry = option_map (λ (r : Stored). shown_as r.props tag) entry

-- what both markers make of old's row and new's row at a key, by the first line that fits
abbrev pub row_by : OldState → NewState → Option Stored → Option Stored → Option Shown
row_by AtUseOld new row entry = from_old row
row_by AtPreferOld new row entry = from_old row
row_by AtPreferNew AtFilling row entry = from_both row entry
row_by old AtUseNew row entry = from_new entry
row_by old new row entry = None

-- the logical table: the row that clients see at a key; the marker's key shows none
abbrev pub logical : Pair → List ℕ → List ℕ → Option Shown
logical p pk rk = if bytes_eq rk marker_key then None else row_by (old_state_at p pk) (new_state_at p pk) (old_at p pk rk) (new_at p pk rk)
