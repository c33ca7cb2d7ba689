-- How far the move of a partition is, by its two markers, and what its rows then are: the rules of a sound pair in short.
use Rattle.std.specs.Prelude.{◌≡◌, ◌≢◌, ℕ, Bool, true, false, List, Option, None}
use Rattle.mt_chain.specs.declared.row.Stored.{Stored}
use Rattle.mt_meta.specs.Markers.{marker_key}
use Rattle.mt_meta.specs.Logical.{Pair, OldState, NoOld, AtUseOld, AtPreferOld, AtPreferNew, NewState, NoNew, AtFilling, AtUseNew, Shown, from_old, from_new, from_both, old_at, new_at, old_state_at, new_state_at}
use Rattle.mt_meta.specs.Sound.{IsOldMarker, IsNewMarker, IsOldRow, IsEntry, HaveForms, IsCopyOrNone, NoTomb, AreTags, AreKept}

-- not there; in old alone; claimed; with copies; clients over copies; in new alone with old's rows left over; in new alone
pub data Mode : Type 0 where
  Empty : Mode
  AtOld : Mode
  Prepared : Mode
  Copying : Mode
  Overlaid : Mode
  Settled : Mode
  NewOnly : Mode
  Broken : Mode

-- by old's marker, new's marker, and whether old is sealed
abbrev pub mode_of : OldState → NewState → Bool → Mode
mode_of NoOld NoNew sealed = Empty
mode_of NoOld AtUseNew true = NewOnly
mode_of AtUseOld NoNew sealed = AtOld
mode_of AtPreferOld NoNew sealed = Prepared
mode_of AtPreferOld AtFilling sealed = Copying
mode_of AtPreferNew AtFilling sealed = Overlaid
mode_of AtPreferNew AtUseNew sealed = Settled
mode_of old new sealed = Broken

-- a partition only goes up in this order
abbrev pub rank : Mode → ℕ
rank Empty = 0
rank AtOld = 1
rank Prepared = 2
rank Copying = 3
rank Overlaid = 4
rank Settled = 5
rank NewOnly = 6
rank Broken = 7

abbrev pub mode : Pair → List ℕ → Mode
mode p pk = mode_of (old_state_at p pk) (new_state_at p pk) p.old.sealed

-- what the two stores have at a client's key
abbrev pub FitsMode : Mode → Option Stored → Option Stored → Type 0
FitsMode Empty row entry = (row ≡ None) × (entry ≡ None)
FitsMode AtOld row entry = entry ≡ None
FitsMode Prepared row entry = entry ≡ None
FitsMode Copying row entry = IsCopyOrNone entry
FitsMode Overlaid row entry = Unit {0}
FitsMode Settled row entry = Unit {0}
FitsMode NewOnly row entry = (row ≡ None) × NoTomb entry
FitsMode Broken row entry = ⊥

-- what clients see at a client's key
abbrev pub shown_in : Mode → Option Stored → Option Stored → Option Shown
shown_in Empty row entry = None
shown_in AtOld row entry = from_old row
shown_in Prepared row entry = from_old row
shown_in Copying row entry = from_old row
shown_in Overlaid row entry = from_both row entry
shown_in Settled row entry = from_new entry
shown_in NewOnly row entry = from_new entry
shown_in Broken row entry = None

-- the eight rules, where the five that speak of markers are one fact at each key
pub record IsSoundByModes (p : Pair) : Type 0 where
  pub forms : HaveForms (IsOldMarker p.old_number) (IsOldRow p.old_number) p.old × HaveForms IsNewMarker IsEntry p.new
  pub keys : (pk rk : List ℕ) → rk ≢ marker_key → FitsMode (mode p pk) (old_at p pk rk) (new_at p pk rk)
  pub tags : AreTags p.old_number p.old × AreTags p.new_number p.new × AreKept p p.old_number p.old × AreKept p p.new_number p.new
  pub unsealed : p.new.sealed ≡ false
