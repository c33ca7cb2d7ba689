-- Where two stores fail a rule of a sound pair, and the first such place.
use Rattle.std.specs.Prelude.{◌≡◌, ◌≢◌, ◌⊎◌, ℕ, ◌<◌, ◌≤◌, IsTrue, true, false, List, [], ◌∷◌, Option, Some, None}
use Rattle.std.specs.Ordering.{nat_cmp, ordering_then, is_le}
use Rattle.std.specs.declared.cmp.Ordering.{Ordering}
use Rattle.mt_model.specs.declared.key.Key.{Key}
use Rattle.mt_model.specs.declared.key.KeyPart.TheVariants.{Partition}
use Rattle.mt_model.specs.declared.tag.Tag.{Tag}
use Rattle.mt_model.specs.declared.value.Prop.{Prop}
use Rattle.mt_model.specs.Key.{key_cmp, part_fault, key_fault}
use Rattle.mt_chain.specs.declared.row.Stored.{Stored}
use Rattle.mt_chain.specs.Rows.{row_at, key_at}
use Rattle.mt_meta.specs.declared.mark.Mark.TheVariants.{Copy, Tomb}
use Rattle.mt_meta.specs.Markers.{marker_key}
use Rattle.mt_meta.specs.Marks.{mark_of}
use Rattle.mt_meta.specs.Logical.{Pair, AtUseOld, AtPreferOld, AtPreferNew, AtFilling, AtUseNew, new_state, old_at, new_at, old_state_at}
use Rattle.mt_meta.specs.Sound.{IsOldMarker, IsNewMarker, IsOldRow, IsEntry, IsCopyOrNone}
use Rattle.mt_meta.specs.Steps.{number_of, contents_of}
use Rattle.mt_open.specs.declared.damage.Rule.{Rule}
use Rattle.mt_open.specs.declared.damage.Rule.TheVariants as rule
use Rattle.mt_chain.specs.declared.ask.Side.{Side}
use Rattle.mt_chain.specs.declared.ask.Side.TheVariants.{Old, New}
use Rattle.mt_open.specs.declared.damage.Damage.{Damage}

-- the number of a rule
abbrev pub rule_number : Rule → ℕ
rule_number rule.Forms = 1
rule_number rule.Marked = 2
rule_number rule.UseOld = 3
rule_number rule.PreferOld = 4
rule_number rule.PreferNew = 5
rule_number rule.NoOld = 6
rule_number rule.Tags = 7
rule_number rule.Unsealed = 8

-- the rules, in their order
abbrev pub all_rules : List Rule
all_rules = rule.Forms ∷ rule.Marked ∷ rule.UseOld ∷ rule.PreferOld ∷ rule.PreferNew ∷ rule.NoOld ∷ rule.Tags ∷ rule.Unsealed ∷ []

-- the row of one of the two stores at a key
abbrev pub row_in : Pair → Side → Key → Option Stored
row_in p side key = row_at (contents_of p side).rows key.pk key.rk

-- the key of a partition's marker
abbrev pub marker_of : List ℕ → Key
marker_of pk = key_at pk marker_key

-- the form of a marker in that store
abbrev pub IsMarkerIn : Pair → Side → List Prop → Type 0
IsMarkerIn p Old ps = IsOldMarker p.old_number ps
IsMarkerIn p New ps = IsNewMarker ps

-- the form of a data row in that store
abbrev pub IsRowIn : Pair → Side → List Prop → Type 0
IsRowIn p Old ps = IsOldRow p.old_number ps
IsRowIn p New ps = IsEntry ps

-- a row at the marker's key has a marker's form, and its partition key meets the rules; any other has a data row's form, and its key meets them
abbrev pub HasForm : Pair → Side → Key → List Prop → Type 0
HasForm p side key ps =
    (key.rk ≡ marker_key → IsMarkerIn p side ps × (part_fault Partition key.pk ≡ None))
    × (key.rk ≢ marker_key → IsRowIn p side ps × (key_fault key.pk key.rk ≡ None))

-- another row of the store has the tag
abbrev pub IsShared : Pair → Side → Key → Tag → Type 0
IsShared p side key tag = (other : Key) × (found : Stored) × (other ≢ key) × (row_in p side other ≡ Some found) × (found.tag ≡ tag)

-- a kept tag is of no store below, or its n is 0, or old has not given it
abbrev pub FailsKept : Pair → ℕ → Tag → Type 0
FailsKept p store tag = (store ≤ tag.store) ⊎ ((tag.n ≡ 0) ⊎ ((tag.store ≡ p.old_number) × (p.old.counter < tag.n)))

-- a tag is of another store, or its n is 0 or above the store's counter
abbrev pub FailsNumber : Pair → Side → Tag → Type 0
FailsNumber p side tag = (tag.store ≢ number_of p side) ⊎ ((tag.n ≡ 0) ⊎ ((contents_of p side).counter < tag.n))

-- a tag is none that the store gave, or another row has it
abbrev pub FailsOwn : Pair → Side → Key → Tag → Type 0
FailsOwn p side key tag = FailsNumber p side tag ⊎ IsShared p side key tag

-- the row is a copy, and its kept tag fails
abbrev pub FailsCopy : Pair → Side → List Prop → Type 0
FailsCopy p side ps = (tag : Tag) × (mark_of ps ≡ Some (Copy tag)) × FailsKept p (number_of p side) tag

-- how a row of one of the two stores at a key fails a rule
abbrev pub RowFails : Pair → Rule → Side → Key → Stored → Type 0
RowFails p rule.Forms side key row = ¬ HasForm p side key row.props
RowFails p rule.Marked side key row = row_in p side (marker_of key.pk) ≡ None
RowFails p rule.UseOld Old key row = ⊥
RowFails p rule.UseOld New key row = (key.rk ≡ marker_key) × (old_state_at p key.pk ≡ AtUseOld)
RowFails p rule.PreferOld Old key row = ⊥
RowFails p rule.PreferOld New key row = (old_state_at p key.pk ≡ AtPreferOld)
    × (((key.rk ≡ marker_key) × (new_state (Some row) ≢ AtFilling)) ⊎ ((key.rk ≢ marker_key) × (¬ IsCopyOrNone (Some row))))
RowFails p rule.PreferNew Old key row = (key.rk ≡ marker_key) × (old_state_at p key.pk ≡ AtPreferNew) × (new_at p key.pk marker_key ≡ None)
RowFails p rule.PreferNew New key row = ⊥
RowFails p rule.NoOld Old key row = ⊥
RowFails p rule.NoOld New key row = (old_at p key.pk marker_key ≡ None)
    × (((key.rk ≡ marker_key) × ((new_state (Some row) ≢ AtUseNew) ⊎ (p.old.sealed ≡ false))) ⊎ ((key.rk ≢ marker_key) × (mark_of row.props ≡ Some Tomb)))
RowFails p rule.Tags side key row = FailsOwn p side key row.tag ⊎ FailsCopy p side row.props
RowFails p rule.Unsealed side key row = ⊥

-- the rules that speak of both stores' markers, and the one that speaks of no row
abbrev pub SpeaksOfMarkers : Rule → Type 0
SpeaksOfMarkers rule.Forms = ⊥
SpeaksOfMarkers rule.Marked = ⊥
SpeaksOfMarkers rule.Tags = ⊥
SpeaksOfMarkers r = Unit {0}

-- a place where two stores may fail: a rule, one of the stores, and a key
pub record Place : Type 0 where
  pub rule : Rule
  pub side : Side
  pub key : Key

-- the row there fails the rule
abbrev pub FailsByRow : Pair → Place → Type 0
FailsByRow p at = (row : Stored) × (row_in p at.side at.key ≡ Some row) × RowFails p at.rule at.side at.key row

-- new is sealed, which the key of two empty texts stands for
abbrev pub FailsBySeal : Pair → Place → Type 0
FailsBySeal p at = (at.rule ≡ rule.Unsealed) × (at.side ≡ New) × (at.key ≡ key_at [] []) × (p.new.sealed ≡ true)

abbrev pub FailsAt : Pair → Place → Type 0
FailsAt p at = FailsByRow p at ⊎ FailsBySeal p at

-- old before new
abbrev pub side_number : Side → ℕ
side_number Old = 0
side_number New = 1

-- by key, then old before new
abbrev pub spot_cmp : Key → Side → Key → Side → Ordering
spot_cmp a s b t = ordering_then (key_cmp a b) (nat_cmp (side_number s) (side_number t))

-- by rule, then by key, then old before new
abbrev pub place_cmp : Place → Place → Ordering
place_cmp a b = ordering_then (nat_cmp (rule_number a.rule) (rule_number b.rule))
    (spot_cmp a.key a.side b.key b.side)

-- the stores fail there, and nowhere before
pub record IsFirst (p : Pair) (at : Place) : Type 0 where
  pub fails : FailsAt p at
  pub least : (other : Place) → FailsAt p other → IsTrue (is_le (place_cmp at other))

abbrev pub place : Rule → Side → Key → Place
place r side key = record { rule = r; side = side; key = key }

-- the rows of one store fail a rule nowhere, or least at a key
abbrev pub IsLeastIn : Pair → Rule → Side → Option Key → Type 0
IsLeastIn p r side None = (key : Key) → ¬ FailsByRow p (place r side key)
IsLeastIn p r side (Some key) = FailsByRow p (place r side key)
    × ((other : Key) → FailsByRow p (place r side other) → IsTrue (is_le (key_cmp key other)))

-- the rows of both stores fail a rule first there
abbrev pub IsFirstAt : Pair → Rule → Side → Key → Type 0
IsFirstAt p r side key = FailsByRow p (place r side key)
    × ((s : Side) (k : Key) → FailsByRow p (place r s k) → IsTrue (is_le (spot_cmp key side k s)))

-- the rows of both stores fail a rule nowhere, or first at a damage
abbrev pub IsFirstBy : Pair → Rule → Option Damage → Type 0
IsFirstBy p r None = (side : Side) (key : Key) → ¬ FailsByRow p (place r side key)
IsFirstBy p r (Some d) = (side : Side) × (d.rule ≡ r) × (d.store ≡ number_of p side) × IsFirstAt p r side d.key

-- the first place where the stores fail, with the number of the store
abbrev pub IsDamage : Pair → Damage → Type 0
IsDamage p d = (side : Side) × (d.store ≡ number_of p side) × IsFirst p (record { rule = d.rule; side = side; key = d.key })

-- no row fails a rule, or this is the first damage
abbrev pub IsFirstByRows : Pair → Option Damage → Type 0
IsFirstByRows p None = (at : Place) → ¬ FailsByRow p at
IsFirstByRows p (Some d) = IsDamage p d
