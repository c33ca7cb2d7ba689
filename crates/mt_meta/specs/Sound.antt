-- When two stores are a sound pair: eight rules, which every step of every actor keeps.
use Rattle.std.specs.Prelude.{◌≡◌, ◌≢◌, ◌⊎◌, ℕ, ◌<◌, ◌≤◌, true, false, List, filter, Option, Some, None}
use Rattle.mt_model.specs.declared.key.KeyPart.TheVariants.{Partition}
use Rattle.mt_model.specs.declared.tag.Tag.{Tag}
use Rattle.mt_model.specs.declared.value.Prop.{Prop}
use Rattle.mt_model.specs.Key.{part_fault, key_fault}
use Rattle.mt_model.specs.Tag.{IsTag}
use Rattle.mt_model.specs.Props.{is_visible}
use Rattle.mt_chain.specs.declared.row.Stored.{Stored}
use Rattle.mt_chain.specs.Rows.{row_at}
use Rattle.mt_chain.specs.StoreCall.{Contents}
use Rattle.mt_meta.specs.declared.marker.Phase.{Phase}
use Rattle.mt_meta.specs.declared.marker.NewPhase.{NewPhase}
use Rattle.mt_meta.specs.declared.marker.NewPhase.TheVariants.{UseNew}
use Rattle.mt_meta.specs.declared.mark.Mark.{Mark}
use Rattle.mt_meta.specs.declared.mark.Mark.TheVariants.{Live, Copy, Tomb}
use Rattle.mt_meta.specs.Markers.{marker_key, marker_props, old_kind, new_kind}
use Rattle.mt_meta.specs.Marks.{mark_of, stored}
use Rattle.mt_meta.specs.Logical.{Pair, NoOld, AtUseOld, AtPreferOld, AtPreferNew, NoNew, AtFilling, AtUseNew, new_at, old_state_at, new_state_at}

-- what the old store keeps as a marker; a store above 0 also has those that an earlier migration left in it
abbrev pub IsOldMarker : ℕ → List Prop → Type 0
IsOldMarker store ps = ((phase : Phase) × (ps ≡ marker_props (old_kind phase))) ⊎ ((0 < store) × (ps ≡ marker_props (new_kind UseNew)))

abbrev pub IsNewMarker : List Prop → Type 0
IsNewMarker ps = (phase : NewPhase) × (ps ≡ marker_props (new_kind phase))

-- the tag that a copy keeps is one
abbrev pub HasTag : Mark → Type 0
HasTag Live = Unit {0}
HasTag (Copy tag) = IsTag tag
HasTag Tomb = Unit {0}

-- what the new store keeps as a data row: its visible properties with a mark, and a tombstone has none
abbrev pub IsEntry : List Prop → Type 0
IsEntry ps = (mark : Mark) × HasTag mark × (ps ≡ stored mark ps)

-- what the old store keeps as a data row: properties of a client; a store above 0 also has live rows and copies
abbrev pub IsOldRow : ℕ → List Prop → Type 0
IsOldRow store ps = (filter is_visible ps ≡ ps) ⊎ ((0 < store) × IsEntry ps × (mark_of ps ≢ Some Tomb))

-- each row of a store has a form, which markers and data rows have of their own, and its key meets the rules of keys
pub record HaveForms (IsMarker IsRow : List Prop → Type 0) (c : Contents) : Type 0 where
  pub markers : (pk : List ℕ) (row : Stored) → row_at c.rows pk marker_key ≡ Some row → IsMarker row.props × (part_fault Partition pk ≡ None)
  pub data_rows : (pk rk : List ℕ) (row : Stored) → rk ≢ marker_key → row_at c.rows pk rk ≡ Some row → IsRow row.props × (key_fault pk rk ≡ None)

-- a partition that has a row has its marker
abbrev pub AreMarked : Contents → Type 0
AreMarked c = (pk rk : List ℕ) → row_at c.rows pk rk ≢ None → row_at c.rows pk marker_key ≢ None

-- a row that is there is a copy
abbrev pub IsCopyOrNone : Option Stored → Type 0
IsCopyOrNone None = Unit {0}
IsCopyOrNone (Some row) = (tag : Tag) × (mark_of row.props ≡ Some (Copy tag))

-- a row that is there is no tombstone
abbrev pub NoTomb : Option Stored → Type 0
NoTomb None = Unit {0}
NoTomb (Some row) = mark_of row.props ≢ Some Tomb

-- the tags of a store have its number and an n from 1 to its counter, and differ
pub record AreTags (store : ℕ) (c : Contents) : Type 0 where
  pub number : (pk rk : List ℕ) (row : Stored) → row_at c.rows pk rk ≡ Some row → row.tag.store ≡ store
  pub range : (pk rk : List ℕ) (row : Stored) → row_at c.rows pk rk ≡ Some row → (1 ≤ row.tag.n) × (row.tag.n ≤ c.counter)
  pub differ : (pk rk a b : List ℕ) (row other : Stored) → row_at c.rows pk rk ≡ Some row → row_at c.rows a b ≡ Some other
      → row.tag ≡ other.tag → (pk ≡ a) × (rk ≡ b)

-- a kept tag: of a store below, from 1 on, and one that old has given where it has old's number
pub record IsKept (p : Pair) (store : ℕ) (tag : Tag) : Type 0 where
  pub below : tag.store < store
  pub from_one : 1 ≤ tag.n
  pub given : tag.store ≡ p.old_number → tag.n ≤ p.old.counter

abbrev pub AreKept : Pair → ℕ → Contents → Type 0
AreKept p store c = (pk rk : List ℕ) (row : Stored) (tag : Tag) → row_at c.rows pk rk ≡ Some row → mark_of row.props ≡ Some (Copy tag) → IsKept p store tag

-- the eight rules, in their order
pub record IsSound (p : Pair) : Type 0 where
  -- every row can be read: no row of another form, which no line of the logical table fits
  pub forms : HaveForms (IsOldMarker p.old_number) (IsOldRow p.old_number) p.old × HaveForms IsNewMarker IsEntry p.new
  -- a read of the marker and of rows shows how far the partition is; without a marker there is nothing to see
  pub markers : AreMarked p.old × AreMarked p.new
  -- a migrator begins in new only after it has claimed the partition in old
  pub use_old : (pk : List ℕ) → old_state_at p pk ≡ AtUseOld → new_state_at p pk ≡ NoNew
  -- while clients write old, new has only copies, which show nothing of their own
  pub prefer_old : (pk : List ℕ) → old_state_at p pk ≡ AtPreferOld
      → ((new_state_at p pk ≡ NoNew) ⊎ (new_state_at p pk ≡ AtFilling)) × ((rk : List ℕ) → rk ≢ marker_key → IsCopyOrNone (new_at p pk rk))
  -- clients that find old at `prefer-new` go on in new, and need its marker to write under
  pub prefer_new : (pk : List ℕ) → old_state_at p pk ≡ AtPreferNew → new_state_at p pk ≢ NoNew
  -- a partition that old has not, or no more, is in new whole: old can bear it no more, and no tombstone has anything to hide
  pub no_old : (pk : List ℕ) → old_state_at p pk ≡ NoOld
      → ((new_state_at p pk ≡ NoNew) ⊎ ((new_state_at p pk ≡ AtUseNew) × (p.old.sealed ≡ true)))
      × ((rk : List ℕ) → rk ≢ marker_key → NoTomb (new_at p pk rk))
  -- a tag names one version of one row for ever: a condition that names it holds of that version alone
  pub tags : AreTags p.old_number p.old × AreTags p.new_number p.new × AreKept p p.old_number p.old × AreKept p p.new_number p.new
  -- a sealed new store could take no birth of a partition
  pub unsealed : p.new.sealed ≡ false
