-- What a batch is judged on and written over: rows of old, entries of new over them, entries of new alone, or none where the partition is born.
use Rattle.std.specs.Prelude.{◌≡◌, ℕ, Bool, true, false, List, [], ◌∷◌, map, Option, Some, None, option_map}
use Rattle.mt_model.specs.declared.value.Prop.{Prop}
use Rattle.mt_chain.specs.declared.op.Op.{Op}
use Rattle.mt_chain.specs.declared.row.Put.{Put}
use Rattle.mt_chain.specs.declared.row.Put.TheVariants as put
use Rattle.mt_chain.specs.declared.row.Stored.{Stored}
use Rattle.mt_chain.specs.declared.row.StoredRow.{StoredRow}
use Rattle.mt_chain.specs.declared.ask.Side.{Side}
use Rattle.mt_chain.specs.declared.ask.Side.TheVariants.{Old, New}
use Rattle.mt_chain.specs.Rows.{row_in}
use Rattle.mt_chain.specs.Table.{Table}
use Rattle.mt_chain.specs.Effect.{op_key, effect, left_by, any_tag}
use Rattle.mt_rules.specs.Batches.{partition_of}
use Rattle.mt_meta.specs.declared.mark.Mark.TheVariants.{Live, Tomb}
use Rattle.mt_meta.specs.declared.marker.Phase.{Phase}
use Rattle.mt_meta.specs.declared.marker.Phase.TheVariants.{UseOld, PreferOld, PreferNew}
use Rattle.mt_meta.specs.declared.marker.NewPhase.{NewPhase}
use Rattle.mt_meta.specs.declared.marker.NewPhase.TheVariants.{Filling, UseNew}
use Rattle.mt_meta.specs.declared.fact.Keys.TheVariants as keys
use Rattle.mt_meta.specs.declared.fact.Fact.{Fact}
use Rattle.mt_meta.specs.declared.fact.Fact.TheVariants as fact
use Rattle.mt_meta.specs.Markers.{marker_key, marker_props, old_kind, new_kind, old_phase_of, new_phase_of}
use Rattle.mt_meta.specs.Marks.{stored}
use Rattle.mt_meta.specs.Logical.{Shown, from_old, shown_over}
use Rattle.mt_meta.specs.Steps.{as_row, row_facts}
use Rattle.mt_meta.specs.ReadRows.{kept_in, marker_tag, closed_fact}
use Rattle.mt_batch_plan.specs.declared.basis.Basis.{Basis}
use Rattle.mt_batch_plan.specs.declared.basis.Basis.TheVariants.{OldRows, OldBirth, Overlay, NewRows, NewBirth}

-- ---- what clients see

-- what clients see where this is the row of the store that is written, and old has that row under it
abbrev pub shown_on : Basis → Option Stored → Option Stored → Option Shown
shown_on (OldRows rows) under row = from_old row
shown_on OldBirth under row = from_old row
shown_on (Overlay rows entries) under row = shown_over Filling under row
shown_on (NewRows entries) under row = shown_over UseNew under row
shown_on NewBirth under row = shown_over UseNew under row

-- the same as a row of a table
abbrev pub seen_on : Basis → Option Stored → Option Stored → Option Stored
seen_on basis under row = option_map as_row (shown_on basis under row)

-- the row of the store that is written, as it was read: the put at the key goes in its place
abbrev pub stored_in : Basis → List ℕ → Option Stored
stored_in (OldRows rows) rk = kept_in rows rk
stored_in OldBirth rk = None
stored_in (Overlay rows entries) rk = kept_in entries rk
stored_in (NewRows entries) rk = kept_in entries rk
stored_in NewBirth rk = None

-- old's row under an entry, as it was read
abbrev pub under_in : Basis → List ℕ → Option Stored
under_in (OldRows rows) rk = None
under_in OldBirth rk = None
under_in (Overlay rows entries) rk = kept_in rows rk
under_in (NewRows entries) rk = None
under_in NewBirth rk = None

-- the row that clients see by what was read
abbrev pub seen_by : Basis → List ℕ → Option Stored
seen_by basis rk = seen_on basis (under_in basis rk) (stored_in basis rk)

-- the table that a batch is judged on
abbrev pub table_on : Basis → Table
table_on basis key = seen_by basis key.rk

-- ---- what is written

-- the store
abbrev pub side_of : Basis → Side
side_of (OldRows rows) = Old
side_of OldBirth = Old
side_of (Overlay rows entries) = New
side_of (NewRows entries) = New
side_of NewBirth = New

-- what it keeps of the properties of a row that an operation leaves: in new a live row
abbrev pub kept_props : Basis → List Prop → List Prop
kept_props (OldRows rows) ps = ps
kept_props OldBirth ps = ps
kept_props (Overlay rows entries) ps = stored Live ps
kept_props (NewRows entries) ps = stored Live ps
kept_props NewBirth ps = stored Live ps

-- what it keeps of a row that goes: while new fills a tombstone, so that old's row does not show
abbrev pub kept_gone : Basis → Option (List Prop)
kept_gone (OldRows rows) = None
kept_gone OldBirth = None
kept_gone (Overlay rows entries) = Some (stored Tomb [])
kept_gone (NewRows entries) = None
kept_gone NewBirth = None

-- both; new rows have no tag yet
abbrev pub untagged : List Prop → Stored
untagged ps = record { props = ps; tag = any_tag }

abbrev pub kept_on : Basis → Option Stored → Option Stored
kept_on basis (Some row) = Some (untagged (kept_props basis row.props))
kept_on basis None = option_map untagged (kept_gone basis)

-- the put that leaves this where that row was read: an insert, or a replace or a delete by the row's stored tag
abbrev pub put_of : List ℕ → Option Stored → Option Stored → Put
put_of rk None (Some row) = put.Insert rk row.props
put_of rk (Some was) (Some row) = put.Replace rk row.props was.tag
put_of rk (Some was) None = put.Delete rk was.tag
-- an operation that is accepted where no row is writes one, so this put, which never holds, is never made
put_of rk None None = put.Delete rk any_tag

-- the put of an operation that is judged on this row: what its effect leaves goes in the place of the row that was read at its key
abbrev pub put_over : Basis → Op → Option Stored → Option Stored → Put
put_over basis op seen row = put_of (op_key op).rk row (kept_on basis (left_by (effect op seen any_tag) None))

abbrev pub put_by : Basis → Op → Put
put_by basis op = put_over basis op (seen_by basis (op_key op).rk) (stored_in basis (op_key op).rk)

-- the marker's put where it is there, and where the partition is born
abbrev pub marker_check : List StoredRow → Put
marker_check rows = put.Check marker_key (marker_tag rows)

abbrev pub marker_birth : Put
marker_birth = put.Insert marker_key (marker_props (old_kind UseOld))

abbrev pub marker_birth_new : Put
marker_birth_new = put.Insert marker_key (marker_props (new_kind UseNew))

abbrev pub marker_put : Basis → Put
marker_put (OldRows rows) = marker_check rows
marker_put OldBirth = marker_birth
marker_put (Overlay rows entries) = marker_check entries
marker_put (NewRows entries) = marker_check entries
marker_put NewBirth = marker_birth_new

-- ---- the marker that was read

-- clients write old under these markers alone
abbrev pub is_write_phase : Option Phase → Bool
is_write_phase (Some UseOld) = true
is_write_phase (Some PreferOld) = true
is_write_phase (Some PreferNew) = false
is_write_phase None = false

abbrev pub is_write_marker : Option StoredRow → Bool
is_write_marker None = false
is_write_marker (Some m) = is_write_phase (old_phase_of m.tag.store m.props)

-- what the marker in new says, if it is there
abbrev pub phase_in : Option StoredRow → Option NewPhase
phase_in None = None
phase_in (Some m) = new_phase_of m.props

-- a write is made under the marker that lets clients make it
abbrev pub IsMarked : Basis → Type 0
IsMarked (OldRows rows) = is_write_marker (row_in rows marker_key) ≡ true
IsMarked OldBirth = Unit {0}
IsMarked (Overlay rows entries) = phase_in (row_in entries marker_key) ≡ Some Filling
IsMarked (NewRows entries) = phase_in (row_in entries marker_key) ≡ Some UseNew
IsMarked NewBirth = Unit {0}

-- ---- what a call knows

-- the row keys that the operations name
abbrev pub row_keys : List Op → List (List ℕ)
row_keys ops = map (λ op. (op_key op).rk) ops

-- once old was turned: while new fills, old's rows at the operations' keys stay those that were read
abbrev pub turned_fact : List Op → List StoredRow → Fact
turned_fact ops rows = fact.Turned (partition_of ops) (keys.Named (row_keys ops)) rows

-- at a write: the properties of the rows read with their tags; that old was turned, or sealed
abbrev pub basis_facts : List Op → Basis → List Fact
basis_facts ops (OldRows rows) = row_facts Old (partition_of ops) rows
basis_facts ops OldBirth = []
basis_facts ops (Overlay rows entries) = turned_fact ops rows ∷ row_facts New (partition_of ops) entries
basis_facts ops (NewRows entries) = row_facts New (partition_of ops) entries
basis_facts ops NewBirth = closed_fact (partition_of ops) ∷ []
