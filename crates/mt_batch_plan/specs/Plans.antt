-- What a batch call prepares with its read, so that it answers a write without memory.
use Rattle.std.specs.Prelude.{◌≡◌, ℕ, Bool, true, false, List, [], map, length, Option, Some, None, option_map}
use Rattle.std.specs.List.{range_with_len, slice_index_or, slice_set}
use Rattle.std.specs.List.Sorted.{IsStrictlySortedBy, IsPermutation}
use Rattle.std.specs.Ordering.{nat_cmp, is_lt}
use Rattle.std.specs.Cmp.Lexicographic.{slice_cmp}
use Rattle.mt_model.specs.declared.tag.Tag.{Tag}
use Rattle.mt_model.specs.declared.value.Prop.{Prop}
use Rattle.mt_model.specs.Merge.{merged}
use Rattle.mt_chain.specs.declared.op.Cond.TheVariants.{Any}
use Rattle.mt_chain.specs.declared.op.Op.{Op}
use Rattle.mt_chain.specs.declared.op.Op.TheVariants.{Insert, Replace, Merge, Delete, InsertOrReplace, InsertOrMerge}
use Rattle.mt_chain.specs.declared.row.Stored.{Stored}
use Rattle.mt_chain.specs.Rows.{key_at}
use Rattle.mt_chain.specs.Table.{Table}
use Rattle.mt_chain.specs.Effect.{op_key, told_tag, any_tag}
use Rattle.mt_batch_plan.specs.declared.basis.Basis.{Basis}
use Rattle.mt_batch_plan.specs.declared.place.Place.{Place}
use Rattle.mt_batch_plan.specs.declared.place.Place.TheVariants.{ReadOld, ReadNew, Write}
use Rattle.mt_batch_plan.specs.Bases.{table_on, kept_props, kept_gone}

-- the one text is below the other
abbrev pub is_below : List ℕ → List ℕ → Bool
is_below a b = is_lt (slice_cmp nat_cmp a b)

-- ---- the puts

-- properties over those of a row, if there is one
abbrev pub merged_on : Option Stored → List Prop → List Prop
merged_on None over = over
merged_on (Some row) over = merged row.props over

-- the properties that an operation leaves where it is accepted; a delete leaves none
abbrev pub left_props : Op → Option Stored → Option (List Prop)
left_props (Insert key props) row = Some props
left_props (Replace key props cond) row = Some props
left_props (Merge key props cond) row = Some (merged_on row props)
left_props (Delete key cond) row = None
left_props (InsertOrReplace key props) row = Some props
left_props (InsertOrMerge key props) row = Some (merged_on row props)

-- the row of these properties, which has no tag yet
abbrev pub as_left : Option (List Prop) → Option Stored
as_left left = option_map (λ ps. record { props = ps; tag = any_tag }) left

-- what the store that is written keeps of them
abbrev pub kept_left : Basis → Option (List Prop) → Option (List Prop)
kept_left basis None = kept_gone basis
kept_left basis (Some ps) = Some (kept_props basis ps)

-- ---- the order of the operations

-- the operation at an index, and past the end a delete of the empty key
abbrev pub op_or : List Op → ℕ → Op
op_or ops i = slice_index_or ops i (Delete (key_at [] []) Any)

-- the operations at these indexes
abbrev pub picked : List Op → List ℕ → List Op
picked ops order = map (op_or ops) order

-- the indexes of all operations, in the order of the row keys
pub record IsOrder (ops : List Op) (order : List ℕ) : Type 0 where
  pub all : IsPermutation (range_with_len 0 (length ops)) order
  pub rising : IsStrictlySortedBy (slice_cmp nat_cmp) (map (λ op. (op_key op).rk) (picked ops order))

-- the operation deletes its row
abbrev pub is_delete : Op → Bool
is_delete (Delete key cond) = true
is_delete op = false

-- the tags with one filled in, but for a delete
abbrev pub filled : Bool → ℕ → Tag → List Tag → List Tag
filled true i tag tags = tags
filled false i tag tags = slice_set tags i tag

-- that order, and the tags that are answered so far: for a delete the tag that clients saw of its row
pub record IsPlan (ops : List Op) (table : Table) (order : List ℕ) (tags : List Tag) : Type 0 where
  pub in_order : IsOrder ops order
  pub told : tags ≡ map (λ op. told_tag op (table (op_key op)) any_tag) ops

-- at a write the answer is prepared on the rows that it stands on
abbrev pub IsPlanned : List Op → Place → List ℕ → List Tag → Type 0
IsPlanned ops ReadOld order tags = Unit {0}
IsPlanned ops (ReadNew after) order tags = Unit {0}
IsPlanned ops (Write basis) order tags = IsPlan ops (table_on basis) order tags
