-- When a filter matches a key and properties.
use Rattle.std.specs.Prelude.{Bool, not, ◌&&◌, ◌||◌, List, filter, Option, Some, None}
use Rattle.std.specs.Option.{option_and_then}
use Rattle.std.specs.Ordering.{nat_cmp, int_cmp, bool_cmp, is_some_and, is_eq, is_ne, is_gt, is_ge, is_lt, is_le}
use Rattle.std.specs.declared.cmp.Ordering.{Ordering}
use Rattle.std.specs.Cmp.Lexicographic.{slice_cmp}
use Rattle.mt_model.specs.declared.key.Key.{Key}
use Rattle.mt_model.specs.declared.value.Prop.{Prop}
use Rattle.mt_model.specs.declared.value.Value.{Value}
use Rattle.mt_model.specs.declared.value.Value.TheVariants.{Str, Binary, Bool as Boolean, Int32, Int64, Guid, Moment}
use Rattle.mt_model.specs.Props.{is_visible, value_at}
use Rattle.mt_filter.specs.declared.filter.Compare.{Compare}
use Rattle.mt_filter.specs.declared.filter.Compare.TheVariants.{Eq, Ne, Gt, Ge, Lt, Le}
use Rattle.mt_filter.specs.declared.filter.Field.{Field}
use Rattle.mt_filter.specs.declared.filter.Field.TheVariants.{PartitionKey, RowKey, Property}
use Rattle.mt_filter.specs.Tree.{Tree, test, not as negation, and, or}

-- the order of two values of one type, where Int32 and Int64 are one, and none of values of two types
abbrev pub compared : Value → Value → Option Ordering
compared (Str a) (Str b) = Some (slice_cmp nat_cmp a b)
compared (Binary a) (Binary b) = Some (slice_cmp nat_cmp a b)
compared (Guid a) (Guid b) = Some (slice_cmp nat_cmp a b)
compared (Boolean a) (Boolean b) = Some (bool_cmp a b)
compared (Int32 a) (Int32 b) = Some (int_cmp a b)
compared (Int32 a) (Int64 b) = Some (int_cmp a b)
compared (Int64 a) (Int32 b) = Some (int_cmp a b)
compared (Int64 a) (Int64 b) = Some (int_cmp a b)
compared (Moment a) (Moment b) = Some (int_cmp a b)
compared _ _ = None

-- the comparison holds of values in this order
abbrev pub holds : Compare → Ordering → Bool
holds Eq order = is_eq order
holds Ne order = is_ne order
holds Gt order = is_gt order
holds Ge order = is_ge order
holds Lt order = is_lt order
holds Le order = is_le order

-- the value of a field: the text of a key's part, or the value of a visible property of that name
abbrev pub field_value : Field → Key → List Prop → Option Value
field_value PartitionKey key props = Some (Str key.pk)
field_value RowKey key props = Some (Str key.rk)
field_value (Property name) key props = value_at (filter is_visible props) name

-- a test holds where its field has a value of the literal's type and the comparison holds of the two
abbrev pub passes : Field → Compare → Value → Key → List Prop → Bool
passes field compare literal key props =
    is_some_and (holds compare) (option_and_then (λ value. compared value literal) (field_value field key props))

-- the filter matches the key and the properties
abbrev pub matches : Tree → Key → List Prop → Bool
matches (test field compare literal) key props = passes field compare literal key props
matches (negation t) key props = not (matches t key props)
matches (and t u) key props = matches t key props && matches u key props
matches (or t u) key props = matches t key props || matches u key props
