-- What one operation does to the row at its key.
use Rattle.std.specs.Prelude.{Bool, true, List, [], Option, Some, None, option_map, Result, Ok, Err, if◌then◌else◌}
use Rattle.std.specs.Option.{option_or}
use Rattle.std.specs.Result.{result_err}
use Rattle.mt_model.specs.declared.key.Key.{Key}
use Rattle.mt_model.specs.declared.tag.Tag.{Tag}
use Rattle.mt_model.specs.declared.value.Prop.{Prop}
use Rattle.mt_model.specs.Merge.{merged}
use Rattle.mt_model.specs.Props.{count_fault, size_fault}
use Rattle.mt_chain.specs.declared.row.Stored.{Stored}
use Rattle.mt_chain.specs.declared.op.Cond.{Cond}
use Rattle.mt_chain.specs.declared.op.Cond.TheVariants.{Any, Is}
use Rattle.mt_chain.specs.declared.op.Op.{Op}
use Rattle.mt_chain.specs.declared.op.Op.TheVariants.{Insert, Replace, Merge, Delete, InsertOrReplace, InsertOrMerge}
use Rattle.mt_chain.specs.declared.op.Cause.{Cause}
use Rattle.mt_chain.specs.declared.op.Cause.TheVariants.{Exists, NotFound, ConditionFailed, TooManyProperties, EntityTooLarge}
use Rattle.mt_chain.specs.Puts.{is_same_tag}

-- the key of the row that an operation names
abbrev pub op_key : Op → Key
op_key (Insert key props) = key
op_key (Replace key props cond) = key
op_key (Merge key props cond) = key
op_key (Delete key cond) = key
op_key (InsertOrReplace key props) = key
op_key (InsertOrMerge key props) = key

-- the properties that an operation brings; a delete brings none
abbrev pub op_props : Op → List Prop
op_props (Insert key props) = props
op_props (Replace key props cond) = props
op_props (Merge key props cond) = props
op_props (Delete key cond) = []
op_props (InsertOrReplace key props) = props
op_props (InsertOrMerge key props) = props

-- a row of that tag meets the condition
abbrev pub meets : Cond → Tag → Bool
meets Any tag = true
meets (Is wanted) tag = is_same_tag wanted tag

-- what comes of an operation: the row afterwards or that there is none, or the cause of its refusal
abbrev pub Outcome : Type 0
Outcome = Result (Option Stored) Cause

-- the row has these properties and that tag
abbrev pub writes : List Prop → Tag → Outcome
writes props tag = Ok (Some (record { props = props; tag = tag }))

-- too many visible properties, or else too many bytes of them
abbrev pub limits_cause : List Prop → Option Cause
limits_cause props = option_or (option_map (λ fault. TooManyProperties) (count_fault props)) (option_map (λ fault. EntityTooLarge) (size_fault props))

abbrev pub unless_refused : Option Cause → Outcome → Outcome
unless_refused None outcome = outcome
unless_refused (Some cause) outcome = Err cause

-- the row has these properties over its own, unless they pass a limit together
abbrev pub merges : List Prop → List Prop → Tag → Outcome
merges own over tag = unless_refused (limits_cause (merged own over)) (writes (merged own over) tag)

-- the outcome where the row meets the condition
abbrev pub if_met : Cond → Stored → Outcome → Outcome
if_met cond row outcome = if meets cond row.tag then outcome else Err ConditionFailed

-- what comes of an operation on no row or on a row, where `tag` is the tag of what it writes
abbrev pub effect : Op → Option Stored → Tag → Outcome
effect (Insert key props) None tag = writes props tag
effect (Insert key props) (Some row) tag = Err Exists
effect (Replace key props cond) None tag = Err NotFound
effect (Replace key props cond) (Some row) tag = if_met cond row (writes props tag)
effect (Merge key props cond) None tag = Err NotFound
effect (Merge key props cond) (Some row) tag = if_met cond row (merges row.props props tag)
effect (Delete key cond) None tag = Err NotFound
effect (Delete key cond) (Some row) tag = if_met cond row (Ok None)
effect (InsertOrReplace key props) None tag = writes props tag
effect (InsertOrReplace key props) (Some row) tag = writes props tag
effect (InsertOrMerge key props) None tag = writes props tag
effect (InsertOrMerge key props) (Some row) tag = merges row.props props tag

-- some tag, where it makes no difference which
abbrev pub any_tag : Tag
any_tag = record { store = 0; n = 0 }

-- why an operation is refused on a row; the tag that it would write has no part in it
abbrev pub cause_on : Op → Option Stored → Option Cause
cause_on op row = result_err (effect op row any_tag)

-- the row that an outcome leaves; a refusal leaves what was there
abbrev pub left_by : Outcome → Option Stored → Option Stored
left_by (Ok row) before = row
left_by (Err cause) before = before

-- the tag that a client is told: of the row that is written, or of the row that went
abbrev pub told_tag : Op → Option Stored → Tag → Tag
told_tag (Delete key cond) (Some row) tag = row.tag
told_tag op row tag = tag
