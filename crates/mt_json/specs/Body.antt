-- What a body gives, stage by stage in the order of its faults.
use Rattle.std.specs.Prelude.{◌≡◌, ◌⊎◌, ℕ, Bool, true, false, nat_eq, ◌&&◌, ◌||◌, List, [], ◌++◌, codes, bytes_eq, Option, None, Some, is_some, option_map, option_and_then, option_to_list, unwrap_or, MatchOption, MatchResult, IsOkAnd, IsPermutation, IsUtf8, if◌then◌else◌}
use Rattle.std.specs.List.{starts_with, ends_with}
use Rattle.std.specs.Option.{option_or}
use Rattle.std.specs.declared.result.Result.{Result}
use Rattle.std.specs.declared.result.Result.TheVariants.{Ok, Err}
use Rattle.serde_json.specs.Data.{Data, Members, no_members, member}
use Rattle.serde_json.specs.Find.{get, as_null, as_str, as_object}
use Rattle.serde_json.specs.Read.{read}
use Rattle.mt_model.specs.declared.key.KeyPart.{KeyPart}
use Rattle.mt_model.specs.declared.key.KeyPart.TheVariants.{Partition, Row}
use Rattle.mt_model.specs.declared.value.Prop.{Prop}
use Rattle.mt_model.specs.declared.props.PropsFault.TheVariants.{DuplicateName}
use Rattle.mt_model.specs.Name.{is_plain_name}
use Rattle.mt_model.specs.Props.{IsProps, props_fault}
use Rattle.mt_json.specs.declared.kind.Kind.{Kind}
use Rattle.mt_json.specs.declared.read.KeyUse.{KeyUse}
use Rattle.mt_json.specs.declared.read.KeyUse.TheVariants.{InBody, InTarget}
use Rattle.mt_json.specs.declared.read.Body.{Body}
use Rattle.mt_json.specs.declared.read.JsonFault.{JsonFault}
use Rattle.mt_json.specs.declared.read.JsonFault.TheVariants.{Syntax, NotObject, MissingKey, Double, BadName, BadType, Props}
use Rattle.mt_json.specs.Kind.{kind_in, is_double}
use Rattle.mt_json.specs.Value.{IsValue, HasNoValue}

-- the bytes are UTF-8, and `serde_json` reads them as d
abbrev pub Reads : List ℕ → Data → Type 0
Reads bytes d = IsUtf8 bytes × (read bytes ≡ Some d)

-- `serde_json` has no reading of the bytes
abbrev pub HasNoReading : List ℕ → Type 0
HasNoReading bytes = (d : Data) → Reads bytes d → ⊥

-- the name of the key that holds the part
abbrev pub key_name : KeyPart → List ℕ
key_name Partition = codes "PartitionKey"
key_name Row = codes "RowKey"

-- PartitionKey or RowKey
abbrev pub is_key : List ℕ → Bool
is_key name = bytes_eq name (key_name Partition) || bytes_eq name (key_name Row)

-- the keys stand in the target, and not in the body
abbrev pub is_in_target : KeyUse → Bool
is_in_target InBody = false
is_in_target InTarget = true

-- type keys, keys that begin with `odata.`, and Timestamp
abbrev pub is_ignored : List ℕ → Bool
is_ignored name =
    ends_with nat_eq name (codes "@odata.type") || starts_with nat_eq name (codes "odata.") || bytes_eq name (codes "Timestamp")

-- null
abbrev pub is_null : Data → Bool
is_null d = is_some (as_null d)

-- a member without a property or a fault: a null, an ignored one, or a key that is a text or is not asked for
abbrev pub gives_nothing : KeyUse → List ℕ → Data → Bool
gives_nothing keys name d = is_null d || is_ignored name || (is_key name && (is_in_target keys || is_some (as_str d)))

-- the fault of any other member before its value is looked at
abbrev pub early_fault : Kind → List ℕ → Data → Option JsonFault
early_fault kind name d =
    if is_key name then Some (BadType name)
    else if is_double kind d then Some (Double name)
    else if is_plain_name name then None
    else Some (BadName name)

-- what one member gives: nothing, a property, or a fault
abbrev pub Gives : KeyUse → Kind → List ℕ → Data → Result (Option Prop) JsonFault → Type 0
Gives keys kind name d (Ok None) = gives_nothing keys name d ≡ true
Gives keys kind name d (Ok (Some p)) =
    (gives_nothing keys name d ≡ false) × (early_fault kind name d ≡ None) × (p.name ≡ name) × IsValue kind d p.value
Gives keys kind name d (Err f) =
    (gives_nothing keys name d ≡ false) × MatchOption (early_fault kind name d) (HasNoValue kind d × (f ≡ BadType name)) (λ g. f ≡ g)

-- what a member with a property's name gives: the property, or the fault of its name or its value
abbrev pub IsTypedAs : Kind → List ℕ → Data → Result Prop JsonFault → Type 0
IsTypedAs kind name d (Ok p) = (is_plain_name name ≡ true) × (p.name ≡ name) × IsValue kind d p.value
IsTypedAs kind name d (Err f) =
    ((is_plain_name name ≡ false) × (f ≡ BadName name)) ⊎ ((is_plain_name name ≡ true) × HasNoValue kind d × (f ≡ BadType name))

-- what the members of the object give after the properties ps: more properties in their order, or the first fault
abbrev pub AllGive : KeyUse → Data → List Prop → Members → Result (List Prop) JsonFault → Type 0
AllGive keys top ps no_members r = r ≡ Ok ps
AllGive keys top ps (member name d ms) r =
    (given : Result (Option Prop) JsonFault) × Gives keys (kind_in top name) name d given
    × MatchResult given (λ p. AllGive keys top (ps ++ option_to_list p) ms r) (λ f. r ≡ Err f)

-- the part, where its key is absent or null
abbrev pub missing_part : Data → KeyPart → Option KeyPart
missing_part top part = if unwrap_or (option_map is_null (get (key_name part) top)) true then Some part else None

-- the first part that the body has to have and has not
abbrev pub missing_key : KeyUse → Data → Option KeyPart
missing_key InTarget top = None
missing_key InBody top = option_or (missing_part top Partition) (missing_part top Row)

-- the text of a key that stands in the body
abbrev pub key_text : KeyUse → Data → KeyPart → Option (List ℕ)
key_text InTarget top part = None
key_text InBody top part = option_and_then as_str (get (key_name part) top)

-- the keys of the object, and the properties ps in the order of their names
pub record IsBody (keys : KeyUse) (top : Data) (ps : List Prop) (body : Body) : Type 0 where
  pub pk : body.pk ≡ key_text keys top Partition
  pub rk : body.rk ≡ key_text keys top Row
  pub same : IsPermutation ps body.props
  pub kept : IsProps body.props

-- the properties ps make the body, or have a fault together
abbrev pub Builds : KeyUse → Data → List Prop → Result Body JsonFault → Type 0
Builds keys top ps r = MatchOption (props_fault ps) (IsOkAnd r (IsBody keys top ps)) (λ f. r ≡ Err (Props f))

-- what the members of an object that lacks no key give
abbrev pub MembersGive : KeyUse → Data → Members → Result Body JsonFault → Type 0
MembersGive keys top ms r =
    (given : Result (List Prop) JsonFault) × AllGive keys top [] ms given × MatchResult given (λ ps. Builds keys top ps r) (λ f. r ≡ Err f)

-- what a reading gives: NotObject, then MissingKey, then what its members give
abbrev pub GivesBody : KeyUse → Data → Result Body JsonFault → Type 0
GivesBody keys d r =
    MatchOption (as_object d) (r ≡ Err NotObject)
    (λ ms. MatchOption (missing_key keys d) (MembersGive keys d ms r) (λ part. r ≡ Err (MissingKey part)))

-- the fault of a repeated name
abbrev pub is_repeat : JsonFault → Bool
is_repeat (Props (DuplicateName at)) = true
is_repeat _ = false

-- what the bytes give
abbrev pub ReadsAs : KeyUse → List ℕ → Result Body JsonFault → Type 0
ReadsAs keys bytes r = (HasNoReading bytes × (r ≡ Err Syntax)) ⊎ ((d : Data) × Reads bytes d × GivesBody keys d r)
