-- What is written for an entity: the JSON that `serde_json` prints compactly.
use Rattle.std.specs.Prelude.{◌≡◌, ◌⊎◌, ℕ, Bool, true, false, ◌&&◌, List, [], ◌∷◌, codes, bytes_eq, filter, Option, None, Some, option_map, IsOkAnd, IsUtf8, if◌then◌else◌, ⊤}
use Rattle.std.specs.List.{list_any}
use Rattle.std.specs.Fmt.{signed_decimal}
use Rattle.std.specs.declared.result.Result.{Result}
use Rattle.base64.specs.Engines.{standard}
use Rattle.base64.specs.GeneralPurpose.{encode_of}
use Rattle.uuid.specs.Text.{hyphenated_text, lower}
use Rattle.serde_json.specs.Data.{Data, boolean, number, string, object, Members, no_members, put}
use Rattle.serde_json.specs.Find.{of_integer}
use Rattle.serde_json.specs.Written.{compact_text}
use Rattle.mt_model.specs.declared.entity.Entity.{Entity}
use Rattle.mt_model.specs.declared.key.Key.{Key}
use Rattle.mt_model.specs.declared.value.Prop.{Prop}
use Rattle.mt_model.specs.declared.value.Value.{Value}
use Rattle.mt_model.specs.declared.value.Value.TheVariants.{Str, Binary, Bool as Boolean, Int32, Int64, Guid, Moment}
use Rattle.mt_model.specs.Name.{is_name}
use Rattle.mt_model.specs.Props.{is_visible}
use Rattle.mt_model.specs.Tag.{tag_text}
use Rattle.mt_time.specs.Moment.{HasTicksInFull}
use Rattle.mt_json.specs.declared.write.Level.{Level}
use Rattle.mt_json.specs.declared.write.Level.TheVariants as level
use Rattle.mt_json.specs.Kind.{kind_of, type_key}
use Rattle.mt_json.specs.Value.{IsValue}
use Rattle.mt_json.specs.declared.read.Body.{Body}
use Rattle.mt_json.specs.declared.read.JsonFault.{JsonFault}
use Rattle.mt_json.specs.declared.read.KeyUse.{KeyUse}
use Rattle.mt_json.specs.declared.read.KeyUse.TheVariants.{InBody, InTarget}
use Rattle.mt_json.specs.Body.{Reads, ReadsAs}

-- the name of a type that the value alone does not show
abbrev pub type_name : Value → Option (List ℕ)
type_name (Str text) = None
type_name (Boolean b) = None
type_name (Int32 z) = None
type_name (Binary bytes) = Some (codes "Edm.Binary")
type_name (Int64 z) = Some (codes "Edm.Int64")
type_name (Guid bytes) = Some (codes "Edm.Guid")
type_name (Moment ticks) = Some (codes "Edm.DateTime")

-- d is written for the value
abbrev pub Shows : Value → Data → Type 0
Shows (Str text) d = d ≡ string text
Shows (Boolean b) d = d ≡ boolean b
Shows (Int32 z) d = d ≡ number (of_integer z)
Shows (Binary bytes) d = d ≡ string (encode_of standard bytes)
Shows (Int64 z) d = d ≡ string (signed_decimal z)
Shows (Guid bytes) d = d ≡ string (hyphenated_text lower bytes)
Shows (Moment ticks) d = (text : List ℕ) × (d ≡ string text) × HasTicksInFull text ticks

-- d, beside the value's own type key, is read as the value
abbrev pub IsReadBack : Value → Data → Type 0
IsReadBack v d = IsValue (kind_of (option_map string (type_name v))) d v

-- no names were chosen, or the name is among them
abbrev pub is_chosen : Option (List (List ℕ)) → List ℕ → Bool
is_chosen None name = true
is_chosen (Some names) name = list_any (bytes_eq name) names

-- clients see the property, and it is chosen
abbrev pub is_shown : Option (List (List ℕ)) → Prop → Bool
is_shown chosen p = is_visible p && is_chosen chosen p.name

-- the members with one more, where it is chosen
abbrev pub put_chosen : Option (List (List ℕ)) → List ℕ → List ℕ → Members → Members
put_chosen chosen name text ms = if is_chosen chosen name then put name (string text) ms else ms

-- the members with the type key of a property, at the level that has type keys and where its value needs one
abbrev pub put_type : Level → List ℕ → Option (List ℕ) → Members → Members
put_type level.None name type ms = ms
put_type level.Minimal name None ms = ms
put_type level.Minimal name (Some type) ms = put (type_key name) (string type) ms

-- the members with the version's tag, at the level that has it
abbrev pub put_etag : Level → List ℕ → Members → Members
put_etag level.None tag ms = ms
put_etag level.Minimal tag ms = put (codes "odata.etag") (string tag) ms

-- a property that is shown adds its member, which beside its type key is read as its value, and its type key; any other adds nothing
abbrev pub AddsProp : Level → Option (List (List ℕ)) → Prop → Members → Members → Type 0
AddsProp level chosen p old new =
    ((is_shown chosen p ≡ false) × (new ≡ old))
    ⊎ ((is_shown chosen p ≡ true) × ((d : Data) × Shows p.value d × IsReadBack p.value d × (new ≡ put_type level p.name (type_name p.value) (put p.name d old))))

-- the properties add theirs one after the other
abbrev pub AddProps : Level → Option (List (List ℕ)) → List Prop → Members → Members → Type 0
AddProps level chosen [] old new = new ≡ old
AddProps level chosen (p ∷ ps) old new =
    (between : Members) × AddsProp level chosen p old between × AddProps level chosen ps between new

-- the members with the keys that are chosen
abbrev pub put_keys : Option (List (List ℕ)) → Key → Members → Members
put_keys chosen key ms = put_chosen chosen (codes "RowKey") key.rk (put_chosen chosen (codes "PartitionKey") key.pk ms)

-- the keys that are chosen, and the tag
abbrev pub put_system : Level → Option (List (List ℕ)) → Entity → Members → Members
put_system level chosen e ms = put_etag level (tag_text e.tag) (put_keys chosen e.key ms)

-- the members without the tag
abbrev pub IsShown : Key → List Prop → Level → Option (List (List ℕ)) → Members → Type 0
IsShown key props level chosen ms = (shown : Members) × AddProps level chosen props no_members shown × (ms ≡ put_keys chosen key shown)

-- d is the entity's object
abbrev pub IsObjectOf : Entity → Level → Option (List (List ℕ)) → Data → Type 0
IsObjectOf e level chosen d =
    (ms : Members) × AddProps level chosen e.props no_members ms × (d ≡ object (put_system level chosen e ms))

-- the text is the entity's object without blanks, its members in byte order of their names
abbrev pub IsWritten : Entity → Level → Option (List (List ℕ)) → List ℕ → Type 0
IsWritten e level chosen text = (d : Data) × IsObjectOf e level chosen d × (text ≡ compact_text d)

-- the text is read as the entity's object
abbrev pub IsReadAs : Entity → Level → Option (List (List ℕ)) → List ℕ → Type 0
IsReadAs e level chosen text = (d : Data) × IsObjectOf e level chosen d × Reads text d

-- the name is UTF-8, and a name of a property
abbrev pub IsNamed : Prop → Type 0
IsNamed p = IsUtf8 p.name × (is_name p.name ≡ true)

-- each property has a name
abbrev pub AreNamed : List Prop → Type 0
AreNamed [] = ⊤
AreNamed (p ∷ ps) = IsNamed p × AreNamed ps

-- the text of a key, where the body is to have it
abbrev pub own_key : KeyUse → List ℕ → Option (List ℕ)
own_key InBody text = Some text
own_key InTarget text = None

-- the body has the entity's keys, unless they stand in the target, and its visible properties, and no others
pub record IsBodyOf (keys : KeyUse) (e : Entity) (body : Body) : Type 0 where
  pub pk : body.pk ≡ own_key keys e.key.pk
  pub rk : body.rk ≡ own_key keys e.key.rk
  pub props : body.props ≡ filter is_visible e.props

-- whatever reading the text as a body gives, it is the entity's keys and visible properties
abbrev pub ReadsBack : Entity → List ℕ → Type 0
ReadsBack e text = (keys : KeyUse) (r : Result Body JsonFault) → ReadsAs keys text r → IsOkAnd r (IsBodyOf keys e)

-- with type keys, and where no names were chosen, the text reads back as the entity
abbrev pub IsRoundTrip : Entity → Level → Option (List (List ℕ)) → List ℕ → Type 0
IsRoundTrip e depth chosen text = depth ≡ level.Minimal → chosen ≡ None → ReadsBack e text
