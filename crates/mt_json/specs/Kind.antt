-- What type a property has, by its type key.
use Rattle.std.specs.Prelude.{ℕ, Bool, true, false, ◌||◌, List, ◌++◌, codes, bytes_eq, Option, None, Some, option_map, unwrap_or, if◌then◌else◌}
use Rattle.serde_json.specs.Data.{Data}
use Rattle.serde_json.specs.Find.{get, as_str, as_number, is_float}
use Rattle.mt_json.specs.declared.kind.Kind.{Kind}
use Rattle.mt_json.specs.declared.kind.Kind.TheVariants.{Untyped, String, Boolean, Int32, Int64, Guid, DateTime, Binary, Double, Unknown}

-- the type that has the name
abbrev pub kind_named : List ℕ → Kind
kind_named name =
    if bytes_eq name (codes "Edm.String") then String
    else if bytes_eq name (codes "Edm.Boolean") then Boolean
    else if bytes_eq name (codes "Edm.Int32") then Int32
    else if bytes_eq name (codes "Edm.Int64") then Int64
    else if bytes_eq name (codes "Edm.Guid") then Guid
    else if bytes_eq name (codes "Edm.DateTime") then DateTime
    else if bytes_eq name (codes "Edm.Binary") then Binary
    else if bytes_eq name (codes "Edm.Double") then Double
    else Unknown

-- the type that the value of a type key names, where there is one
abbrev pub kind_of : Option Data → Kind
kind_of None = Untyped
kind_of (Some d) = unwrap_or (option_map kind_named (as_str d)) Unknown

-- the name of the key that gives a property's type
abbrev pub type_key : List ℕ → List ℕ
type_key name = name ++ codes "@odata.type"

-- the type of the property of that name in an top
abbrev pub kind_in : Data → List ℕ → Kind
kind_in top name = kind_of (get (type_key name) top)

-- Edm.Double by name
abbrev pub is_double_kind : Kind → Bool
is_double_kind Double = true
is_double_kind _ = false

-- Edm.Double by name, or a number that is no whole number of 64 bits
abbrev pub is_double : Kind → Data → Bool
is_double kind d = is_double_kind kind || unwrap_or (option_map is_float (as_number d)) false
