-- The methods of requests, and those that each resource has.
use Rattle.std.specs.Prelude.{◌≡◌, ◌≢◌, ℕ, Bool, false, List, [], ◌∷◌, codes, bytes_eq, Option, Some, None}
use Rattle.std.specs.List.{list_any, join_by}
use Rattle.mt_target.specs.declared.target.Keys.TheVariants as keys
use Rattle.mt_target.specs.declared.target.Service.TheVariants as service
use Rattle.mt_target.specs.declared.target.Target.{Target}
use Rattle.mt_target.specs.declared.target.Target.TheVariants as target
use Rattle.mt_front.specs.declared.methods.Method.{Method}
use Rattle.mt_front.specs.declared.methods.Method.TheVariants.{Post, Put, Merge, Patch, Delete, Get}
use Rattle.mt_front.specs.declared.methods.Resource.{Resource}
use Rattle.mt_front.specs.declared.methods.Resource.TheVariants.{Table, Entities, Entity, Tables, Service}
use Rattle.mt_front.specs.declared.methods.Action.{Action}
use Rattle.mt_front.specs.declared.methods.Action.TheVariants as action

-- the name of a method
abbrev pub method_text : Method → List ℕ
method_text Post = codes "POST"
method_text Put = codes "PUT"
method_text Merge = codes "MERGE"
method_text Patch = codes "PATCH"
method_text Delete = codes "DELETE"
method_text Get = codes "GET"

-- the name is that of the method; none has another name
abbrev pub IsMethod : List ℕ → Option Method → Type 0
IsMethod name (Some m) = name ≡ method_text m
IsMethod name None = (m : Method) → name ≢ method_text m

-- what a target is of
abbrev pub resource_of : Target → Resource
resource_of (target.Table name keys.Absent) = Table
resource_of (target.Table name keys.Empty) = Entities
resource_of (target.Table name (keys.Entity pk rk)) = Entity
resource_of target.Tables = Tables
resource_of (target.Service s) = Service s

-- the methods that a resource has; the list of tables has none yet
abbrev pub allowed : Resource → List Method
allowed Table = Post ∷ Get ∷ []
allowed Entities = Get ∷ []
allowed Entity = Put ∷ Merge ∷ Patch ∷ Delete ∷ Get ∷ []
allowed Tables = []
allowed (Service service.Batch) = Post ∷ []
allowed (Service service.Migrate) = Post ∷ []
allowed (Service service.Clean) = Post ∷ []
allowed (Service service.Seal) = Post ∷ []
allowed (Service service.Status) = Get ∷ []

-- the method is one of them
abbrev pub allows : Resource → Option Method → Bool
allows r None = false
allows r (Some m) = list_any (λ n. bytes_eq (method_text n) (method_text m)) (allowed r)

-- their names, with a comma and a blank between them
abbrev pub allow_text : Resource → List ℕ
allow_text r = join_by method_text (codes ", ") (allowed r)

-- what a method does to an entity, where that is built
abbrev pub action_of : Method → Option Action
action_of Post = None
action_of Put = Some action.Put
action_of Merge = Some action.Merge
action_of Patch = Some action.Merge
action_of Delete = Some action.Delete
action_of Get = None
