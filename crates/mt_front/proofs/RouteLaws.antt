-- Routes: what is built has one, and so has what is not refused.
use Rattle.std.proofs.Common.{◌≡◌, ◌∙◌, ℕ, Bool, true, false, not, ◌&&◌, List, [], ◌∷◌, Option, Some, None, refl, sym, ap}
use Rattle.std.specs.Prelude.{◌||◌, codes}
use Rattle.std.specs.Option.{is_some}
use Rattle.mt_target.specs.declared.target.Keys.TheVariants as keys
use Rattle.mt_target.specs.declared.target.Target.{Target}
use Rattle.mt_target.specs.declared.target.Target.TheVariants as target
use Rattle.mt_front.specs.declared.methods.Method.{Method}
use Rattle.mt_front.specs.declared.methods.Method.TheVariants.{Post, Put, Merge, Patch, Delete, Get}
use Rattle.mt_target.specs.declared.target.Spelled.{Spelled}
use Rattle.mt_target.specs.Options.{has_option, has_repeat}
use Rattle.mt_front.specs.declared.methods.Resource.{Resource}
use Rattle.mt_front.specs.declared.refusals.BadRequest.{BadRequest}
use Rattle.mt_front.specs.declared.refusals.BadRequest.TheVariants.{NotImplemented, TableNotFound, MethodNotAllowed, InvalidQuery}
use Rattle.mt_front.specs.Methods.{resource_of, allows}
use Rattle.mt_front.specs.Routes.{route_by, is_built, when, first_of, is_list_of_tables, has_unknown, is_unsupported, names_another, route_refusal}

-- so whether a table is read at one time or by pages
pub built_as : (atomic : Bool) (t : Target) (m : Option Method) → is_some (route_by atomic t m) ≡ is_built t m
built_as false t m = refl
built_as true (target.Service s) m = refl
built_as true (target.Table name k) None = refl
built_as true target.Tables None = refl
built_as true (target.Table name k) (Some Put) = refl
built_as true target.Tables (Some Put) = refl
built_as true (target.Table name k) (Some Merge) = refl
built_as true target.Tables (Some Merge) = refl
built_as true (target.Table name k) (Some Patch) = refl
built_as true target.Tables (Some Patch) = refl
built_as true (target.Table name k) (Some Delete) = refl
built_as true target.Tables (Some Delete) = refl
built_as true (target.Table name keys.Absent) (Some Get) = refl
built_as true (target.Table name keys.Empty) (Some Get) = refl
built_as true (target.Table name (keys.Entity pk rk)) (Some Get) = refl
built_as true target.Tables (Some Get) = refl
built_as true (target.Table name k) (Some Post) = refl
built_as true target.Tables (Some Post) = refl

-- ---- what is not refused

no_refusal : (unsupported another barred twice : Bool) (r : Resource) → first_of (when unsupported NotImplemented ∷ when another TableNotFound ∷ when barred (MethodNotAllowed r) ∷ when twice InvalidQuery ∷ []) ≡ None → (unsupported ≡ false) × (barred ≡ false)
no_refusal true another barred twice r h = absurd cc
no_refusal false true barred twice r h = absurd cc
no_refusal false false true twice r h = absurd cc
no_refusal false false false twice r h = (refl, refl)

-- of all these tests none holds, so a method that is allowed is built
none_holds : (tables comp restype unknown allowed built : Bool) → (tables || comp || restype || unknown || (allowed && not built)) ≡ false → not allowed ≡ false → built ≡ false → ⊥
none_holds true comp restype unknown allowed built h a b = (let x : true ≡ false = h in cc)
none_holds false true restype unknown allowed built h a b = (let x : true ≡ false = h in cc)
none_holds false false true unknown allowed built h a b = (let x : true ≡ false = h in cc)
none_holds false false false true allowed built h a b = (let x : true ≡ false = h in cc)
none_holds false false false false false built h a b = (let x : true ≡ false = a in cc)
none_holds false false false false true true h a b = (let x : true ≡ false = b in cc)
none_holds false false false false true false h a b = (let x : true ≡ false = h in cc)

pub none_of : (o : Option BadRequest) → ((r : BadRequest) → o ≡ Some r → ⊥) → o ≡ None
none_of None h = refl
none_of (Some r) h = absurd (h r refl)

-- what the route does not refuse has a route
pub routed : (atomic : Bool) (table : List ℕ) (s : Spelled) (m : Option Method) → route_refusal table s m ≡ None → route_by atomic s.target m ≡ None → ⊥
routed atomic table s m none lacks =
    let held = no_refusal (is_unsupported s m) (names_another table s.target) (not (allows (resource_of s.target) m)) (has_repeat s.options) (resource_of s.target) none in
    none_holds (is_list_of_tables s.target) (has_option (codes "comp") s.options) (has_option (codes "restype") s.options) (has_unknown s.target m s.options) (allows (resource_of s.target) m) (is_built s.target m)
    held.0 held.1 (sym (built_as atomic s.target m) ∙ ap is_some lacks)
