-- The refusals that come of a target and a method, in their order, and the routes that are built.
use Rattle.std.specs.Prelude.{ℕ, nat_eq, Bool, true, false, not, ◌&&◌, ◌||◌, List, [], ◌∷◌, codes, bytes_eq, Option, Some, None, option_map, if◌then◌else◌}
use Rattle.std.specs.List.{list_any, starts_with}
use Rattle.std.specs.Option.{is_some}
use Rattle.mt_model.specs.TableName.{is_same_table}
use Rattle.mt_target.specs.declared.target.Keys.TheVariants as keys
use Rattle.mt_target.specs.declared.target.Service.{Service}
use Rattle.mt_target.specs.declared.target.Service.TheVariants as service
use Rattle.mt_target.specs.declared.target.Target.{Target}
use Rattle.mt_target.specs.declared.target.Target.TheVariants as target
use Rattle.mt_target.specs.declared.target.QueryOption.{QueryOption}
use Rattle.mt_target.specs.declared.target.Spelled.{Spelled}
use Rattle.mt_target.specs.Targets.{SpellsIt}
use Rattle.mt_target.specs.Options.{has_option, has_repeat}
use Rattle.mt_front.specs.declared.methods.Method.{Method}
use Rattle.mt_front.specs.declared.methods.Method.TheVariants.{Post, Get}
use Rattle.mt_front.specs.declared.services.Machine.TheVariants.{Migrator, Cleaner}
use Rattle.mt_front.specs.declared.routes.RowWrite.{RowWrite}
use Rattle.mt_front.specs.declared.routes.RowWrite.TheVariants as row
use Rattle.mt_front.specs.declared.routes.Route.{Route}
use Rattle.mt_front.specs.declared.routes.Route.TheVariants as route
use Rattle.mt_front.specs.declared.refusals.BadRequest.{BadRequest}
use Rattle.mt_front.specs.declared.refusals.BadRequest.TheVariants.{NotImplemented, TableNotFound, MethodNotAllowed, InvalidQuery}
use Rattle.mt_front.specs.Methods.{resource_of, allows, action_of}

-- ---- routes

-- the write of one row that a target and a method name
abbrev pub write_by : Target → Option Method → Option RowWrite
write_by (target.Table name keys.Absent) (Some Post) = Some row.Insert
write_by (target.Table name (keys.Entity pk rk)) (Some m) = option_map (λ action. row.Entity action pk rk) (action_of m)
write_by t m = None

-- the read that a target of GET names; a table is read at one time where that is asked for, and else by pages
abbrev pub read_by : Bool → Target → Option Route
read_by true (target.Table name keys.Absent) = Some route.Rows
read_by true (target.Table name keys.Empty) = Some route.Rows
read_by false (target.Table name keys.Absent) = Some route.Page
read_by false (target.Table name keys.Empty) = Some route.Page
read_by atomic (target.Table name (keys.Entity pk rk)) = Some (route.Row pk rk)
read_by atomic t = None

-- what a method of the service names
abbrev pub service_route : Service → Option Method → Option Route
service_route service.Batch (Some Post) = Some route.Changes
service_route service.Migrate (Some Post) = Some (route.Steps Migrator)
service_route service.Clean (Some Post) = Some (route.Steps Cleaner)
service_route service.Seal (Some Post) = Some route.Seal
service_route service.Status (Some Get) = Some route.Status
service_route s m = None

-- the methods of targets whose machines are built; each later one adds its row
abbrev pub route_by : Bool → Target → Option Method → Option Route
route_by atomic (target.Service s) m = service_route s m
route_by atomic t (Some Get) = read_by atomic t
route_by atomic t m = option_map route.Write (write_by t m)

-- it has a route; whether a table is read at one time or by pages is the same here
abbrev pub is_built : Target → Option Method → Bool
is_built t m = is_some (route_by false t m)

-- ---- refusals

-- this refusal, where the test holds
abbrev pub when : Bool → BadRequest → Option BadRequest
when b r = if b then Some r else None

-- the first refusal of these
abbrev pub first_of : List (Option BadRequest) → Option BadRequest
first_of [] = None
first_of (None ∷ rs) = first_of rs
first_of (Some r ∷ rs) = Some r

abbrev pub is_list_of_tables : Target → Bool
is_list_of_tables (target.Table name keys) = false
is_list_of_tables target.Tables = true
is_list_of_tables (target.Service s) = false

-- a system option of OData: its name begins with a dollar sign
abbrev pub is_system : List ℕ → Bool
is_system name = starts_with nat_eq name (codes "$")

-- those of reading one row
abbrev pub is_of_row : List ℕ → Bool
is_of_row name = bytes_eq name (codes "$select") || bytes_eq name (codes "$format")

-- those of reading rows
abbrev pub is_of_rows : List ℕ → Bool
is_of_rows name = bytes_eq name (codes "$filter") || bytes_eq name (codes "$top") || is_of_row name

-- the method of the target knows the option
abbrev pub is_known : Target → Option Method → List ℕ → Bool
is_known (target.Table name keys.Absent) (Some Get) option = is_of_rows option
is_known (target.Table name keys.Empty) (Some Get) option = is_of_rows option
is_known (target.Table name (keys.Entity pk rk)) (Some Get) option = is_of_row option
is_known t m option = false

-- a system option that it does not know
abbrev pub has_unknown : Target → Option Method → List QueryOption → Bool
has_unknown t m options = list_any (λ o. is_system o.name && not (is_known t m o.name)) options

-- the list of tables, the options of other services, a system option that the method's row does not name, or a method of the target's whose machine is not built
abbrev pub is_unsupported : Spelled → Option Method → Bool
is_unsupported s m =
    is_list_of_tables s.target || has_option (codes "comp") s.options || has_option (codes "restype") s.options || has_unknown s.target m s.options
    || (allows (resource_of s.target) m && not (is_built s.target m))

-- the target is beside the tables
abbrev pub is_service : Target → Bool
is_service (target.Table name keys) = false
is_service target.Tables = false
is_service (target.Service s) = true

abbrev pub is_get : Option Method → Bool
is_get (Some Get) = true
is_get m = false

-- in a change set nothing is read, and nothing is beside the tables
abbrev pub is_no_change : Spelled → Option Method → Bool
is_no_change s m = is_get m || is_service s.target || is_unsupported s m

-- the target names a table, and not this one
abbrev pub names_another : List ℕ → Target → Bool
names_another table (target.Table name keys) = not (is_same_table table name)
names_another table target.Tables = false
names_another table (target.Service s) = false

-- the first that holds, in this order
abbrev pub refusal_by : Bool → List ℕ → Spelled → Option Method → Option BadRequest
refusal_by unsupported table s m = first_of (
    when unsupported NotImplemented
    ∷ when (names_another table s.target) TableNotFound
    ∷ when (not (allows (resource_of s.target) m)) (MethodNotAllowed (resource_of s.target))
    ∷ when (has_repeat s.options) InvalidQuery
    ∷ [])

-- of a request that stands alone
abbrev pub route_refusal : List ℕ → Spelled → Option Method → Option BadRequest
route_refusal table s m = refusal_by (is_unsupported s m) table s m

-- of a request in a change set
abbrev pub change_refusal : List ℕ → Spelled → Option Method → Option BadRequest
change_refusal table s m = refusal_by (is_no_change s m) table s m

-- ---- targets

-- the target spells nothing
abbrev pub SpellsNothing : List ℕ → Type 0
SpellsNothing target = (spelled : Spelled) → SpellsIt target spelled → ⊥
