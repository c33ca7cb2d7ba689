-- What a request asks for: operations, rows, a page, an order to the service, or a refusal.
use Rattle.std.specs.Prelude.{◌≡◌, ◌⊎◌, ℕ, Bool, true, false, List, Option, Some, None}
use Rattle.httparse.specs.Grammar.{RequestHead}
use Rattle.mt_http_in.specs.declared.fields.Field.{Field}
use Rattle.mt_http_in.specs.declared.requests.Incoming.{Incoming}
use Rattle.mt_http_in.specs.Fields.{is_packed}
use Rattle.mt_http_in.specs.Heads.{fields_of}
use Rattle.mt_target.specs.declared.target.QueryOption.{QueryOption}
use Rattle.mt_target.specs.declared.target.Spelled.{Spelled}
use Rattle.mt_target.specs.Targets.{SpellsIt}
use Rattle.mt_front.specs.declared.methods.Method.{Method}
use Rattle.mt_front.specs.Methods.{IsMethod}
use Rattle.mt_front.specs.Fields.{is_atomic}
use Rattle.mt_front.specs.declared.routes.Route.{Route}
use Rattle.mt_front.specs.declared.routes.Route.TheVariants as route
use Rattle.mt_front.specs.Routes.{route_refusal, route_by, SpellsNothing}
use Rattle.mt_front.specs.declared.refusals.BadRequest.{BadRequest}
use Rattle.mt_front.specs.declared.refusals.BadRequest.TheVariants.{InvalidUri, CompressedBody}
use Rattle.mt_front.specs.declared.changes.Change.{Change}
use Rattle.mt_front.specs.declared.changes.Change.TheVariants as change
use Rattle.mt_front.specs.declared.asks.Asked.{Asked}
use Rattle.mt_front.specs.declared.asks.Asked.TheVariants.{Admin, Refused}
use Rattle.mt_front.specs.declared.services.Admin.TheVariants as order
use Rattle.mt_front.specs.Services.{AsksSteps}
use Rattle.mt_front.specs.Changes.{AsksChange}
use Rattle.mt_front.specs.ChangeSets.{alone, AsksChanges}
use Rattle.mt_front.specs.Reads.{AsksRow, AsksRows}
use Rattle.mt_front.specs.PageReads.{AsksPage}

-- ---- routes

-- what a change asks for that stands alone
abbrev pub asked_alone : Change → Asked
asked_alone (change.Write op echo) = alone op echo
asked_alone (change.Refused r) = Refused r

-- what a request asks for that stands alone and writes so
abbrev pub AsksAlone : (Change → Type 0) → Asked → Type 0
AsksAlone asks asked = (c : Change) × asks c × (asked ≡ asked_alone c)

-- what a request of that route asks for
abbrev pub AsksOn : List ℕ → Route → List QueryOption → List Field → List ℕ → Asked → Type 0
AsksOn table (route.Write write) options fields bytes asked = AsksAlone (AsksChange write fields bytes) asked
AsksOn table (route.Row pk rk) options fields bytes asked = AsksRow pk rk options fields asked
AsksOn table route.Rows options fields bytes asked = AsksRows options fields asked
AsksOn table route.Page options fields bytes asked = AsksPage options fields asked
AsksOn table route.Changes options fields bytes asked = AsksChanges table fields bytes asked
AsksOn table (route.Steps machine) options fields bytes asked = AsksSteps machine options asked
AsksOn table route.Seal options fields bytes asked = asked ≡ Admin order.Seal
AsksOn table route.Status options fields bytes asked = asked ≡ Admin order.Status

-- the route's refusal refuses, or what the route asks for is asked; what is not refused has a route
abbrev pub AsksBy : List ℕ → Option BadRequest → Option Route → List QueryOption → List Field → List ℕ → Asked → Type 0
AsksBy table (Some r) at options fields bytes asked = asked ≡ Refused r
AsksBy table None (Some at) options fields bytes asked = AsksOn table at options fields bytes asked
AsksBy table None None options fields bytes asked = ⊥

-- ---- whole requests

-- a whole request, as far as it is read
pub record Request : Type 0 where
  pub method : List ℕ
  pub target : List ℕ
  pub fields : List Field
  pub body : List ℕ

-- the request of that head and body
abbrev pub request_by : RequestHead → List ℕ → Request
request_by h body = record { method = h.method; target = h.target; fields = fields_of h; body = body }

-- the request that was read
abbrev pub request_of : Incoming → Request
request_of v = record { method = v.method; target = v.target; fields = v.fields; body = v.body }

-- the target spells something, and by this, the method and the fields the request asks for this
pub record AsksSpelled (table : List ℕ) (q : Request) (asked : Asked) : Type 0 where
  pub method : Option Method
  pub spelled : Spelled
  pub is_method : IsMethod q.method method
  pub is_spelled : SpellsIt q.target spelled
  pub asks : AsksBy table (route_refusal table spelled method) (route_by (is_atomic q.fields) spelled.target method) spelled.options q.fields q.body asked

-- what a request on the table of that name asks for
abbrev pub RequestAsks : List ℕ → Request → Asked → Type 0
RequestAsks table q asked = AsksSpelled table q asked ⊎ (SpellsNothing q.target × (asked ≡ Refused InvalidUri))

-- so, where its body is not compressed
abbrev pub AsksUnpacked : Bool → List ℕ → Request → Asked → Type 0
AsksUnpacked true table q asked = asked ≡ Refused CompressedBody
AsksUnpacked false table q asked = RequestAsks table q asked

-- what a whole request asks for
abbrev pub WholeAsks : List ℕ → Request → Asked → Type 0
WholeAsks table q asked = AsksUnpacked (is_packed q.fields) table q asked
