-- Pages that are asked for: the options that name one are not refused, and it may be asked of a world.
use Rattle.std.proofs.Common.{◌≡◌, inl, inr, ℕ, ◌≤◌, List, [], Option, Some, None, IfSome, Ok, sym, subst, arith}
use Rattle.std.specs.Prelude.{codes}
use Rattle.mt_model.specs.declared.key.KeyFault.{KeyFault}
use Rattle.mt_model.specs.Key.{key_fault}
use Rattle.mt_chain.specs.declared.op.Op.{Op}
use Rattle.mt_chain.specs.Rows.{key_at}
use Rattle.mt_rules.specs.declared.batch.BatchFault.{BatchFault}
use Rattle.mt_rules.specs.Batches.{batch_fault}
use Rattle.mt_filter.specs.declared.filter.Filter.{Filter}
use Rattle.mt_filter.specs.Tree.{tree_of}
use Rattle.mt_match.specs.Partition.{atomic_partition}
use Rattle.mt_scan.specs.declared.unit.Token.{Token as PageToken}
use Rattle.mt_scan.specs.Pages.{IsKeyedToken}
use Rattle.mt_scan.proofs.KeyLaws.{row_keyed}
use Rattle.mt_http_in.specs.declared.fields.Field.{Field}
use Rattle.mt_mime.specs.declared.forms.Echo.{Echo}
use Rattle.mt_mime.specs.declared.changes.Part.{Part}
use Rattle.mt_mime.specs.Changes.{parts_of}
use Rattle.mt_target.specs.declared.target.QueryOption.{QueryOption}
use Rattle.mt_options.specs.declared.tokens.Token.{Token}
use Rattle.mt_options.specs.declared.tokens.Token.TheVariants.{From, After, Past}
use Rattle.mt_options.specs.declared.tokens.TokenRead.TheVariants.{Unreadable}
use Rattle.mt_options.specs.Tokens.{HasKey}
use Rattle.mt_options.specs.Values.{value_of}
use Rattle.mt_front.specs.declared.refusals.BadRequest.{BadRequest}
use Rattle.mt_front.specs.declared.refusals.BadPart.{BadPart}
use Rattle.mt_front.specs.declared.changes.Change.{Change}
use Rattle.mt_front.specs.declared.changes.Change.TheVariants as change
use Rattle.mt_front.specs.declared.routes.Route.{Route}
use Rattle.mt_front.specs.declared.routes.Route.TheVariants as route
use Rattle.mt_front.specs.declared.asks.Asked.{Asked}
use Rattle.mt_front.specs.declared.asks.Asked.TheVariants as asked
use Rattle.mt_front.specs.declared.pages.PageRead.{PageRead}
use Rattle.mt_front.specs.Refusals.{key_refusal, batch_refusal}
use Rattle.mt_front.specs.Refused.{IsRefused, KeyedBy}
use Rattle.mt_front.specs.ChangeSets.{IsRefusedPart, BatchedBy, AsksSet, AsksBounded, boundary_by, together}
use Rattle.mt_front.specs.Reads.{TokenReads, AsksPartition, AsksFiltered, AsksRows}
use Rattle.mt_front.specs.PageReads.{IsTop, place_by, BeginsAt, IsBadPage, IsPageOfAll, AsksPageWith, AsksPage, MayPage, MayTry}
use Rattle.mt_front.specs.Fields.{is_atomic}
use Rattle.mt_front.specs.declared.services.Machine.{Machine}
use Rattle.mt_front.specs.Services.{IsSteps, AsksSteps}
use Rattle.mt_front.specs.Routes.{route_refusal, route_by}
use Rattle.mt_front.specs.Asks.{asked_alone, AsksOn, AsksBy, Request, RequestAsks}

-- ---- the options that name a page

readable : (options : List QueryOption) (place : Option PageToken) → BeginsAt options place → TokenReads options (Ok Unreadable) → ⊥
readable options None begins bad = bad.0 begins
readable options (Some place) begins bad = bad.1 begins.0 begins.1

-- they are not bad
pub page_not_bad : (options : List QueryOption) (fields : List Field) (q : PageRead) → IsPageOfAll options fields q → IsBadPage options → ⊥
page_not_bad options fields q is (inl none) = none q.top is.top_is
page_not_bad options fields q is (inr bad) = readable options q.token is.begins bad

-- ---- what may be asked of a world

token_keyed : (t : Token) → HasKey t → IsKeyedToken (place_by t)
token_keyed (From pk) key = (row_keyed (key_at pk []) key.fault).0
token_keyed (After pk rk) key = row_keyed (key_at pk rk) key.fault
token_keyed (Past pk) key = (row_keyed (key_at pk []) key.fault).0

place_keyed : (options : List QueryOption) (place : Option PageToken) → BeginsAt options place → IfSome place IsKeyedToken
place_keyed options None begins = tt
place_keyed options (Some place) begins = subst IsKeyedToken (sym begins.2) (token_keyed begins.0 begins.1.key)

top_within : (value : Option (List ℕ)) (top : ℕ) → IsTop value top → (1 ≤ top) × (top ≤ 1000)
top_within None top is = (omega (arith, is), omega (arith, is))
top_within (Some text) top is = (is.1, is.2)

pub page_may : (options : List QueryOption) (fields : List Field) (q : PageRead) → IsPageOfAll options fields q → MayPage q
page_may options fields q is =
    let within = top_within (value_of (codes "$top") options) q.top is.top_is in
    (within.0, within.1, place_keyed options q.token is.begins)

-- so for the page of the rows that a filter matches
with_may : (text : Option (List ℕ)) (q : PageRead) (a : Asked) → MayPage q → AsksPageWith text q a → MayTry a
with_may None q a may asks = subst MayTry (sym asks) may
with_may (Some text) q a may (inl found) = subst MayTry (sym found.2) may
with_may (Some text) q a may (inr bad) = subst MayTry (sym bad.3) tt

asked_page_may : (options : List QueryOption) (fields : List Field) (a : Asked) → AsksPage options fields a → MayTry a
asked_page_may options fields a (inl bad) = subst MayTry (sym bad.1) tt
asked_page_may options fields a (inr good) = with_may (value_of (codes "$filter") options) good.1.0 a (page_may options fields good.1.0 good.1.1) good.1.2

-- ---- so is all that is asked for

refused_may : (r : Option BadRequest) (a : Asked) → IsRefused asked.Refused r a → MayTry a
refused_may None a asks = absurd asks
refused_may (Some r) a asks = subst MayTry (sym asks) tt

keyed_may : (fault : Option KeyFault) (read : Type 0) (a : Asked) → (read → MayTry a) → KeyedBy asked.Refused fault read a → MayTry a
keyed_may None read a may asks = may asks
keyed_may (Some fault) read a may asks = refused_may (key_refusal fault) a asks

partition_may : (pk : Option (List ℕ)) (filter : Filter) (options : List QueryOption) (fields : List Field) (a : Asked) → AsksPartition pk filter options fields a → MayTry a
partition_may None filter options fields a asks = subst MayTry (sym asks) tt
partition_may (Some pk) filter options fields a asks = subst MayTry (sym asks.2) tt

filtered_may : (text : Option (List ℕ)) (options : List QueryOption) (fields : List Field) (a : Asked) → AsksFiltered text options fields a → MayTry a
filtered_may None options fields a asks = subst MayTry (sym asks) tt
filtered_may (Some text) options fields a (inl found) = partition_may (atomic_partition (tree_of found.0)) found.0 options fields a found.2
filtered_may (Some text) options fields a (inr bad) = subst MayTry (sym bad.3) tt

rows_may : (options : List QueryOption) (fields : List Field) (a : Asked) → AsksRows options fields a → MayTry a
rows_may options fields a (inl bad) = subst MayTry (sym bad.1) tt
rows_may options fields a (inr good) = filtered_may (value_of (codes "$filter") options) options fields a good.1

alone_may : (c : Change) → MayTry (asked_alone c)
alone_may (change.Write op echo) = tt
alone_may (change.Refused r) = tt

refused_part_may : (bad : Option BadPart) (a : Asked) → IsRefusedPart bad a → MayTry a
refused_part_may None a asks = absurd asks
refused_part_may (Some bad) a asks = subst MayTry (sym asks) tt

batched_may : (fault : Option BatchFault) (ops : List Op) (echoes : List Echo) (a : Asked) → BatchedBy fault (a ≡ together ops echoes) a → MayTry a
batched_may None ops echoes a asks = subst MayTry (sym asks) tt
batched_may (Some fault) ops echoes a asks = refused_part_may (batch_refusal fault) a asks

set_may : (table : List ℕ) (parts : List Part) (a : Asked) → AsksSet table parts a → MayTry a
set_may table parts a (inl set) = batched_may (batch_fault set.0) set.0 set.1 a set.3
set_may table parts a (inr bad) = subst MayTry (sym bad.2) tt

bounded_may : (table : List ℕ) (boundary : Option (List ℕ)) (body : List ℕ) (a : Asked) → AsksBounded table boundary body a → MayTry a
bounded_may table None body a asks = subst MayTry (sym asks) tt
bounded_may table (Some boundary) body a (inl whole) = set_may table (parts_of whole.0) a whole.2
bounded_may table (Some boundary) body a (inr none) = subst MayTry (sym none.1) tt

some_steps : (value : Option (List ℕ)) (steps : ℕ) → IsSteps value steps → 1 ≤ steps
some_steps None steps is = absurd is
some_steps (Some text) steps is = is.1

steps_may : (machine : Machine) (options : List QueryOption) (a : Asked) → AsksSteps machine options a → MayTry a
steps_may machine options a (inl bad) = subst MayTry (sym bad.1) tt
steps_may machine options a (inr good) = subst MayTry (sym good.2) (some_steps (value_of (codes "steps") options) good.0 good.1)

on_may : (table : List ℕ) (at : Route) (options : List QueryOption) (fields : List Field) (bytes : List ℕ) (a : Asked) → AsksOn table at options fields bytes a → MayTry a
on_may table (route.Write write) options fields bytes a asks = subst MayTry (sym asks.2) (alone_may asks.0)
on_may table (route.Row pk rk) options fields bytes a asks = keyed_may (key_fault pk rk) _ a (λ read. subst MayTry (sym read.2) tt) asks
on_may table route.Rows options fields bytes a asks = rows_may options fields a asks
on_may table route.Page options fields bytes a asks = asked_page_may options fields a asks
on_may table route.Changes options fields bytes a asks = bounded_may table (boundary_by fields) bytes a asks
on_may table (route.Steps machine) options fields bytes a asks = steps_may machine options a asks
on_may table route.Seal options fields bytes a asks = subst MayTry (sym asks) tt
on_may table route.Status options fields bytes a asks = subst MayTry (sym asks) tt

by_may : (table : List ℕ) (r : Option BadRequest) (at : Option Route) (options : List QueryOption) (fields : List Field) (bytes : List ℕ) (a : Asked) → AsksBy table r at options fields bytes a → MayTry a
by_may table (Some r) at options fields bytes a asks = subst MayTry (sym asks) tt
by_may table None (Some at) options fields bytes a asks = on_may table at options fields bytes a asks
by_may table None None options fields bytes a asks = absurd asks

-- what a request asks for may be tried
pub request_may : (table : List ℕ) (q : Request) (a : Asked) → RequestAsks table q a → MayTry a
request_may table q a (inl spelled) = by_may table (route_refusal table spelled.spelled spelled.method) (route_by (is_atomic q.fields) spelled.spelled.target spelled.method) spelled.spelled.options q.fields q.body a spelled.asks
request_may table q a (inr nothing) = subst MayTry (sym nothing.1) tt
