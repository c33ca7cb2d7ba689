-- How an actor moves: what it asks of a store, and what becomes of it and of the history with the store's reply. Each kind of actor has its line in each definition.
use Rattle.std.specs.Prelude.{◌≡◌, ℕ, ◌≤◌, Bool, false, IfSome, List, [], ◌++◌, Option, Some, None, Result, Ok, true}
use Rattle.mt_model.specs.declared.entity.Entity.{Entity}
use Rattle.mt_filter.specs.declared.filter.Filter.{Filter}
use Rattle.mt_match.specs.declared.bounds.Bounds.{Bounds}
use Rattle.mt_chain.specs.declared.ask.StoreAsk.{StoreAsk}
use Rattle.mt_chain.specs.declared.ask.StoreReply.{StoreReply}
use Rattle.mt_chain.specs.Batch.{batch_weight}
use Rattle.mt_history.specs.declared.entry.What.{What}
use Rattle.mt_history.specs.declared.entry.What.TheVariants as what
use Rattle.mt_history.specs.declared.model.Reply.{Reply}
use Rattle.mt_history.specs.declared.model.Reply.TheVariants as reply
use Rattle.mt_history.specs.Weight.{need_of_query, need_of_page, need_of_move}
use Rattle.mt_meta.specs.declared.fact.Fact.{Fact}
use Rattle.mt_batch_plan.specs.declared.place.Place.TheVariants.{ReadOld}
use Rattle.mt_batch_plan.specs.declared.call.BatchProgress.{BatchProgress}
use Rattle.mt_batch_plan.specs.declared.call.BatchProgress.TheVariants as batch
use Rattle.mt_batch_plan.specs.Calls.{Call, CallFits, Asks, Absorbs, call_facts}
use Rattle.mt_query_plan.specs.declared.call.QueryProgress.{QueryProgress}
use Rattle.mt_query_plan.specs.declared.call.QueryProgress.TheVariants as query
use Rattle.mt_query_plan.specs.declared.place.Place.TheVariants as query_place
use Rattle.mt_query_plan.specs.Queries as queries
use Rattle.mt_scan.specs.declared.saw.Half.TheVariants as half
use Rattle.mt_scan.specs.declared.unit.Unit.{Unit as PageUnit}
use Rattle.mt_scan.specs.declared.unit.Page.{Page as WholePage}
use Rattle.mt_scan.specs.declared.unit.PageProgress.{PageProgress}
use Rattle.mt_scan.specs.declared.unit.PageProgress.TheVariants as page
use Rattle.mt_scan.specs.Units as units
use Rattle.mt_scan.specs.Pages as pages
use Rattle.mt_migrate.specs.declared.migrator.MoveProgress.{MoveProgress}
use Rattle.mt_migrate.specs.declared.migrator.MoveProgress.TheVariants as move
use Rattle.mt_migrate.specs.declared.state.State.{State as MoverState}
use Rattle.mt_migrate.specs.Known as mover_known
use Rattle.mt_migrate.specs.Moves as mover
use Rattle.mt_clean.specs.declared.cleaner.CleanProgress.{CleanProgress}
use Rattle.mt_clean.specs.declared.cleaner.CleanProgress.TheVariants as clean
use Rattle.mt_clean.specs.declared.state.State.{State as CleanerState}
use Rattle.mt_clean.specs.Known as cleaner_known
use Rattle.mt_clean.specs.Cleanings as cleaner
use Rattle.mt_world.specs.declared.actor.Request.{Request}
use Rattle.mt_world.specs.declared.actor.Request.TheVariants as request
use Rattle.mt_world.specs.declared.actor.ClientCall.{ClientCall}
use Rattle.mt_world.specs.declared.actor.ClientCall.TheVariants as client
use Rattle.mt_world.specs.declared.actor.Actor.{Actor}
use Rattle.mt_world.specs.declared.actor.Actor.TheVariants.{Client, Migrator, Cleaner}
use Rattle.mt_world.specs.declared.actor.Answer.TheVariants.{Written, Refused, Rows, Page, Moved, Cleaned, NotSealed, NotMigrated}
use Rattle.mt_world.specs.declared.actor.Progress.{Progress}
use Rattle.mt_world.specs.declared.actor.Progress.TheVariants.{More, Done}
use Rattle.mt_world.specs.declared.actor.TurnFault.{TurnFault}

-- an entry that a turn leaves in the history, and the reply to it
pub record NewEntry : Type 0 where
  pub what : What
  pub reply : Reply

-- what a store's reply makes of an actor: what it tells, the entry that it leaves, if any, and the actor afterwards
pub record Move : Type 0 where
  pub progress : Progress
  pub entry : Option NewEntry
  pub after : Actor

-- ---- what each actor keeps, knows, needs and asks

-- a call that has not ended, and a migrator or cleaner that is not done
abbrev pub CanStep : Actor → Type 0
CanStep (Client (client.Batch call)) = Unit {0}
CanStep (Client (client.Query call)) = Unit {0}
CanStep (Client (client.Page call)) = pages.is_over call ≡ false
CanStep (Client client.Ended) = ⊥
CanStep (Migrator state) = mover.GoesOn state
CanStep (Cleaner state) = cleaner.GoesOn state

-- what each actor keeps of itself
abbrev pub ActorFits : Actor → Type 0
ActorFits (Client (client.Batch call)) = CallFits call
ActorFits (Client (client.Query call)) = Unit {0}
ActorFits (Client (client.Page call)) = pages.IsPage call × (pages.is_over call ≡ false)
ActorFits (Client client.Ended) = Unit {0}
ActorFits (Migrator state) = mover.MigratorFits state
ActorFits (Cleaner state) = cleaner.CleanerFits state

-- what an actor knows between its turns
abbrev pub actor_facts : Actor → List Fact
actor_facts (Client (client.Batch call)) = call_facts call
actor_facts (Client (client.Query call)) = queries.call_facts call
actor_facts (Client (client.Page call)) = pages.page_facts call
actor_facts (Client client.Ended) = []
actor_facts (Migrator state) = mover_known.state_facts state
actor_facts (Cleaner state) = cleaner_known.state_facts state

-- the room in the history that a turn needs
abbrev pub need_of : Actor → ℕ
need_of (Client (client.Batch call)) = batch_weight call.batch
need_of (Client (client.Query call)) = need_of_query call.pk call.filter
need_of (Client (client.Page call)) = need_of_page call.filter
need_of (Client client.Ended) = 0
need_of (Migrator state) = need_of_move
need_of (Cleaner state) = need_of_move

-- the store call that an actor asks for
abbrev pub ActorAsks : Actor → StoreAsk → Type 0
ActorAsks (Client (client.Batch call)) ask = Asks call.batch call.place ask
ActorAsks (Client (client.Query call)) ask = ask ≡ queries.asks call
ActorAsks (Client (client.Page call)) ask = ask ≡ pages.asks call
ActorAsks (Client client.Ended) ask = ⊥
ActorAsks (Migrator state) ask = mover.Asks state ask
ActorAsks (Cleaner state) ask = cleaner.Asks state ask

-- ---- how each actor moves

-- a batch goes on, or ends with an entry that has its operations, and with that entry's reply
abbrev pub batch_move : Call → BatchProgress → Move
batch_move to batch.More = record { progress = More; entry = None; after = Client (client.Batch to) }
batch_move to (batch.Written tags) = record { progress = Done (Written tags); entry = Some (record { what = what.Batch to.batch tags; reply = reply.Written tags }); after = Client client.Ended }
batch_move to (batch.Refused refusal) = record { progress = Done (Refused refusal); entry = Some (record { what = what.Refused to.batch; reply = reply.Refused refusal }); after = Client client.Ended }

-- it takes the reply, and goes to its next place
pub record BatchMoves (call : Call) (answer : StoreReply) (move : Move) : Type 0 where
  pub said : BatchProgress
  pub to : Call
  pub same : to.batch ≡ call.batch
  pub absorbs : Absorbs call.batch call.place answer (Ok said) to.place
  pub is : move ≡ batch_move to said

-- a query goes on, or ends with an entry that has its partition and its filter, and with that entry's rows
abbrev pub query_move : queries.Call → QueryProgress → Move
query_move to query.More = record { progress = More; entry = None; after = Client (client.Query to) }
query_move to (query.Rows rows) = record { progress = Done (Rows rows); entry = Some (record { what = what.Query to.pk to.filter; reply = reply.Rows rows }); after = Client client.Ended }

-- it takes the reply, and goes to its next place
pub record QueryMoves (call : queries.Call) (answer : StoreReply) (move : Move) : Type 0 where
  pub said : QueryProgress
  pub to : queries.Call
  pub pk : to.pk ≡ call.pk
  pub filter : to.filter ≡ call.filter
  pub absorbs : queries.Absorbs call answer (Ok said) to.place
  pub is : move ≡ query_move to said

-- what a page is answered: its rows, and the token of its place
abbrev pub page_of : pages.Page → WholePage
page_of to = record { rows = to.rows; token = units.token_of to.place }

-- the entry of a unit, and its rows
abbrev pub unit_entry : Option Filter → PageUnit → List Entity → NewEntry
unit_entry filter unit rows = record { what = units.entry_of filter unit; reply = reply.Rows rows }

-- a page goes on, and each unit leaves its entry, with which the page goes on or ends
abbrev pub page_move : pages.Page → Option Filter → List Entity → PageProgress → Move
page_move to filter rows page.More = record { progress = More; entry = None; after = Client (client.Page to) }
page_move to filter rows (page.Unit unit) = record { progress = More; entry = Some (unit_entry filter unit rows); after = Client (client.Page to) }
page_move to filter rows (page.Last unit) = record { progress = Done (Page (page_of to)); entry = Some (unit_entry filter unit rows); after = Client client.Ended }

-- it takes the reply, and has these rows more; the entry has an equal filter
pub record PageMoves (call : pages.Page) (answer : StoreReply) (move : Move) : Type 0 where
  pub said : PageProgress
  pub to : pages.Page
  pub rows : List Entity
  pub filter : Option Filter
  pub absorbs : pages.Absorbs call answer (Ok said) to
  pub added : to.rows ≡ call.rows ++ rows
  pub equal : units.IsSameFilter filter call.filter
  pub is : move ≡ page_move to filter rows said

-- a migrator goes on, or is done; it leaves no entry
abbrev pub migrator_move : MoverState → MoveProgress → Move
migrator_move to move.More = record { progress = More; entry = None; after = Migrator to }
migrator_move to move.Done = record { progress = Done Moved; entry = None; after = Migrator to }

-- it takes the reply, and goes to its next state
pub record MigratorMoves (state : MoverState) (answer : StoreReply) (move : Move) : Type 0 where
  pub said : MoveProgress
  pub to : MoverState
  pub absorbs : mover.Absorbs state answer (Ok said) to
  pub is : move ≡ migrator_move to said

-- a cleaner goes on, or is done; or it says what it has found that stops it, and begins again. It leaves no entry
abbrev pub cleaner_move : CleanerState → CleanProgress → Move
cleaner_move to clean.More = record { progress = More; entry = None; after = Cleaner to }
cleaner_move to clean.Done = record { progress = Done Cleaned; entry = None; after = Cleaner to }
cleaner_move to clean.NotSealed = record { progress = Done NotSealed; entry = None; after = Cleaner to }
cleaner_move to (clean.NotMigrated pk) = record { progress = Done (NotMigrated pk); entry = None; after = Cleaner to }

-- it takes the reply, and goes to its next state
pub record CleanerMoves (state : CleanerState) (answer : StoreReply) (move : Move) : Type 0 where
  pub said : CleanProgress
  pub to : CleanerState
  pub absorbs : cleaner.Absorbs state answer (Ok said) to
  pub is : move ≡ cleaner_move to said

abbrev pub ActorMoves : Actor → StoreReply → Move → Type 0
ActorMoves (Client (client.Batch call)) answer move = BatchMoves call answer move
ActorMoves (Client (client.Query call)) answer move = QueryMoves call answer move
ActorMoves (Client (client.Page call)) answer move = PageMoves call answer move
ActorMoves (Client client.Ended) answer move = ⊥
ActorMoves (Migrator state) answer move = MigratorMoves state answer move
ActorMoves (Cleaner state) answer move = CleanerMoves state answer move

-- the actor after a turn that came to nothing: it ends a client's call, and a migrator or cleaner stays where it is
abbrev pub after_fault : Actor → Actor
after_fault (Client call) = Client client.Ended
after_fault (Migrator state) = Migrator state
after_fault (Cleaner state) = Cleaner state

-- the entry that says that a store call failed
abbrev pub fault_entry : NewEntry
fault_entry = record { what = what.Fault; reply = reply.NoReply }

-- whether the world is retired after a turn that came to this: it is once a cleaner is done
abbrev pub retired_where : Result Progress TurnFault → Bool → Bool
retired_where (Ok (Done Cleaned)) retired = true
retired_where r retired = retired

-- whether it is after a turn of an actor: a client's and a migrator's leave that
abbrev pub retired_by : Actor → Result Progress TurnFault → Bool → Bool
retired_by (Client call) r retired = retired
retired_by (Migrator state) r retired = retired
retired_by (Cleaner state) r retired = retired_where r retired

-- ---- calls from their beginning

-- what may be asked for: a page of 1 to 1,000 rows, from a place whose keys meet the rules
abbrev pub MayRequest : Request → Type 0
MayRequest (request.Batch batch) = Unit {0}
MayRequest (request.Query pk filter) = Unit {0}
MayRequest (request.Page filter top token) = (1 ≤ top) × (top ≤ 1000) × IfSome token pages.IsKeyedToken

-- the call of a request, at its beginning
abbrev pub IsCallOf : Request → ClientCall → Type 0
IsCallOf (request.Batch batch) call = call ≡ client.Batch (record { batch = batch; place = ReadOld })
IsCallOf (request.Query pk filter) call = call ≡ client.Query (record { pk = pk; filter = filter; place = query_place.ReadOld })
IsCallOf (request.Page filter top token) call = (bounds : Bounds) × pages.AreBounds filter bounds × (call ≡ client.Page (pages.begun filter bounds top token))

-- the actor is a client's call at its beginning
abbrev pub IsAtBegin : Actor → Type 0
IsAtBegin (Client (client.Batch call)) = call.place ≡ ReadOld
IsAtBegin (Client (client.Query call)) = call.place ≡ query_place.ReadOld
IsAtBegin (Client (client.Page call)) = (call.units ≡ 0) × (call.half ≡ half.First)
IsAtBegin (Client client.Ended) = ⊥
IsAtBegin (Migrator state) = ⊥
IsAtBegin (Cleaner state) = ⊥

-- the most turns that a client's call takes from its beginning while no other actor comes between and both stores tell: a read of each store, and for a batch a write; a page has 256 units at most, each with a read of each store
abbrev pub turns_at_most : Actor → ℕ
turns_at_most (Client (client.Batch call)) = 3
turns_at_most (Client (client.Query call)) = 2
turns_at_most (Client (client.Page call)) = 512
turns_at_most (Client client.Ended) = 0
turns_at_most (Migrator state) = 0
turns_at_most (Cleaner state) = 0
