-- What others know while an actor takes its turns.
use Rattle.std.proofs.Common.{◌≡◌, ◌∙◌, ℕ, refl, sym, ap, subst, List, [], ◌∷◌, Option, Result, Ok, Err}
use Rattle.mt_chain.specs.declared.ask.StoreReply.{StoreReply}
use Rattle.mt_filter.specs.declared.filter.Filter.{Filter}
use Rattle.mt_meta.specs.declared.fact.Fact.{Fact}
use Rattle.mt_meta.specs.Facts.{ApartFrom, AllPlain}
use Rattle.mt_meta.proofs.Actors.{plain_apart}
use Rattle.mt_meta.proofs.FactLists.{apart_left}
use Rattle.mt_batch_plan.specs.declared.call.BatchProgress.{BatchProgress}
use Rattle.mt_batch_plan.specs.declared.call.BatchProgress.TheVariants as batch
use Rattle.mt_batch_plan.specs.Calls.{Call}
use Rattle.mt_batch_plan.proofs.BatchLaw.{place_plain}
use Rattle.mt_query_plan.specs.declared.place.Place.{Place}
use Rattle.mt_query_plan.specs.declared.place.Place.TheVariants.{ReadOld, ReadNew}
use Rattle.mt_query_plan.specs.declared.place.AfterOld.TheVariants as after
use Rattle.mt_query_plan.specs.Queries.{place_facts}
use Rattle.mt_query_plan.specs.Queries as queries
use Rattle.mt_query_plan.specs.declared.call.QueryProgress.{QueryProgress}
use Rattle.mt_query_plan.specs.declared.call.QueryProgress.TheVariants as query
use Rattle.mt_migrate.specs.declared.state.State.{State}
use Rattle.mt_clean.specs.declared.state.State.{State as CleanerState}
use Rattle.mt_clean.proofs.CleanerLaw.{all_plain}
use Rattle.mt_world.specs.declared.actor.ClientCall.{ClientCall}
use Rattle.mt_scan.specs.declared.unit.PageProgress.{PageProgress}
use Rattle.mt_scan.specs.declared.unit.PageProgress.TheVariants as page
use Rattle.mt_scan.specs.Pages as pages
use Rattle.mt_scan.proofs.StepLaw.{half_plain}
use Rattle.mt_world.specs.declared.actor.ClientCall.TheVariants as client
use Rattle.mt_world.specs.declared.actor.Actor.{Actor}
use Rattle.mt_world.specs.declared.actor.Actor.TheVariants.{Client, Migrator, Cleaner}
use Rattle.mt_world.specs.declared.actor.Answer.{Answer}
use Rattle.mt_world.specs.declared.actor.Answer.TheVariants.{Cleaned}
use Rattle.mt_world.specs.declared.actor.Progress.{Progress}
use Rattle.mt_world.specs.declared.actor.Progress.TheVariants.{Done}
use Rattle.mt_world.specs.declared.actor.Stepped.{Stepped}
use Rattle.mt_world.specs.declared.actor.TurnFault.{TurnFault}
use Rattle.mt_world.specs.declared.actor.TurnFault.TheVariants.{StoreFault, HistoryFull, NoMemory}
use Rattle.mt_world.specs.Worlds.{WorldState, ForPair, IsTrueOf, AreTrueOf, AllStandBeside, KeepsApart}
use Rattle.mt_world.specs.Moves.{NewEntry, Move, batch_move, query_move, page_move, ActorMoves, CanStep, actor_facts, after_fault}
use Rattle.mt_world.specs.Turns.{Stage, Moves, Knows, Turned}
use Rattle.mt_world.specs.WholeCalls.{EndsCall, TakesSteps}
use Rattle.mt_world.proofs.PairLaws.{for_pair, at_pair, map_pair}
use Rattle.mt_world.proofs.CleanerLaws.{cleaner_goes_on}

-- ---- facts one by one

-- facts that stand beside an actor stand beside it after its turn
pub all_kept : (w w' : WorldState) (own own' fs : List Fact) → KeepsApart w own w' own' → AllStandBeside w own fs → AllStandBeside w' own' fs
all_kept w w' own own' [] keeps stand = tt
all_kept w w' own own' (f ∷ fs) keeps stand = (keeps f stand.0, all_kept w w' own own' fs keeps stand.1)

-- they are all true
pub all_known : (w : WorldState) (own fs : List Fact) → AllStandBeside w own fs → ForPair w (λ p. AreTrueOf w p fs)
all_known w own [] stand = for_pair w (λ p. AreTrueOf w p []) (λ a b ea eb. tt)
all_known w own (f ∷ fs) stand = for_pair w (λ p. AreTrueOf w p (f ∷ fs)) (λ a b ea eb.
    ((at_pair w (λ p. IsTrueOf w p f × ApartFrom f own) a b ea eb stand.0).0, at_pair w (λ p. AreTrueOf w p fs) a b ea eb (all_known w own fs stand.1)))

-- facts that are true stand beside an actor whose facts speak of no epoch
pub all_stand : (w : WorldState) (own fs : List Fact) → AllPlain own → ForPair w (λ p. AreTrueOf w p fs) → AllStandBeside w own fs
all_stand w own [] plain true_of = tt
all_stand w own (f ∷ fs) plain true_of = (
  map_pair w (λ p. AreTrueOf w p (f ∷ fs)) (λ p. IsTrueOf w p f × ApartFrom f own) (λ p hs. (hs.0, plain_apart f own plain)) true_of,
  all_stand w own fs plain (map_pair w (λ p. AreTrueOf w p (f ∷ fs)) (λ p. AreTrueOf w p fs) (λ p hs. hs.1) true_of),
)

-- facts that speak of no epoch stand beside any actor where they are true
pub plain_stand : (w : WorldState) (own fs : List Fact) → AllPlain fs → ForPair w (λ p. AreTrueOf w p fs) → AllStandBeside w own fs
plain_stand w own [] plain true_of = tt
plain_stand w own (f ∷ fs) plain true_of = (
  map_pair w (λ p. AreTrueOf w p (f ∷ fs)) (λ p. IsTrueOf w p f × ApartFrom f own) (λ p hs. (hs.0, apart_left f own plain.0)) true_of,
  plain_stand w own fs plain.1 (map_pair w (λ p. AreTrueOf w p (f ∷ fs)) (λ p. AreTrueOf w p fs) (λ p hs. hs.1) true_of),
)

-- ---- clients

query_plain : (pk : List ℕ) (test : Option Filter) (place : Place) → AllPlain (place_facts pk test place)
query_plain pk test ReadOld = tt
query_plain pk test (ReadNew (after.Turned rows)) = (tt, tt)
query_plain pk test (ReadNew after.Closed) = (tt, tt)
query_plain pk test (ReadNew after.Moved) = (tt, tt)

-- what a client knows speaks of no epoch
client_plain : (call : ClientCall) → AllPlain (actor_facts (Client call))
client_plain (client.Batch call) = place_plain call.batch call.place
client_plain (client.Query call) = query_plain call.pk call.filter call.place
client_plain (client.Page call) = half_plain call call.place call.half
client_plain client.Ended = tt

-- what another knows stays true when a client takes a turn
pub known_beside : (w w' : WorldState) (caller : ℕ) (call : ClientCall) (a' other : Actor) (r : Result Progress TurnFault) → Turned w caller (Client call) r w' a' → Knows w other → Knows w' other
known_beside w w' caller call a' other r t knows =
    let own = actor_facts (Client call) in
    all_known w' (actor_facts a') (actor_facts other) (all_kept w w' own (actor_facts a') (actor_facts other) t.1.keeps (all_stand w own (actor_facts other) (client_plain call) knows))

-- and over a client's whole call
pub known_over_call : (w w' : WorldState) (caller : ℕ) (call : ClientCall) (other : Actor) (r : Result Answer TurnFault) → EndsCall w caller (Client call) r w' → Knows w other → Knows w' other
known_over_call w w' caller call other r ends knows =
    let own = actor_facts (Client call) in
    all_known w' [] (actor_facts other) (all_kept w w' own [] (actor_facts other) ends.keeps (all_stand w own (actor_facts other) (client_plain call) knows))

-- ---- any actor

-- what stands beside an actor stands beside it after its turn
pub stands_beside : (w w' : WorldState) (caller : ℕ) (a a' other : Actor) (r : Result Progress TurnFault) → Turned w caller a r w' a' → AllStandBeside w (actor_facts a) (actor_facts other) → AllStandBeside w' (actor_facts a') (actor_facts other)
stands_beside w w' caller a a' other r t stand = all_kept w w' (actor_facts a) (actor_facts a') (actor_facts other) t.1.keeps stand

-- and after some steps of it
pub stands_over_steps : (w w' : WorldState) (caller : ℕ) (a a' other : Actor) (steps : ℕ) (s : Stepped) → TakesSteps w caller a steps s w' a' → AllStandBeside w (actor_facts a) (actor_facts other) → AllStandBeside w' (actor_facts a') (actor_facts other)
stands_over_steps w w' caller a a' other steps s t stand = all_kept w w' (actor_facts a) (actor_facts a') (actor_facts other) t.keeps stand

-- so that what the other knows is still true
pub known_over_steps : (w w' : WorldState) (caller : ℕ) (a a' other : Actor) (steps : ℕ) (s : Stepped) → TakesSteps w caller a steps s w' a' → AllStandBeside w (actor_facts a) (actor_facts other) → Knows w' other
known_over_steps w w' caller a a' other steps s t stand = all_known w' (actor_facts a') (actor_facts other) (stands_over_steps w w' caller a a' other steps s t stand)

-- what a cleaner knows speaks of no epoch: so what any other actor knows stays true over its steps, and what it knows over those of any other
pub known_over_cleaning : (w w' : WorldState) (caller : ℕ) (state : CleanerState) (a' other : Actor) (steps : ℕ) (s : Stepped) → TakesSteps w caller (Cleaner state) steps s w' a' → Knows w other → Knows w' other
known_over_cleaning w w' caller state a' other steps s t knows = known_over_steps w w' caller (Cleaner state) a' other steps s t (all_stand w (actor_facts (Cleaner state)) (actor_facts other) (all_plain state) knows)

pub cleaner_knows_still : (w w' : WorldState) (caller : ℕ) (a a' : Actor) (state : CleanerState) (steps : ℕ) (s : Stepped) → TakesSteps w caller a steps s w' a' → Knows w (Cleaner state) → Knows w' (Cleaner state)
cleaner_knows_still w w' caller a a' state steps s t knows = known_over_steps w w' caller a a' (Cleaner state) steps s t (plain_stand w (actor_facts a) (actor_facts (Cleaner state)) (all_plain state) knows)

-- a turn that comes to nothing leaves the actor so
left_by_fault : (c c' : Stage) (a a' : Actor) (fault : TurnFault) (entry : Option NewEntry) → Moves c a (Err fault) entry c' a' → a' ≡ after_fault a
left_by_fault c c' a a' StoreFault entry m = m.4
left_by_fault c c' a a' HistoryFull entry m = m.2
left_by_fault c c' a a' NoMemory entry m = m.2

-- a client's call is one after its turn, which may have ended it
client_moved : (call : ClientCall) (answer : StoreReply) (m : Move) → ActorMoves (Client call) answer m → (to : ClientCall) × (m.after ≡ Client to)
client_moved (client.Batch call) answer m moves = (let at = by moves.to moves.said in (at.0, ap (λ (x : Move). x.after) moves.is ∙ at.1)) where
  by : (to : Call) (said : BatchProgress) → (next : ClientCall) × ((batch_move to said).after ≡ Client next)
  by to batch.More = (client.Batch to, refl)
  by to (batch.Written tags) = (client.Ended, refl)
  by to (batch.Refused refusal) = (client.Ended, refl)
client_moved (client.Query call) answer m moves = (let at = by moves.to moves.said in (at.0, ap (λ (x : Move). x.after) moves.is ∙ at.1)) where
  by : (to : queries.Call) (said : QueryProgress) → (next : ClientCall) × ((query_move to said).after ≡ Client next)
  by to query.More = (client.Query to, refl)
  by to (query.Rows rows) = (client.Ended, refl)
client_moved (client.Page call) answer m moves = (let at = by moves.to moves.said in (at.0, ap (λ (x : Move). x.after) moves.is ∙ at.1)) where
  by : (to : pages.Page) (said : PageProgress) → (next : ClientCall) × ((page_move to moves.filter moves.rows said).after ≡ Client next)
  by to page.More = (client.Page to, refl)
  by to (page.Unit unit) = (client.Page to, refl)
  by to (page.Last unit) = (client.Ended, refl)
client_moved client.Ended answer m moves = absurd moves

pub client_stays : (w w' : WorldState) (caller : ℕ) (call : ClientCall) (a' : Actor) (r : Result Progress TurnFault) → Turned w caller (Client call) r w' a' → (to : ClientCall) × (a' ≡ Client to)
client_stays w w' caller call a' (Ok progress) t = client_moved call t.1.moves.1 _ t.1.moves.4
client_stays w w' caller call a' (Err fault) t = (client.Ended, left_by_fault _ _ (Client call) a' fault t.0 t.1.moves)

-- a migrator or a cleaner may take its turn again after a fault
pub migrator_stays : (w w' : WorldState) (caller : ℕ) (state : State) (a' : Actor) (fault : TurnFault) → Turned w caller (Migrator state) (Err fault) w' a' → a' ≡ Migrator state
migrator_stays w w' caller state a' fault t = left_by_fault _ _ (Migrator state) a' fault t.0 t.1.moves

pub cleaner_stays : (w w' : WorldState) (caller : ℕ) (state : CleanerState) (a' : Actor) (fault : TurnFault) → Turned w caller (Cleaner state) (Err fault) w' a' → a' ≡ Cleaner state
cleaner_stays w w' caller state a' fault t = left_by_fault _ _ (Cleaner state) a' fault t.0 t.1.moves

-- and a cleaner after each turn but its last
pub cleaner_goes : (w w' : WorldState) (caller : ℕ) (state : CleanerState) (a' : Actor) (progress : Progress) → Turned w caller (Cleaner state) (Ok progress) w' a' → (progress ≡ Done Cleaned → ⊥) → CanStep a'
cleaner_goes w w' caller state a' progress t other = (let m = cleaner_goes_on state t.1.moves.1 progress t.0 a' t.1.moves.4 in subst CanStep (sym m.after) (m.can other))
