-- A turn keeps the world, and does what it is to do: proved once for any actor whose step is one of the law for every step.
use Rattle.std.proofs.Common.{◌≡◌, ◌∙◌, ◌⊎◌, ℕ, ◌+◌, ◌-◌, ◌^◌, ◌≤◌, ◌<◌, Bool, true, false, List, refl, sym, ap, subst, arith, inl, inr, IsTrue, Option, Some, None, Result, Ok, Err}
use Rattle.std.specs.Prelude.{IsSome, not}
use Rattle.mt_model.specs.declared.entity.Entity.{Entity}
use Rattle.mt_chain.specs.declared.ask.Side.{Side}
use Rattle.mt_chain.specs.declared.ask.Side.TheVariants.{Old, New}
use Rattle.mt_chain.specs.declared.ask.Ask.{Ask}
use Rattle.mt_chain.specs.declared.ask.StoreAsk.{StoreAsk}
use Rattle.mt_chain.specs.declared.ask.StoreReply.{StoreReply}
use Rattle.mt_chain.specs.declared.ask.CallFault.{CallFault}
use Rattle.mt_chain.specs.declared.ask.CallFault.TheVariants as call_fault
use Rattle.mt_chain.specs.Rows.{are_rising}
use Rattle.mt_chain.specs.StoreCall.{Contents, IsContents}
use Rattle.mt_chain.specs.Asks.{FitsAsk}
use Rattle.mt_chain.specs.Store.{Store, Rose, Same}
use Rattle.mt_chain.specs.Table.{rows_of}
use Rattle.mt_history.specs.Kept.{has_room}
use Rattle.mt_history.specs.Replies.{Replies, refusal_reply}
use Rattle.mt_history.specs.Legal.{IsTrueAtEnd}
use Rattle.mt_meta.specs.Logical.{Pair}
use Rattle.mt_meta.specs.Sound.{IsSound}
use Rattle.mt_meta.specs.declared.fact.Fact.{Fact}
use Rattle.mt_meta.specs.Facts.{ApartFrom}
use Rattle.mt_meta.specs.Steps.{logical_table, AllHold, ActorStep, PairMeans}
use Rattle.mt_meta.proofs.Growth.{grows_self}
use Rattle.mt_meta.proofs.Actors.{others_kept}
use Rattle.mt_batch_plan.specs.declared.call.BatchProgress.{BatchProgress}
use Rattle.mt_batch_plan.specs.declared.call.BatchProgress.TheVariants as batch
use Rattle.mt_batch_plan.specs.Calls.{Call, CallFits, Asks, place_facts, call_facts}
use Rattle.mt_batch_plan.specs.BatchSteps.{Does}
use Rattle.mt_batch_plan.proofs.BatchLaw.{batch_law}
use Rattle.mt_query_plan.specs.declared.call.QueryProgress.{QueryProgress}
use Rattle.mt_query_plan.specs.declared.call.QueryProgress.TheVariants as query
use Rattle.mt_query_plan.specs.Queries as queries
use Rattle.mt_query_plan.specs.QuerySteps as query_steps
use Rattle.mt_query_plan.proofs.QueryLaw.{query_law}
use Rattle.mt_scan.specs.PageSteps.{contents_on}
use Rattle.mt_migrate.specs.declared.migrator.MoveProgress.{MoveProgress}
use Rattle.mt_migrate.specs.declared.migrator.MoveProgress.TheVariants as move
use Rattle.mt_clean.specs.declared.cleaner.CleanProgress.{CleanProgress}
use Rattle.mt_clean.specs.declared.cleaner.CleanProgress.TheVariants as clean
use Rattle.mt_world.specs.declared.actor.ClientCall.TheVariants as client
use Rattle.mt_world.specs.declared.actor.Actor.{Actor}
use Rattle.mt_world.specs.declared.actor.Actor.TheVariants.{Client, Migrator, Cleaner}
use Rattle.mt_world.specs.declared.actor.Progress.{Progress}
use Rattle.mt_world.specs.declared.actor.TurnFault.{TurnFault}
use Rattle.mt_world.specs.declared.actor.TurnFault.TheVariants.{StoreFault, HistoryFull, NoMemory}
use Rattle.mt_world.specs.Worlds.{WorldState, pair_of, ForPair, Tells, IsTrueOf, AreTrueOf, KeepsApart, window_of, table_now, next_number, number_due, faults_in, entry_of, IsReplayed, AreCounted, IsWorld}
use Rattle.mt_world.specs.Moves.{NewEntry, Move, BatchMoves, batch_move, QueryMoves, query_move, ActorFits, ActorAsks, ActorMoves, actor_facts, need_of, after_fault, fault_entry, retired_by, migrator_move, cleaner_move, retired_where}
use Rattle.mt_world.specs.Logs.{raised, Adds, faults_after}
use Rattle.mt_world.specs.Turns.{Stage, log_of, stage_of, CallsOn, OneCall, NoCall, CalledInVain, Moves, IsCalledOn, RiseTogether, TakesTurn, TakesSomeTurn, RepliesAt, SaysAt, Knows, IsSameWorld, Turns, Turned}
use Rattle.mt_world.proofs.PairLaws.{told_before, for_pair, at_pair, same_pair, IsQuiet, quiet_tells, Before, before, called_tells, failed_quiet, failed_rose, IsCalled, called, not_called, stays_same}
use Rattle.mt_world.proofs.LogLaws.{due_step, counted_with, room_few}
use Rattle.mt_world.proofs.PageSteps.{page_step, page_no_fault, page_not_retired}
use Rattle.mt_world.proofs.EntryLaws.{EntryDoes, replay_on, replies_same, says_true, counts_on, counts_rise}
use Rattle.mt_world.proofs.MigratorLaws.{migrator_step}
use Rattle.mt_world.proofs.CleanerLaws.{cleaner_step}

-- ---- the step of each actor, by the law of its machine

-- what a batch's step does, as the entry that it leaves says it
batch_does : (to : Call) (said : BatchProgress) (p q : Pair) → Does to.batch said p q → EntryDoes (batch_move to said).entry p q
batch_does to batch.More p q does = λ key. ap (λ x. logical_table x key) does
batch_does to (batch.Written tags) p q does = (does, refl)
batch_does to (batch.Refused refusal) p q does = ((λ key. ap (λ x. logical_table x key) does.0, subst IsSome (sym does.1) refl), ap refusal_reply (sym does.1))

-- what it knows afterwards, and that others' facts are apart from that
batch_knows : (said : BatchProgress) (call to : Call) (q : Pair) (retired : Bool) → to.batch ≡ call.batch → AllHold q retired (place_facts call.batch to.place) → AllHold q retired (actor_facts (batch_move to said).after)
batch_knows batch.More call to q retired same knows = subst (λ ops. AllHold q retired (place_facts ops to.place)) (sym same) knows
batch_knows (batch.Written tags) call to q retired same knows = tt
batch_knows (batch.Refused refusal) call to q retired same knows = tt

batch_apart : (said : BatchProgress) (call to : Call) (f : Fact) → to.batch ≡ call.batch → ApartFrom f (place_facts call.batch to.place) → ApartFrom f (actor_facts (batch_move to said).after)
batch_apart batch.More call to f same apart = subst (λ ops. ApartFrom f (place_facts ops to.place)) (sym same) apart
batch_apart (batch.Written tags) call to f same apart = tt
batch_apart (batch.Refused refusal) call to f same apart = tt

-- a step of an actor over a told pair, with a reply that means so
abbrev pub ActorSteps : Actor → Bool → Move → Pair → Pair → Type 0
ActorSteps a retired move p q = ActorStep (actor_facts a) (actor_facts move.after) retired (retired_by a (Ok move.progress) retired) (EntryDoes move.entry) p q

batch_step : (call : Call) (ask : StoreAsk) (answer : StoreReply) (move : Move) (p q : Pair) (retired : Bool) → CallFits call → Asks call.batch call.place ask → PairMeans ask answer p q → BatchMoves call answer move
    → IsSound p → AllHold p retired (call_facts call) → ActorSteps (Client (client.Batch call)) retired move p q
batch_step call ask answer move p q retired fits asks means moves sound knows = subst (λ m. ActorSteps (Client (client.Batch call)) retired m p q) (sym moves.is) by where
  s : ActorStep (place_facts call.batch call.place) (place_facts call.batch moves.to.place) retired retired (Does call.batch moves.said) p q
  s = batch_law call.batch call.place moves.to.place ask answer moves.said p q retired fits.batch fits.place sound knows asks means moves.absorbs

  by : ActorSteps (Client (client.Batch call)) retired (batch_move moves.to moves.said) p q
  by = record {
    sound = s.sound;
    grows = s.grows;
    knows = batch_knows moves.said call moves.to q retired moves.same s.knows;
    apart = λ f holds apart. batch_apart moves.said call moves.to f moves.same (s.apart f holds apart);
    stays = s.stays;
    retires = s.retires;
    does = batch_does moves.to moves.said p q (subst (λ ops. Does ops moves.said p q) (sym moves.same) s.does);
  }

-- what a query's step does, as the entry that it leaves says it
query_does : (to : queries.Call) (said : QueryProgress) (p q : Pair) → query_steps.Does to.pk to.filter said p q → EntryDoes (query_move to said).entry p q
query_does to query.More p q does = λ key. ap (λ x. logical_table x key) does
query_does to (query.Rows rows) p q does = ((λ key. ap (λ x. logical_table x key) does.0), does.1)

-- the same query at another place
abbrev same_query : queries.Call → queries.Call → Type 0
same_query to call = (to.pk ≡ call.pk) × (to.filter ≡ call.filter)

query_knows : (said : QueryProgress) (call to : queries.Call) (q : Pair) (retired : Bool) → same_query to call → AllHold q retired (queries.place_facts call.pk call.filter to.place) → AllHold q retired (actor_facts (query_move to said).after)
query_knows query.More call to q retired same knows = subst (λ pk. AllHold q retired (queries.place_facts pk to.filter to.place)) (sym same.0) (subst (λ f. AllHold q retired (queries.place_facts call.pk f to.place)) (sym same.1) knows)
query_knows (query.Rows rows) call to q retired same knows = tt

query_apart : (said : QueryProgress) (call to : queries.Call) (f : Fact) → same_query to call → ApartFrom f (queries.place_facts call.pk call.filter to.place) → ApartFrom f (actor_facts (query_move to said).after)
query_apart query.More call to f same apart = subst (λ pk. ApartFrom f (queries.place_facts pk to.filter to.place)) (sym same.0) (subst (λ t. ApartFrom f (queries.place_facts call.pk t to.place)) (sym same.1) apart)
query_apart (query.Rows rows) call to f same apart = tt

query_step : (call : queries.Call) (ask : StoreAsk) (answer : StoreReply) (move : Move) (p q : Pair) (retired : Bool) → ask ≡ queries.asks call → PairMeans ask answer p q → QueryMoves call answer move
    → IsSound p → AllHold p retired (queries.call_facts call) → ActorSteps (Client (client.Query call)) retired move p q
query_step call ask answer move p q retired asks means moves sound knows = subst (λ m. ActorSteps (Client (client.Query call)) retired m p q) (sym moves.is) by where
  s : query_steps.QueryStep call.pk call.filter call.place moves.to.place retired moves.said p q
  s = query_law call.pk call.filter call.place moves.to.place ask answer moves.said p q retired sound knows asks means moves.absorbs

  same : same_query moves.to call
  same = (moves.pk, moves.filter)

  by : ActorSteps (Client (client.Query call)) retired (query_move moves.to moves.said) p q
  by = record {
    sound = s.sound;
    grows = s.grows;
    knows = query_knows moves.said call moves.to q retired same s.knows;
    apart = λ f holds apart. query_apart moves.said call moves.to f same (s.apart f holds apart);
    stays = s.stays;
    retires = s.retires;
    does = query_does moves.to moves.said p q (subst (λ pk. query_steps.Does pk moves.to.filter moves.said p q) (sym moves.pk) (subst (λ f. query_steps.Does call.pk f moves.said p q) (sym moves.filter) s.does));
  }

-- each kind of actor has its line here
pub actor_step : (a : Actor) (ask : StoreAsk) (answer : StoreReply) (move : Move) (p q : Pair) (retired : Bool) → FitsAsk ask.ask answer → IsContents (contents_on ask.side q) → ActorFits a → ActorAsks a ask → PairMeans ask answer p q → ActorMoves a answer move
    → p.old_number < p.new_number → IsContents p.old × IsContents p.new → IsSound p → AllHold p retired (actor_facts a) → ActorSteps a retired move p q
actor_step (Client (client.Batch call)) ask answer move p q retired fit rises fits asks means moves below contents sound knows = batch_step call ask answer move p q retired fits asks means moves sound knows
actor_step (Client (client.Query call)) ask answer move p q retired fit rises fits asks means moves below contents sound knows = query_step call ask answer move p q retired asks means moves sound knows
actor_step (Client (client.Page call)) ask answer move p q retired fit rises fits asks means moves below contents sound knows = page_step call ask answer move p q retired fit rises fits asks means moves sound knows
actor_step (Client client.Ended) ask answer move p q retired fit rises fits asks means moves below contents sound knows = absurd asks
actor_step (Migrator state) ask answer move p q retired fit rises fits asks means moves below contents sound knows = migrator_step state ask answer move p q retired fits below contents asks means moves sound knows
actor_step (Cleaner state) ask answer move p q retired fit rises fits asks means moves below contents sound knows = cleaner_step state ask answer move p q retired fits contents asks means moves sound knows

-- a turn that comes to nothing leaves an actor that knows nothing more than before, and the world as retired as it was
fault_knows : (a : Actor) (p : Pair) (retired : Bool) → AllHold p retired (actor_facts a) → AllHold p retired (actor_facts (after_fault a))
fault_knows (Client call) p retired knows = tt
fault_knows (Migrator state) p retired knows = knows
fault_knows (Cleaner state) p retired knows = knows

fault_apart : (a : Actor) (f : Fact) → ApartFrom f (actor_facts a) → ApartFrom f (actor_facts (after_fault a))
fault_apart (Client call) f apart = tt
fault_apart (Migrator state) f apart = apart
fault_apart (Cleaner state) f apart = apart

fault_retired : (a : Actor) (fault : TurnFault) (retired : Bool) → retired_by a (Err fault) retired ≡ retired
fault_retired (Client call) fault retired = refl
fault_retired (Migrator state) fault retired = refl
fault_retired (Cleaner state) fault retired = refl

-- ---- what all turns keep

-- what the code leaves alone
pub record IsFramed (w : WorldState) (a : Actor) (r : Result Progress TurnFault) (w' : WorldState) : Type 0 where
  pub base : w'.base ≡ w.base
  pub generation : w'.generation ≡ w.generation
  pub retired : w'.retired ≡ retired_by a r w.retired
  pub opened_faults : w'.opened_faults ≡ w.opened_faults

pub moved : (c c' : Stage) (a a' : Actor) (r : Result Progress TurnFault) (entry : Option NewEntry) → Moves c a r entry c' a' → IsCalled c.old_store c.new_store c'.old_store c'.new_store
moved c c' a a' (Ok progress) entry m = called c.old_store c.new_store c'.old_store c'.new_store m.0.side m.0.ask (Ok m.1) m.3.on
moved c c' a a' (Err StoreFault) entry m = called c.old_store c.new_store c'.old_store c'.new_store m.0.side m.0.ask (Err call_fault.Failed) m.2.on
moved c c' a a' (Err HistoryFull) entry m = not_called c.old_store c.new_store c'.old_store c'.new_store m.0.old_store m.0.new_store
moved c c' a a' (Err NoMemory) entry m = elim m.0 as (λ _. IsCalled c.old_store c.new_store c'.old_store c'.new_store) [
  | inl none ↦ not_called c.old_store c.new_store c'.old_store c'.new_store none.old_store none.new_store
  | inr vain ↦ called c.old_store c.new_store c'.old_store c'.new_store vain.ask.side vain.ask.ask vain.answer vain.call.on
]

-- counts of calls
same_calls : (s t : Store) → t ≡ s → t.calls ≡ s.calls
same_calls s t e = ap (λ (x : Store). x.calls) e

called_once : (c c' : Stage) (side : Side) (ask : Ask) (r : Result StoreReply CallFault) → CallsOn side c.old_store c.new_store ask r c'.old_store c'.new_store → IsCalledOn side c c'
called_once c c' Old ask r h = (h.0.counted.calls, same_calls c.new_store c'.new_store h.1)
called_once c c' New ask r h = (same_calls c.old_store c'.old_store h.1, h.0.counted.calls)

one_rises : (c c' : Stage) (ask : StoreAsk) (r : Result StoreReply CallFault) → OneCall c ask r c' → RiseTogether c c'
one_rises c c' ask r one = inr (ask.side, called_once c c' ask.side ask.ask r one.on, one.counted)

none_rises : (c c' : Stage) → NoCall c c' → RiseTogether c c'
none_rises c c' none = inl (same_calls c.old_store c'.old_store none.old_store, same_calls c.new_store c'.new_store none.new_store, none.calls)

rises : (c c' : Stage) (a a' : Actor) (r : Result Progress TurnFault) (entry : Option NewEntry) → Moves c a r entry c' a' → RiseTogether c c'
rises c c' a a' (Ok progress) entry m = one_rises c c' m.0 (Ok m.1) m.3
rises c c' a a' (Err StoreFault) entry m = one_rises c c' m.0 (Err call_fault.Failed) m.2
rises c c' a a' (Err HistoryFull) entry m = none_rises c c' m.0
rises c c' a a' (Err NoMemory) entry m = elim m.0 as (λ _. RiseTogether c c') [ inl none ↦ none_rises c c' none | inr vain ↦ one_rises c c' vain.ask vain.answer vain.call ]

same_world : (w w' : WorldState) (caller : ℕ) (a a' : Actor) (r : Result Progress TurnFault) (entry : Option NewEntry) → IsFramed w a r w' → TakesTurn (stage_of w) caller a r entry (stage_of w') a' → IsSameWorld w w'
same_world w w' caller a a' r entry frame takes =
    let k = moved (stage_of w) (stage_of w') a a' r entry takes.moves in
    record {
      old_number = k.old_number;
      new_number = k.new_number;
      base = frame.base;
      first = takes.adds.first;
      limit = takes.adds.limit;
      generation = frame.generation;
      opened_faults = frame.opened_faults;
    }

-- ---- a world from its parts

-- a turn that leaves an entry found room for it
full_room : (b : Bool) → false ≡ not b → b ≡ true
full_room true e = refl
full_room false e = absurd cc

entry_room : (c c' : Stage) (caller : ℕ) (a a' : Actor) (r : Result Progress TurnFault) (e : NewEntry) → TakesTurn c caller a r (Some e) c' a' → has_room c.log.history (need_of a) ≡ true
entry_room c c' caller a a' (Ok progress) e takes = full_room (has_room c.log.history (need_of a)) takes.full
entry_room c c' caller a a' (Err StoreFault) e takes = full_room (has_room c.log.history (need_of a)) takes.full
entry_room c c' caller a a' (Err HistoryFull) e takes = absurd (let x : Some e ≡ None = takes.moves.1 in cc)
entry_room c c' caller a a' (Err NoMemory) e takes = absurd (let x : Some e ≡ None = takes.moves.1 in cc)

due_on : (w w' : WorldState) (caller : ℕ) (entry : Option NewEntry) → ((q : ℕ) → next_number w.numbers q ≡ number_due w.history.entries q) → Adds (log_of w) caller entry (log_of w') → (q : ℕ) → next_number w'.numbers q ≡ number_due w'.history.entries q
due_on w w' caller None due adds q = adds.numbers q ∙ due q ∙ ap (λ es. number_due es q) (sym adds.entries)
due_on w w' caller (Some e) due adds q = adds.numbers q ∙ due_step w.numbers w.history.entries (entry_of w.numbers caller e.what) due refl q ∙ ap (λ es. number_due es q) (sym adds.entries)

faults_on : (w w' : WorldState) (caller : ℕ) (a a' : Actor) (r : Result Progress TurnFault) (entry : Option NewEntry) → w.fault_entries ≡ faults_in w.history.entries → w.history.limit ≤ 1048576
    → TakesTurn (stage_of w) caller a r entry (stage_of w') a' → w'.fault_entries ≡ faults_in w'.history.entries
faults_on w w' caller a a' r None counted bounded takes = takes.adds.fault_entries ∙ counted ∙ ap faults_in (sym takes.adds.entries)
faults_on w w' caller a a' r (Some e) counted bounded takes =
    let few = room_few w.history (need_of a) (entry_room (stage_of w) (stage_of w') caller a a' r e takes) in
    takes.adds.fault_entries ∙ counted_with w.history.entries (entry_of w.numbers caller e.what) w.fault_entries counted (omega (arith, few, bounded)) ∙ ap faults_in (sym takes.adds.entries)

kept : (w w' : WorldState) (caller : ℕ) (a a' : Actor) (r : Result Progress TurnFault) (entry : Option NewEntry) → IsWorld w → IsSameWorld w w' → TakesTurn (stage_of w) caller a r entry (stage_of w') a'
    → ForPair w' (IsReplayed w') → AreCounted w' → IsWorld w'
kept w w' caller a a' r entry world same takes replayed counted = record {
  numbers = (ap (λ n. n + 1) same.old_number ∙ world.numbers.0 ∙ sym same.generation, same.new_number ∙ world.numbers.1 ∙ sym same.generation);
  whole = same.first ∙ world.whole;
  bounded = subst (λ n. n ≤ 1048576) (sym same.limit) world.bounded;
  rising = subst (λ base. IsTrue (are_rising (rows_of base))) (sym same.base) world.rising;
  replayed = replayed;
  due = λ whole. due_on w w' caller entry (world.due world.whole) takes.adds;
  fault_entries = λ whole. faults_on w w' caller a a' r entry (world.fault_entries world.whole) world.bounded takes;
  faults = counted;
}

-- old comes before new
stores_below : (w : WorldState) → IsWorld w → w.old_store.number < w.new_store.number
stores_below w world = (let a = world.numbers.0 in let b = world.numbers.1 in omega (arith, a, b))

-- the counts of faults where no entry of a fault comes
counted_on : (w w' : WorldState) → IsWorld w → IsSameWorld w w' → IsCalled w.old_store w.new_store w'.old_store w'.new_store → w'.fault_entries ≡ w.fault_entries → AreCounted w'
counted_on w w' world same called faults =
    subst (λ x. (x ≤ w'.old_store.faults + w'.new_store.faults) ⊎ ((2 ^ 64 - 1 ≤ w'.old_store.faults) ⊎ (2 ^ 64 - 1 ≤ w'.new_store.faults))) sums
    (counts_on w.opened_faults w.fault_entries w.old_store.faults w.new_store.faults w'.old_store.faults w'.new_store.faults called.old_faults called.new_faults world.faults) where
      sums : w.opened_faults + w.fault_entries ≡ w'.opened_faults + w'.fault_entries
      sums = (let a = same.opened_faults in omega (arith, a, faults))

-- and where one comes
counted_fault : (w w' : WorldState) → IsWorld w → IsSameWorld w w' → IsCalled w.old_store w.new_store w'.old_store w'.new_store
    → Rose w.old_store.faults w'.old_store.faults ⊎ Rose w.new_store.faults w'.new_store.faults → w'.fault_entries ≡ raised w.fault_entries → AreCounted w'
counted_fault w w' world same called rose faults =
    subst (λ x. (x + w'.fault_entries ≤ w'.old_store.faults + w'.new_store.faults) ⊎ ((2 ^ 64 - 1 ≤ w'.old_store.faults) ⊎ (2 ^ 64 - 1 ≤ w'.new_store.faults))) (sym same.opened_faults)
    (counts_rise w.opened_faults w.fault_entries w'.fault_entries w.old_store.faults w.new_store.faults w'.old_store.faults w'.new_store.faults called.old_faults called.new_faults (omega (arith, faults)) rose world.faults)

-- ---- turns over a pair that is told before and after

-- what a turn gives: the world is kept, and the turn is one
pub record KeptAndTurned (w : WorldState) (caller : ℕ) (a : Actor) (r : Result Progress TurnFault) (entry : Option NewEntry) (w' : WorldState) (a' : Actor) : Type 0 where
  pub world : IsWorld w'
  pub turns : Turns w caller a r entry w' a'

-- what is known of two told pairs, before the turn and after it
pub record ToldStep (w w' : WorldState) (a a' : Actor) (entry : Option NewEntry) (p q : Pair) : Type 0 where
  pub below : p.old_number < p.new_number
  pub replayed : IsReplayed w p
  pub contents : IsContents q.old × IsContents q.new
  pub step : ActorStep (actor_facts a) (actor_facts a') w.retired w'.retired (EntryDoes entry) p q

reply_at : (w : WorldState) (entry : Option NewEntry) (w' : WorldState) → ((e : NewEntry) → entry ≡ Some e → ForPair w' (λ p. Replies e.what (table_now w) e.reply)) → RepliesAt w entry w'
reply_at w None w' h = tt
reply_at w (Some e) w' h = h e refl

says_at : (w : WorldState) (entry : Option NewEntry) (w' : WorldState) → ((e : NewEntry) → entry ≡ Some e → ForPair w' (λ p. IsTrueAtEnd (window_of w) e.what)) → SaysAt w entry w'
says_at w None w' h = tt
says_at w (Some e) w' h = h e refl

stepped_turn : (w w' : WorldState) (caller : ℕ) (a a' : Actor) (r : Result Progress TurnFault) (entry : Option NewEntry) → IsWorld w → IsFramed w a r w' → (Tells w' → Tells w) → AreCounted w'
    → TakesTurn (stage_of w) caller a r entry (stage_of w') a'
    → ((a1 b1 : Contents) → w'.old_store.told ≡ Some a1 → w'.new_store.told ≡ Some b1 → (a0 : Contents) × (b0 : Contents) × (w.old_store.told ≡ Some a0) × (w.new_store.told ≡ Some b0) × ToldStep w w' a a' entry (pair_of w a0 b0) (pair_of w a1 b1))
    → KeptAndTurned w caller a r entry w' a'
stepped_turn w w' caller a a' r entry world frame tells counted takes steps = record {
  world = kept w w' caller a a' r entry world same takes replayed counted;
  turns = record {
    fits = takes.fits;
    same = same;
    retired = frame.retired;
    tells = tells;
    full = takes.full;
    moves = takes.moves;
    calls = rises (stage_of w) (stage_of w') a a' r entry takes.moves;
    adds = takes.adds;
    replies = reply_at w entry w' replies;
    says = says_at w entry w' says;
    knows = by_step (λ p. AreTrueOf w' p (actor_facts a')) (λ p q t. t.step.knows);
    keeps = keeps;
  };
} where
  same : IsSameWorld w w'
  same = same_world w w' caller a a' r entry frame takes

  by_step : (P : Pair → Type 0) → ((p q : Pair) → ToldStep w w' a a' entry p q → P q) → ForPair w' P
  by_step P f = for_pair w' P (λ a1 b1 ea eb. (let s = steps a1 b1 ea eb in subst P (sym (same_pair w w' same a1 b1)) (f (pair_of w s.0 s.1) (pair_of w a1 b1) s.4)))

  replayed : ForPair w' (IsReplayed w')
  replayed = for_pair w' (IsReplayed w') (λ a1 b1 ea eb. (let s = steps a1 b1 ea eb in let t = s.4 in subst (IsReplayed w') (sym (same_pair w w' same a1 b1))
      (replay_on w w' caller (actor_facts a) (actor_facts a') (pair_of w s.0 s.1) (pair_of w a1 b1) entry takes.adds.entries t.replayed
      (record { same = same; below = stores_below w world; due = world.due world.whole; contents = t.contents; step = t.step }))))

  replies : (e : NewEntry) → entry ≡ Some e → ForPair w' (λ p. Replies e.what (table_now w) e.reply)
  replies e is = by_step (λ p. Replies e.what (table_now w) e.reply) (λ p q t. (let d = subst (λ x. EntryDoes x p q) is t.step.does in replies_same e.what (logical_table p) (table_now w) e.reply t.replayed.table d.1))

  says : (e : NewEntry) → entry ≡ Some e → ForPair w' (λ p. IsTrueAtEnd (window_of w) e.what)
  says e is = by_step (λ p. IsTrueAtEnd (window_of w) e.what) (λ p q t. (let d = subst (λ x. EntryDoes x p q) is t.step.does in says_true w e.what p q t.below t.replayed d.0))

  keeps : KeepsApart w (actor_facts a) w' (actor_facts a')
  keeps f stands = for_pair w' (λ p. IsTrueOf w' p f × ApartFrom f (actor_facts a')) (λ a1 b1 ea eb. (let s = steps a1 b1 ea eb in let t = s.4 in
      let was = at_pair w (λ p. IsTrueOf w p f × ApartFrom f (actor_facts a)) s.0 s.1 s.2 s.3 stands in
      subst (λ p. IsTrueOf w' p f × ApartFrom f (actor_facts a')) (sym (same_pair w w' same a1 b1)) (others_kept _ _ _ _ _ _ _ t.step t.replayed.sound f was.0 was.1)))

-- ---- turns that leave what the stores hold

-- a step of an actor that came to nothing, or to the entry of a fault
quiet_step : (w w' : WorldState) (a : Actor) (entry : Option NewEntry) (p : Pair) → p.old_number < p.new_number → IsReplayed w p → AllHold p w.retired (actor_facts a) → w'.retired ≡ w.retired → EntryDoes entry p p → ToldStep w w' a (after_fault a) entry p p
quiet_step w w' a entry p below h knows same does = record {
  below = below;
  replayed = h;
  contents = h.contents;
  step = record {
    sound = h.sound;
    grows = grows_self (actor_facts a) p h.sound;
    knows = fault_knows a p w'.retired (subst (λ r. AllHold p r (actor_facts a)) (sym same) knows);
    apart = λ f holds apart. fault_apart a f apart;
    stays = λ r. same ∙ r;
    retires = λ r. inl (sym same ∙ r);
    does = does;
  };
}

quiet_steps : (w w' : WorldState) (a : Actor) (entry : Option NewEntry) → IsWorld w → Knows w a → w'.retired ≡ w.retired → IsQuiet w w' → ((p : Pair) → EntryDoes entry p p)
    → (a1 b1 : Contents) → w'.old_store.told ≡ Some a1 → w'.new_store.told ≡ Some b1 → (a0 : Contents) × (b0 : Contents) × (w.old_store.told ≡ Some a0) × (w.new_store.told ≡ Some b0) × ToldStep w w' a (after_fault a) entry (pair_of w a0 b0) (pair_of w a1 b1)
quiet_steps w w' a entry world knows same quiet does a1 b1 ea eb =
    let x = told_before Same w.old_store.told w'.old_store.told a1 ea quiet.old in
    let y = told_before Same w.new_store.told w'.new_store.told b1 eb quiet.new in (
      x.0,
      y.0,
      x.1,
      y.1,
      subst (λ c. ToldStep w w' a (after_fault a) entry (pair_of w x.0 y.0) (pair_of w c b1)) (sym x.2) (subst (λ c. ToldStep w w' a (after_fault a) entry (pair_of w x.0 y.0) (pair_of w x.0 c)) (sym y.2)
          (quiet_step w w' a entry (pair_of w x.0 y.0) (stores_below w world) (at_pair w (IsReplayed w) x.0 y.0 x.1 y.1 world.replayed) (at_pair w (λ p. AreTrueOf w p (actor_facts a)) x.0 y.0 x.1 y.1 knows) same (does (pair_of w x.0 y.0)))),
    )

-- a turn that comes to nothing
quiet_turn : (w w' : WorldState) (caller : ℕ) (a : Actor) (fault : TurnFault) (entry : Option NewEntry) → IsWorld w → Knows w a → IsFramed w a (Err fault) w' → IsQuiet w w' → AreCounted w' → ((p : Pair) → EntryDoes entry p p)
    → TakesTurn (stage_of w) caller a (Err fault) entry (stage_of w') (after_fault a) → KeptAndTurned w caller a (Err fault) entry w' (after_fault a)
quiet_turn w w' caller a fault entry world knows frame quiet counted does takes =
    stepped_turn w w' caller a (after_fault a) (Err fault) entry world frame (quiet_tells w w' quiet) counted takes
    (quiet_steps w w' a entry world knows (frame.retired ∙ fault_retired a fault w.retired) quiet does)

still_none : (p : Pair) → EntryDoes None p p
still_none p key = refl

still_fault : (p : Pair) → EntryDoes (Some fault_entry) p p
still_fault p = (λ key. refl, refl)

fault_turn : (w w' : WorldState) (caller : ℕ) (a a' : Actor) (entry : Option NewEntry) → IsWorld w → Knows w a → IsFramed w a (Err StoreFault) w' → TakesTurn (stage_of w) caller a (Err StoreFault) entry (stage_of w') a' → KeptAndTurned w caller a (Err StoreFault) entry w' a'
fault_turn w w' caller a a' entry world knows frame takes =
    let m = takes.moves in
    subst (λ x. KeptAndTurned w caller a (Err StoreFault) entry w' x) (sym m.4) (subst (λ x. KeptAndTurned w caller a (Err StoreFault) x w' (after_fault a)) (sym m.3)
    (let t = subst (λ x. TakesTurn (stage_of w) caller a (Err StoreFault) x (stage_of w') (after_fault a)) m.3 (subst (λ x. TakesTurn (stage_of w) caller a (Err StoreFault) entry (stage_of w') x) m.4 takes) in
    let same = same_world w w' caller a (after_fault a) (Err StoreFault) (Some fault_entry) frame t in
    quiet_turn w w' caller a StoreFault (Some fault_entry) world knows frame (failed_quiet w w' m.0.side m.0.ask m.2.on)
    (counted_fault w w' world same (moved (stage_of w) (stage_of w') a (after_fault a) (Err StoreFault) (Some fault_entry) t.moves) (failed_rose w w' m.0.side m.0.ask m.2.on) t.adds.fault_entries)
    still_fault t))

none_turn : (w w' : WorldState) (caller : ℕ) (a a' : Actor) (fault : TurnFault) (entry : Option NewEntry) → IsWorld w → Knows w a → IsFramed w a (Err fault) w' → IsQuiet w w' → entry ≡ None → a' ≡ after_fault a
    → TakesTurn (stage_of w) caller a (Err fault) entry (stage_of w') a' → KeptAndTurned w caller a (Err fault) entry w' a'
none_turn w w' caller a a' fault entry world knows frame quiet none over takes =
    subst (λ x. KeptAndTurned w caller a (Err fault) entry w' x) (sym over) (subst (λ x. KeptAndTurned w caller a (Err fault) x w' (after_fault a)) (sym none)
    (let t = subst (λ x. TakesTurn (stage_of w) caller a (Err fault) x (stage_of w') (after_fault a)) none (subst (λ x. TakesTurn (stage_of w) caller a (Err fault) entry (stage_of w') x) over takes) in
    let same = same_world w w' caller a (after_fault a) (Err fault) None frame t in
    quiet_turn w w' caller a fault None world knows frame quiet
    (counted_on w w' world same (moved (stage_of w) (stage_of w') a (after_fault a) (Err fault) None t.moves) t.adds.fault_entries)
    still_none t))

full_turn : (w w' : WorldState) (caller : ℕ) (a a' : Actor) (entry : Option NewEntry) → IsWorld w → Knows w a → IsFramed w a (Err HistoryFull) w' → TakesTurn (stage_of w) caller a (Err HistoryFull) entry (stage_of w') a' → KeptAndTurned w caller a (Err HistoryFull) entry w' a'
full_turn w w' caller a a' entry world knows frame takes =
    let m = takes.moves in
    none_turn w w' caller a a' HistoryFull entry world knows frame (record { old = stays_same w.old_store w'.old_store m.0.old_store; new = stays_same w.new_store w'.new_store m.0.new_store }) m.1 m.2 takes

memory_turn : (w w' : WorldState) (caller : ℕ) (a a' : Actor) (entry : Option NewEntry) → IsWorld w → Knows w a → IsFramed w a (Err NoMemory) w' → TakesTurn (stage_of w) caller a (Err NoMemory) entry (stage_of w') a' → KeptAndTurned w caller a (Err NoMemory) entry w' a'
memory_turn w w' caller a a' entry world knows frame takes = none_turn w w' caller a a' NoMemory entry world knows frame (quiet_by takes.moves.0) takes.moves.1 takes.moves.2 takes where
  quiet_by : NoCall (stage_of w) (stage_of w') ⊎ CalledInVain (stage_of w) a (stage_of w') → IsQuiet w w'
  quiet_by (inl none) = record { old = stays_same w.old_store w'.old_store none.old_store; new = stays_same w.new_store w'.new_store none.new_store }
  quiet_by (inr vain) = record { old = vain.old_same; new = vain.new_same }

-- ---- turns that the stores answered

-- an answer leaves no entry of a fault
no_fault : (a a' : Actor) (answer : StoreReply) (progress : Progress) (entry : Option NewEntry) (count : ℕ) → ActorMoves a answer (record { progress = progress; entry = entry; after = a' }) → faults_after entry count ≡ count
no_fault (Client (client.Batch call)) a' answer progress entry count moves = ap (λ (m : Move). faults_after m.entry count) moves.is ∙ by moves.said where
  by : (said : BatchProgress) → faults_after (batch_move moves.to said).entry count ≡ count
  by batch.More = refl
  by (batch.Written tags) = refl
  by (batch.Refused refusal) = refl
no_fault (Client (client.Query call)) a' answer progress entry count moves = ap (λ (m : Move). faults_after m.entry count) moves.is ∙ by moves.said where
  by : (said : QueryProgress) → faults_after (query_move moves.to said).entry count ≡ count
  by query.More = refl
  by (query.Rows rows) = refl
no_fault (Client (client.Page call)) a' answer progress entry count moves = ap (λ (m : Move). faults_after m.entry count) moves.is ∙ page_no_fault moves.to moves.filter moves.rows moves.said count
no_fault (Client client.Ended) a' answer progress entry count moves = absurd moves
no_fault (Migrator state) a' answer progress entry count moves = ap (λ (m : Move). faults_after m.entry count) moves.is ∙ by moves.said where
  by : (said : MoveProgress) → faults_after (migrator_move moves.to said).entry count ≡ count
  by move.More = refl
  by move.Done = refl
no_fault (Cleaner state) a' answer progress entry count moves = ap (λ (m : Move). faults_after m.entry count) moves.is ∙ by moves.said where
  by : (said : CleanProgress) → faults_after (cleaner_move moves.to said).entry count ≡ count
  by clean.More = refl
  by clean.Done = refl
  by clean.NotSealed = refl
  by (clean.NotMigrated pk) = refl

ok_turn : (w w' : WorldState) (caller : ℕ) (a a' : Actor) (progress : Progress) (entry : Option NewEntry) → IsWorld w → Knows w a → IsFramed w a (Ok progress) w' → TakesTurn (stage_of w) caller a (Ok progress) entry (stage_of w') a' → KeptAndTurned w caller a (Ok progress) entry w' a'
ok_turn w w' caller a a' progress entry world knows frame takes =
    let m = takes.moves in
    stepped_turn w w' caller a a' (Ok progress) entry world frame (called_tells w w' m.0.side m.0.ask m.1 m.3.on)
    (counted_on w w' world (same_world w w' caller a a' (Ok progress) entry frame takes) (moved (stage_of w) (stage_of w') a a' (Ok progress) entry m) (takes.adds.fault_entries ∙ no_fault a a' m.1 progress entry w.fault_entries m.4))
    takes (λ a1 b1 ea eb. step m.0 m.1 a1 b1 m.2 m.4 (before w w' m.0.side m.0.ask m.1 a1 b1 ea eb m.3.on)) where
      step : (ask : StoreAsk) (answer : StoreReply) (a1 b1 : Contents) → ActorAsks a ask → ActorMoves a answer (record { progress = progress; entry = entry; after = a' }) → Before w ask answer a1 b1
          → (a0 : Contents) × (b0 : Contents) × (w.old_store.told ≡ Some a0) × (w.new_store.told ≡ Some b0) × ToldStep w w' a a' entry (pair_of w a0 b0) (pair_of w a1 b1)
      step ask answer a1 b1 asks moves k =
          let h = at_pair w (IsReplayed w) k.a k.b k.old k.new world.replayed in
          let knows_of = at_pair w (λ p. AreTrueOf w p (actor_facts a)) k.a k.b k.old k.new knows in (
            k.a,
            k.b,
            k.old,
            k.new,
            record {
              below = stores_below w world;
              replayed = h;
              contents = k.contents h.contents;
              step = subst (λ r. ActorStep (actor_facts a) (actor_facts a') w.retired r (EntryDoes entry) (pair_of w k.a k.b) (pair_of w a1 b1)) (sym frame.retired)
                  (actor_step a ask answer (record { progress = progress; entry = entry; after = a' }) (pair_of w k.a k.b) (pair_of w a1 b1) w.retired k.fits k.rises takes.fits asks k.means moves (stores_below w world) h.contents h.sound knows_of);
            },
          )

-- a turn on the stage of a world is a turn of the world
pub turned : (w w' : WorldState) (caller : ℕ) (a a' : Actor) (r : Result Progress TurnFault) (entry : Option NewEntry) → IsWorld w → Knows w a → IsFramed w a r w' → TakesTurn (stage_of w) caller a r entry (stage_of w') a' → KeptAndTurned w caller a r entry w' a'
turned w w' caller a a' (Ok progress) entry world knows frame takes = ok_turn w w' caller a a' progress entry world knows frame takes
turned w w' caller a a' (Err StoreFault) entry world knows frame takes = fault_turn w w' caller a a' entry world knows frame takes
turned w w' caller a a' (Err HistoryFull) entry world knows frame takes = full_turn w w' caller a a' entry world knows frame takes
turned w w' caller a a' (Err NoMemory) entry world knows frame takes = memory_turn w w' caller a a' entry world knows frame takes

-- the world of a stage, with what turns leave alone
abbrev pub world_of : Stage → List Entity → ℕ → Bool → ℕ → WorldState
world_of c base generation retired opened_faults = record {
  old_store = c.old_store;
  new_store = c.new_store;
  base = base;
  history = c.log.history;
  numbers = c.log.numbers;
  fault_entries = c.log.fault_entries;
  calls = c.calls;
  generation = generation;
  retired = retired;
  opened_faults = opened_faults;
}

-- only a cleaner's turn is answered that it is done with cleaning
answered_retired : (a a' : Actor) (answer : StoreReply) (progress : Progress) (entry : Option NewEntry) (retired : Bool) → ActorMoves a answer (record { progress = progress; entry = entry; after = a' }) → retired_where (Ok progress) retired ≡ retired_by a (Ok progress) retired
answered_retired (Client (client.Batch call)) a' answer progress entry retired moves = ap (λ (m : Move). retired_where (Ok m.progress) retired) moves.is ∙ by moves.said where
  by : (said : BatchProgress) → retired_where (Ok (batch_move moves.to said).progress) retired ≡ retired
  by batch.More = refl
  by (batch.Written tags) = refl
  by (batch.Refused refusal) = refl
answered_retired (Client (client.Query call)) a' answer progress entry retired moves = ap (λ (m : Move). retired_where (Ok m.progress) retired) moves.is ∙ by moves.said where
  by : (said : QueryProgress) → retired_where (Ok (query_move moves.to said).progress) retired ≡ retired
  by query.More = refl
  by (query.Rows rows) = refl
answered_retired (Client (client.Page call)) a' answer progress entry retired moves = ap (λ (m : Move). retired_where (Ok m.progress) retired) moves.is ∙ page_not_retired moves.to moves.filter moves.rows moves.said retired
answered_retired (Client client.Ended) a' answer progress entry retired moves = absurd moves
answered_retired (Migrator state) a' answer progress entry retired moves = ap (λ (m : Move). retired_where (Ok m.progress) retired) moves.is ∙ by moves.said where
  by : (said : MoveProgress) → retired_where (Ok (migrator_move moves.to said).progress) retired ≡ retired
  by move.More = refl
  by move.Done = refl
answered_retired (Cleaner state) a' answer progress entry retired moves = refl

pub turn_retired : (c c' : Stage) (a a' : Actor) (r : Result Progress TurnFault) (entry : Option NewEntry) (retired : Bool) → Moves c a r entry c' a' → retired_where r retired ≡ retired_by a r retired
turn_retired c c' a a' (Ok progress) entry retired m = answered_retired a a' m.1 progress entry retired m.4
turn_retired c c' a a' (Err fault) entry retired m = sym (fault_retired a fault retired)

pub turn_at : (v : WorldState) (c c' : Stage) (base : List Entity) (generation : ℕ) (retired now : Bool) (opened_faults : ℕ) (caller : ℕ) (a a' : Actor) (r : Result Progress TurnFault)
    → world_of c base generation retired opened_faults ≡ v → IsWorld (world_of c base generation retired opened_faults) → Knows v a → TakesSomeTurn c caller a r c' a' → now ≡ retired_where r retired
    → IsWorld (world_of c' base generation now opened_faults) × Turned v caller a r (world_of c' base generation now opened_faults) a'
turn_at v c c' base generation retired now opened_faults caller a a' r view world knows takes so =
    let w = world_of c base generation retired opened_faults in
    let w' = world_of c' base generation now opened_faults in
    let t = turned w w' caller a a' r takes.0 world (subst (λ x. Knows x a) (sym view) knows) (record { base = refl; generation = refl; retired = so ∙ turn_retired c c' a a' r takes.0 retired takes.1.moves; opened_faults = refl }) takes.1 in
    (t.world, (takes.0, subst (λ x. Turns x caller a r takes.0 w' a') view t.turns))
