-- What actors make of a reply, and the entries of their answers.
use Rattle.std.proofs.Common.{◌≡◌, ◌∙◌, ℕ, ◌+◌, ◌-◌, ◌≤◌, ◌^◌, Bool, true, false, ◌&&◌, List, [], ◌∷◌, ◌++◌, length, nat_lt, nat_eq, refl, sym, ap, subst, inl, inr, arith, Option, Some, None, Result, Ok, Err}
use Rattle.std.specs.Prelude.{nat_le, min, not}
use Rattle.std.proofs.lemmas.Bool.Decides.{nat_tests}
use Rattle.mt_model.specs.declared.text.NoMemory.{NoMemory as NoMemoryOf}
use Rattle.mt_model.specs.declared.entity.Entity.{Entity}
use Rattle.mt_model.specs.declared.tag.Tag.{Tag}
use Rattle.mt_filter.specs.declared.filter.Filter.{Filter}
use Rattle.mt_chain.specs.declared.op.Op.{Op}
use Rattle.mt_chain.specs.declared.op.Refusal.{Refusal}
use Rattle.mt_chain.specs.declared.ask.StoreReply.{StoreReply}
use Rattle.mt_chain.specs.declared.ask.StoreReply.TheVariants as reply
use Rattle.mt_chain.specs.declared.ask.Side.{Side}
use Rattle.mt_chain.specs.declared.ask.Side.TheVariants.{Old, New}
use Rattle.mt_chain.specs.declared.ask.Ask.{Ask}
use Rattle.mt_chain.specs.declared.ask.Ask.TheVariants as ask
use Rattle.mt_chain.specs.declared.ask.StoreAsk.{StoreAsk}
use Rattle.mt_chain.specs.declared.ask.CallFault.{CallFault}
use Rattle.mt_chain.specs.declared.ask.CallFault.TheVariants as call_fault
use Rattle.mt_chain.specs.StoreCall.{Contents}
use Rattle.mt_chain.specs.Store.{Store, Onward, Same}
use Rattle.mt_chain.specs.Asks.{Means}
use Rattle.mt_history.specs.declared.entry.What.TheVariants as what
use Rattle.mt_history.specs.declared.entry.Entry.{Entry}
use Rattle.mt_history.specs.declared.model.Reply.TheVariants as told
use Rattle.mt_history.specs.Kept.{Kept, has_room}
use Rattle.mt_history.specs.Weight.{total_weight}
use Rattle.mt_batch_plan.specs.declared.place.Place.{Place}
use Rattle.mt_batch_plan.specs.declared.call.BatchProgress.{BatchProgress}
use Rattle.mt_batch_plan.specs.declared.call.BatchProgress.TheVariants as batch
use Rattle.mt_batch_plan.specs.Calls.{Call, Asks, Absorbs, is_write}
use Rattle.mt_batch_plan.proofs.ReplyLaws.{tags_at_write, memory_at_read}
use Rattle.mt_query_plan.specs.declared.place.Place.{Place as QueryPlace}
use Rattle.mt_query_plan.specs.declared.call.QueryProgress.TheVariants as query
use Rattle.mt_query_plan.specs.Queries as queries
use Rattle.mt_world.specs.declared.actor.ClientCall.{ClientCall}
use Rattle.mt_world.specs.declared.actor.ClientCall.TheVariants as client
use Rattle.mt_world.specs.declared.actor.Actor.{Actor}
use Rattle.mt_world.specs.declared.actor.Actor.TheVariants.{Client, Migrator, Cleaner}
use Rattle.mt_world.specs.declared.actor.Answer.TheVariants.{Written, Refused, Rows}
use Rattle.mt_world.specs.declared.actor.Progress.{Progress}
use Rattle.mt_world.specs.declared.actor.Progress.TheVariants.{More, Done}
use Rattle.mt_world.specs.declared.actor.TurnFault.{TurnFault}
use Rattle.mt_world.specs.declared.actor.TurnFault.TheVariants.{StoreFault, HistoryFull, NoMemory}
use Rattle.mt_world.specs.Worlds.{next_number, entry_of}
use Rattle.mt_world.specs.Logs.{Log, Reserves, Adds, one_if, number_of_next, number_after, faults_with, faults_after, entries_with}
use Rattle.mt_world.specs.Moves.{NewEntry, CanStep, ActorFits, ActorAsks, need_of, batch_move, after_fault, fault_entry}
use Rattle.mt_world.specs.Steps.{CallsStore, GoesOn, Answered}
use Rattle.mt_world.specs.Turns.{Stage, CallsOn, OneCall, MayBeLost, CalledInVain, Moves, TakesSomeTurn, is_full}
use Rattle.mt_world.proofs.PairLaws.{stays_same}

-- ---- tags come only of writes, one for each operation

pub written_at_write : (ops : List Op) (place to : Place) (r : StoreReply) (tags : List Tag) → Absorbs ops place r (Ok (batch.Written tags)) to → (is_write place ≡ true) × (length tags ≡ length ops)
written_at_write ops place to r tags h = tags_at_write ops place to r tags h

-- ---- room

-- where there is room for more there is room for less
pub room_for_less : (h : Kept) (n m : ℕ) → m ≤ n → has_room h n ≡ true → has_room h m ≡ true
room_for_less h n m least room = go (nat_lt (length h.entries) h.limit) (nat_le (total_weight h.entries + n) (2 ^ 30)) refl room where
  go : (a b : Bool) → nat_le (total_weight h.entries + n) (2 ^ 30) ≡ b → a && b ≡ true → a && nat_le (total_weight h.entries + m) (2 ^ 30) ≡ true
  go false b e x = x
  go true false e x = absurd cc
  go true true e x = (let le : nat_le (total_weight h.entries + m) (2 ^ 30) ≡ true = grind (arith, nat_tests) in le)

-- a weight above the limit is none for which there is room, whatever it is counted as
pub room_capped : (h : Kept) (n : ℕ) → has_room h (min (2 ^ 64 - 1) n) ≡ has_room h n
room_capped h n = ap (λ b. nat_lt (length h.entries) h.limit && b) same where
  same : nat_le (total_weight h.entries + min (2 ^ 64 - 1) n) (2 ^ 30) ≡ nat_le (total_weight h.entries + n) (2 ^ 30)
  same = grind (arith, nat_tests)

-- each actor needs the weight of a fault at least
least_need : (a : Actor) → CanStep a → 64 ≤ need_of a
least_need (Client (client.Batch call)) can = omega arith
least_need (Client (client.Query call)) can = omega arith
least_need (Client (client.Page call)) can = omega arith
least_need (Client client.Ended) can = absurd can
least_need (Migrator state) can = omega arith
least_need (Cleaner state) can = omega arith

-- ---- answers

-- the history has the entry of an answer more
pub adds_one : (l l' : Log) (caller : ℕ) (e : NewEntry) → l'.history ≡ record l.history { entries = l.history.entries ++ entry_of l.numbers caller e.what ∷ []; spare = l.history.spare - 1 }
    → ((other : ℕ) → next_number l'.numbers other ≡ number_of_next l.numbers caller other) → l'.fault_entries ≡ faults_with e.what l.fault_entries → Adds l caller (Some e) l'
adds_one l l' caller e history numbers faults = record {
  entries = ap (λ k. k.entries) history;
  numbers = numbers;
  fault_entries = faults;
  first = ap (λ k. k.first) history;
  limit = ap (λ k. k.limit) history;
}

pub adds_none : (l l' : Log) (caller : ℕ) → Reserves l l' → Adds l caller None l'
adds_none l l' caller h = record {
  entries = ap (λ k. k.entries) h.history;
  numbers = h.numbers;
  fault_entries = h.fault_entries;
  first = ap (λ k. k.first) h.history;
  limit = ap (λ k. k.limit) h.history;
}

pub reserves_self : (l : Log) → Reserves l l
reserves_self l = record { history = refl; numbers = λ other. refl; fault_entries = refl }

-- memory was taken, and then an entry came, or none
number_then : (entry : Option NewEntry) (caller : ℕ) (l k : List (ℕ × ℕ)) → ((other : ℕ) → next_number k other ≡ next_number l other) → (other : ℕ) → number_after entry caller k other ≡ number_after entry caller l other
number_then None caller l k same other = same other
number_then (Some e) caller l k same other = ap (λ n. n + one_if (nat_eq other caller)) (same other)

entries_then : (entry : Option NewEntry) (caller : ℕ) (xs : List Entry) (l k : List (ℕ × ℕ)) → ((other : ℕ) → next_number k other ≡ next_number l other) → entries_with xs k caller entry ≡ entries_with xs l caller entry
entries_then None caller xs l k same = refl
entries_then (Some e) caller xs l k same = ap (λ n. xs ++ (record { caller = caller; number = n; what = e.what }) ∷ []) (same caller)

adds_after : (l k l' : Log) (caller : ℕ) (entry : Option NewEntry) → Reserves l k → Adds k caller entry l' → Adds l caller entry l'
adds_after l k l' caller entry r a = record {
  entries = a.entries ∙ ap (λ h. entries_with h.entries k.numbers caller entry) r.history ∙ entries_then entry caller l.history.entries l.numbers k.numbers r.numbers;
  numbers = λ other. a.numbers other ∙ number_then entry caller l.numbers k.numbers r.numbers other;
  fault_entries = a.fault_entries ∙ ap (faults_after entry) r.fault_entries;
  first = a.first ∙ ap (λ h. h.first) r.history;
  limit = a.limit ∙ ap (λ h. h.limit) r.history;
}

-- an actor that leaves no entry
pub silent : (a a' : Actor) (answer : StoreReply) (l : Log) (caller : ℕ) (r : Result Progress TurnFault) → GoesOn a answer r None a' → Answered a answer l caller r l a'
silent a a' answer l caller r goes = record { entry = None; goes = goes; adds = adds_none l l caller (reserves_self l) }

-- an actor that has no memory for what may be lost
pub forgotten : (a a' : Actor) (r : StoreReply) (l : Log) (caller : ℕ) → MayBeLost (Ok r) → a' ≡ after_fault a → Answered a r l caller (Err NoMemory) l a'
forgotten a a' r l caller lost over = record {
  entry = None;
  goes = (lost, refl, over);
  adds = adds_none l l caller (reserves_self l);
}

-- ---- answers of a batch

-- the entry has the operations of the call
pub batch_answered : (call to : Call) (r : StoreReply) (l l' : Log) (caller : ℕ) (said : BatchProgress) (step : Progress × ClientCall) (e : NewEntry) → to.batch ≡ call.batch
    → Absorbs call.batch call.place r (Ok said) to.place → record { progress = step.0; entry = Some e; after = Client step.1 } ≡ batch_move to said
    → l'.history ≡ record l.history { entries = l.history.entries ++ entry_of l.numbers caller e.what ∷ []; spare = l.history.spare - 1 }
    → ((other : ℕ) → next_number l'.numbers other ≡ number_of_next l.numbers caller other) → l'.fault_entries ≡ faults_with e.what l.fault_entries
    → Answered (Client (client.Batch call)) r l caller (Ok step.0) l' (Client step.1)
batch_answered call to r l l' caller said step e same moves is history numbers faults = record {
  entry = Some e;
  goes = record { said = said; to = to; same = same; absorbs = moves; is = is };
  adds = adds_one l l' caller e history numbers faults;
}

-- the move of an answer
pub written_move : (to : Call) (said : BatchProgress) (tags copy : List Tag) (ops : List Op) → said ≡ batch.Written tags → copy ≡ tags → ops ≡ to.batch
    → record { progress = Done (Written tags); entry = Some (record { what = what.Batch ops copy; reply = told.Written tags }); after = Client client.Ended } ≡ batch_move to said
written_move to said tags copy ops is copied whole =
    ap (λ b. record { progress = Done (Written tags); entry = Some (record { what = what.Batch b copy; reply = told.Written tags }); after = Client client.Ended }) whole
    ∙ ap (λ t. record { progress = Done (Written tags); entry = Some (record { what = what.Batch to.batch t; reply = told.Written tags }); after = Client client.Ended }) copied
    ∙ ap (batch_move to) (sym is)

pub refused_move : (to : Call) (said : BatchProgress) (refusal : Refusal) (ops : List Op) → said ≡ batch.Refused refusal → ops ≡ to.batch
    → record { progress = Done (Refused refusal); entry = Some (record { what = what.Refused ops; reply = told.Refused refusal }); after = Client client.Ended } ≡ batch_move to said
refused_move to said refusal ops is whole =
    ap (λ b. record { progress = Done (Refused refusal); entry = Some (record { what = what.Refused b; reply = told.Refused refusal }); after = Client client.Ended }) whole
    ∙ ap (batch_move to) (sym is)

pub batch_goes_on : (call to : Call) (r : StoreReply) (l : Log) (caller : ℕ) → to.batch ≡ call.batch → Absorbs call.batch call.place r (Ok batch.More) to.place → Answered (Client (client.Batch call)) r l caller (Ok More) l (Client (client.Batch to))
batch_goes_on call to r l caller same moves = record {
  entry = None;
  goes = record { said = batch.More; to = to; same = same; absorbs = moves; is = refl };
  adds = adds_none l l caller (reserves_self l);
}

-- want of memory comes only of a read
pub batch_forgets : (call : Call) (a : StoreAsk) (r : StoreReply) (none : NoMemoryOf) (to : Place) (l : Log) (caller : ℕ) → Asks call.batch call.place a → Absorbs call.batch call.place r (Err none) to → Answered (Client (client.Batch call)) r l caller (Err NoMemory) l (Client client.Ended)
batch_forgets call a r none to l caller asks h =
    (let read = memory_at_read call.batch call.place to a r none asks h in
    forgotten (Client (client.Batch call)) (Client client.Ended) r l caller (subst (λ x. MayBeLost (Ok x)) (sym read.replies) tt) refl)

-- ---- answers of a query

pub query_goes_on : (call to : queries.Call) (r : StoreReply) (l : Log) (caller : ℕ) → to.pk ≡ call.pk → to.filter ≡ call.filter → queries.Absorbs call r (Ok query.More) to.place → Answered (Client (client.Query call)) r l caller (Ok More) l (Client (client.Query to))
query_goes_on call to r l caller pk filter moves = record {
  entry = None;
  goes = record { said = query.More; to = to; pk = pk; filter = filter; absorbs = moves; is = refl };
  adds = adds_none l l caller (reserves_self l);
}

query_forgotten : (call : queries.Call) (r : StoreReply) (none : NoMemoryOf) (to : QueryPlace) → queries.Absorbs call r (Err none) to → MayBeLost (Ok r)
query_forgotten call (reply.Found found) none to h = tt
query_forgotten call (reply.Next next) none to h = absurd h
query_forgotten call (reply.Applied tags) none to h = absurd h
query_forgotten call (reply.Unmet index) none to h = absurd h
query_forgotten call reply.SealedOff none to h = absurd h
query_forgotten call reply.SealDone none to h = absurd h

pub query_forgets : (call : queries.Call) (r : StoreReply) (none : NoMemoryOf) (to : QueryPlace) (l : Log) (caller : ℕ) → queries.Absorbs call r (Err none) to → Answered (Client (client.Query call)) r l caller (Err NoMemory) l (Client client.Ended)
query_forgets call r none to l caller h = forgotten (Client (client.Query call)) (Client client.Ended) r l caller (query_forgotten call r none to h) refl

-- the entry has the partition and the filter of the call
pub query_answered : (call to : queries.Call) (r : StoreReply) (l l' : Log) (caller : ℕ) (rows : List Entity) (pk : List ℕ) (filter : Option Filter) → to.pk ≡ call.pk → to.filter ≡ call.filter → pk ≡ to.pk → filter ≡ to.filter
    → queries.Absorbs call r (Ok (query.Rows rows)) to.place
    → l'.history ≡ record l.history { entries = l.history.entries ++ entry_of l.numbers caller (what.Query pk filter) ∷ []; spare = l.history.spare - 1 }
    → ((other : ℕ) → next_number l'.numbers other ≡ number_of_next l.numbers caller other) → l'.fault_entries ≡ faults_with (what.Query pk filter) l.fault_entries
    → Answered (Client (client.Query call)) r l caller (Ok (Done (Rows rows))) l' (Client client.Ended)
query_answered call to r l l' caller rows pk filter same_pk same_filter whole_pk whole_filter moves history numbers faults = record {
  entry = Some e;
  goes = record {
    said = query.Rows rows;
    to = to;
    pk = same_pk;
    filter = same_filter;
    absorbs = moves;
    is = λ i. record { progress = Done (Rows rows); entry = Some (record { what = what.Query (whole_pk i) (whole_filter i); reply = told.Rows rows }); after = Client client.Ended };
  };
  adds = adds_one l l' caller e history numbers faults;
} where
  e : NewEntry
  e = record { what = what.Query pk filter; reply = told.Rows rows }

-- ---- turns

-- what a turn has before its store call: room, memory for an entry, and the call that the actor asks for
pub record IsPrepared (c : Stage) (a : Actor) (ask : StoreAsk) (l : Log) : Type 0 where
  pub fits : ActorFits a
  pub room : has_room c.log.history (need_of a) ≡ true
  pub reserves : Reserves c.log l
  pub asks : ActorAsks a ask

-- the room that a history has when memory was taken
room_then : (l k : Log) (n : ℕ) → Reserves l k → has_room l.history n ≡ true → has_room k.history n ≡ true
room_then l k n r room = ap (λ h. has_room h n) r.history ∙ room

-- there is room for the entry of a fault, and for that of an answer
pub fault_room : (c : Stage) (a : Actor) (ask : StoreAsk) (l : Log) → CanStep a → IsPrepared c a ask l → has_room l.history 64 ≡ true
fault_room c a ask l can p = room_for_less l.history (need_of a) 64 (least_need a can) (room_then c.log l (need_of a) p.reserves p.room)

pub answer_room : (c : Stage) (a : Actor) (ask : StoreAsk) (l l' : Log) → IsPrepared c a ask l → l' ≡ l → has_room l'.history (need_of a) ≡ true
answer_room c a ask l l' p same = ap (λ (k : Log). has_room k.history (need_of a)) same ∙ room_then c.log l (need_of a) p.reserves p.room

pub has_room_at : (h k : Kept) (n weight : ℕ) (room : Bool) → room ≡ true → room ≡ has_room h n → h ≡ k → has_room k n ≡ has_room k weight → has_room k weight ≡ true
has_room_at h k n weight room some is same sized = sym (ap (λ x. has_room x n) same ∙ sized) ∙ sym is ∙ some

-- the stage with another log
abbrev pub with_log : Stage → Log → Stage
with_log c l = record { old_store = c.old_store; new_store = c.new_store; log = l; calls = c.calls }

-- a reply that may be lost changed nothing
lost_same : (n : ℕ) (a : Ask) (r : StoreReply) (x y : Contents) → MayBeLost (Ok r) → Means n a r x y → y ≡ x
lost_same n (ask.Query q) (reply.Found found) x y lost m = m.0
lost_same n (ask.Apply pk puts) (reply.Found found) x y lost m = absurd m
lost_same n (ask.Next at) (reply.Found found) x y lost m = absurd m
lost_same n ask.Seal (reply.Found found) x y lost m = absurd m
lost_same n (ask.Query q) (reply.Next next) x y lost m = absurd m
lost_same n (ask.Apply pk puts) (reply.Next next) x y lost m = absurd m
lost_same n (ask.Next at) (reply.Next next) x y lost m = m.0
lost_same n ask.Seal (reply.Next next) x y lost m = absurd m
lost_same n a (reply.Applied tags) x y lost m = absurd lost
lost_same n a (reply.Unmet index) x y lost m = absurd lost
lost_same n a reply.SealedOff x y lost m = absurd lost
lost_same n a reply.SealDone x y lost m = absurd lost

lost_onward : (n : ℕ) (a : Ask) (r : StoreReply) (s t : Option Contents) → MayBeLost (Ok r) → Onward (Means n a r) s t → Onward Same s t
lost_onward n a r s None lost h = tt
lost_onward n a r None (Some y) lost h = absurd h
lost_onward n a r (Some x) (Some y) lost h = lost_same n a r x y lost h

same_faults : (s t : Store) → t ≡ s → t.faults ≡ s.faults
same_faults s t e = ap (λ (x : Store). x.faults) e

-- the reply of a call that changed nothing was lost
lost_reply : (c c' : Stage) (a : Actor) (ask : StoreAsk) (answer : StoreReply) → ActorAsks a ask → OneCall c ask (Ok answer) c' → MayBeLost (Ok answer) → CalledInVain c a c'
lost_reply c c' a ask answer asks one lost = by ask.side one.on where
  by : (side : Side) → CallsOn side c.old_store c.new_store ask.ask (Ok answer) c'.old_store c'.new_store → CalledInVain c a c'
  by Old on = record { ask = ask; asks = asks; answer = Ok answer; lost = lost; call = one; old_same = lost_onward c.old_store.number ask.ask answer c.old_store.told c'.old_store.told lost on.0.shows.2; new_same = stays_same c.new_store c'.new_store on.1; old_faults = on.0.faults; new_faults = same_faults c.new_store c'.new_store on.1 }
  by New on = record { ask = ask; asks = asks; answer = Ok answer; lost = lost; call = one; old_same = stays_same c.old_store c'.old_store on.1; new_same = lost_onward c.new_store.number ask.ask answer c.new_store.told c'.new_store.told lost on.0.shows.2; old_faults = same_faults c.old_store c'.old_store on.1; new_faults = on.0.faults }

-- a store had no memory
quiet_call : (c c' : Stage) (a : Actor) (ask : StoreAsk) → ActorAsks a ask → OneCall c ask (Err call_fault.NoMemory) c' → CalledInVain c a c'
quiet_call c c' a ask asks one = by ask.side one.on where
  by : (side : Side) → CallsOn side c.old_store c.new_store ask.ask (Err call_fault.NoMemory) c'.old_store c'.new_store → CalledInVain c a c'
  by Old on = record { ask = ask; asks = asks; answer = Err call_fault.NoMemory; lost = tt; call = one; old_same = on.0.shows; new_same = stays_same c.new_store c'.new_store on.1; old_faults = on.0.faults; new_faults = same_faults c.new_store c'.new_store on.1 }
  by New on = record { ask = ask; asks = asks; answer = Err call_fault.NoMemory; lost = tt; call = one; old_same = stays_same c.old_store c'.old_store on.1; new_same = on.0.shows; old_faults = same_faults c.old_store c'.old_store on.1; new_faults = on.0.faults }

-- how the actor moves with a reply
answer_moves : (c c' : Stage) (a a' : Actor) (ask : StoreAsk) (answer : StoreReply) (r : Result Progress TurnFault) (entry : Option NewEntry) → ActorAsks a ask → OneCall c ask (Ok answer) c' → GoesOn a answer r entry a' → Moves c a r entry c' a'
answer_moves c c' a a' ask answer (Ok progress) entry asks one goes = (ask, answer, asks, one, goes)
answer_moves c c' a a' ask answer (Err NoMemory) entry asks one goes = (inr (lost_reply c c' a ask answer asks one goes.0), goes.1, goes.2)
answer_moves c c' a a' ask answer (Err StoreFault) entry asks one goes = absurd goes
answer_moves c c' a a' ask answer (Err HistoryFull) entry asks one goes = absurd goes

answer_is_not_full : (a a' : Actor) (answer : StoreReply) (r : Result Progress TurnFault) (entry : Option NewEntry) → GoesOn a answer r entry a' → is_full r ≡ false
answer_is_not_full a a' answer (Ok progress) entry goes = refl
answer_is_not_full a a' answer (Err NoMemory) entry goes = refl
answer_is_not_full a a' answer (Err StoreFault) entry goes = absurd goes
answer_is_not_full a a' answer (Err HistoryFull) entry goes = absurd goes

one_call : (c c' : Stage) (l l' : Log) (ask : StoreAsk) (r : Result StoreReply CallFault) → OneCall (with_log c l) ask r c' → OneCall c ask r (with_log c' l')
one_call c c' l l' ask r one = record { on = one.on; counted = one.counted; grew = one.grew }

-- the turn of an actor that the store answered
pub answered_takes : (c d c' : Stage) (caller : ℕ) (a a' : Actor) (ask : StoreAsk) (answer : StoreReply) (l l' : Log) (r : Result Progress TurnFault) → IsPrepared c a ask l
    → CallsStore (with_log c l) caller ask (Ok answer) d → c' ≡ d → Answered a answer c'.log caller r l' a' → TakesSomeTurn c caller a r (with_log c' l') a'
answered_takes c d c' caller a a' ask answer l l' r p called same after = (let calls = subst (CallsStore (with_log c l) caller ask (Ok answer)) (sym same) called in (
  after.entry,
  record {
    fits = p.fits;
    full = answer_is_not_full a a' answer r after.entry after.goes ∙ sym (ap not p.room);
    moves = answer_moves c (with_log c' l') a a' ask answer r after.entry p.asks (one_call c c' l l' ask (Ok answer) calls.0) after.goes;
    adds = adds_after c.log l l' caller after.entry p.reserves (subst (λ k. Adds k caller after.entry l') calls.1 after.adds);
  },
))

-- the turn of an actor whose store call came to nothing
pub unanswered_takes : (c c' : Stage) (caller : ℕ) (a : Actor) (ask : StoreAsk) (l : Log) (fault : TurnFault) → IsPrepared c a ask l
    → CallsStore (with_log c l) caller ask (Err fault) c' → TakesSomeTurn c caller a (Err fault) c' (after_fault a)
unanswered_takes c c' caller a ask l StoreFault p calls = (
  Some fault_entry,
  record {
    fits = p.fits;
    full = sym (ap not p.room);
    moves = (ask, p.asks, one_call c c' l c'.log ask (Err call_fault.Failed) calls.0, refl, refl);
    adds = adds_after c.log l c'.log caller (Some fault_entry) p.reserves calls.1;
  },
)
unanswered_takes c c' caller a ask l HistoryFull p calls = absurd calls
unanswered_takes c c' caller a ask l NoMemory p calls = (
  None,
  record {
    fits = p.fits;
    full = sym (ap not p.room);
    moves = (inr (quiet_call c c' a ask p.asks (one_call c c' l c'.log ask (Err call_fault.NoMemory) calls.0)), refl, refl);
    adds = adds_none c.log c'.log caller (subst (Reserves c.log) (sym calls.1) p.reserves);
  },
)

-- the turn of an actor for whose entry there is no memory, and of one for which the history has no room
pub starved_takes : (c c' : Stage) (caller : ℕ) (a : Actor) → ActorFits a → has_room c.log.history (need_of a) ≡ true → Reserves c.log c'.log → c'.old_store ≡ c.old_store → c'.new_store ≡ c.new_store → c'.calls ≡ c.calls
    → TakesSomeTurn c caller a (Err NoMemory) c' (after_fault a)
starved_takes c c' caller a fits room reserves old new calls = (
  None,
  record {
    fits = fits;
    full = sym (ap not room);
    moves = (inl (record { old_store = old; new_store = new; calls = calls }), refl, refl);
    adds = adds_none c.log c'.log caller reserves;
  },
)

pub full_takes : (c : Stage) (caller : ℕ) (a : Actor) → ActorFits a → has_room c.log.history (need_of a) ≡ false → TakesSomeTurn c caller a (Err HistoryFull) c (after_fault a)
full_takes c caller a fits room = (
  None,
  record {
    fits = fits;
    full = sym (ap not room);
    moves = (record { old_store = refl; new_store = refl; calls = refl }, refl, refl);
    adds = adds_none c.log c.log caller (reserves_self c.log);
  },
)
