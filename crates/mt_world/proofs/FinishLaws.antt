-- Turns one after the other, until a call ends.
use Rattle.std.proofs.Common.{◌≡◌, ◌∙◌, ℕ, suc, ◌+◌, ◌-◌, ◌^◌, ◌≤◌, ◌<◌, not, ◌&&◌, List, [], ◌∷◌, ◌++◌, length, nat_lt, refl, sym, ap, subst, arith, inl, inr, append_assoc, length-append, Option, Some, None, Result, Ok, Err}
use Rattle.std.specs.Prelude.{nat_le, OnOk, IsSome}
use Rattle.mt_chain.specs.declared.op.Op.{Op}
use Rattle.mt_chain.specs.declared.ask.Side.{Side}
use Rattle.mt_chain.specs.declared.ask.Side.TheVariants.{Old, New}
use Rattle.mt_chain.specs.declared.ask.Ask.{Ask}
use Rattle.mt_chain.specs.declared.ask.StoreAsk.{StoreAsk}
use Rattle.mt_chain.specs.declared.ask.StoreReply.{StoreReply}
use Rattle.mt_chain.specs.StoreCall.{Contents}
use Rattle.mt_chain.specs.Store.{Store, Rose}
use Rattle.mt_filter.specs.declared.filter.Filter.{Filter}
use Rattle.mt_chain.specs.Batch.{batch_weight}
use Rattle.mt_history.specs.declared.entry.Entry.{Entry}
use Rattle.mt_history.specs.Kept.{Kept, has_room}
use Rattle.mt_history.specs.Weight.{total_weight, need_of_query}
use Rattle.mt_history.specs.Window.{table_at_end}
use Rattle.mt_history.specs.Replies.{Replies}
use Rattle.mt_batch_plan.specs.declared.call.BatchProgress.{BatchProgress}
use Rattle.mt_batch_plan.specs.declared.call.BatchProgress.TheVariants as batch
use Rattle.mt_batch_plan.specs.Calls.{Call, Asks, Absorbs}
use Rattle.mt_batch_plan.specs.Alone.{StandsOn, turns_before}
use Rattle.mt_batch_plan.proofs.AloneLaws.{step_stands, few_before}
use Rattle.mt_query_plan.specs.declared.call.QueryProgress.{QueryProgress}
use Rattle.mt_query_plan.specs.declared.call.QueryProgress.TheVariants as query
use Rattle.mt_query_plan.specs.Queries as queries
use Rattle.mt_query_plan.specs.Alone as alone
use Rattle.mt_query_plan.proofs.AloneLaws as alone_laws
use Rattle.mt_world.specs.declared.actor.ClientCall.TheVariants as client
use Rattle.mt_world.specs.declared.actor.Actor.{Actor}
use Rattle.mt_world.specs.declared.actor.Actor.TheVariants.{Client, Migrator, Cleaner}
use Rattle.mt_world.specs.declared.actor.Answer.{Answer}
use Rattle.mt_world.specs.declared.actor.Answer.TheVariants.{Written, Refused, Rows, Page, Moved, Cleaned, NotSealed, NotMigrated}
use Rattle.mt_world.specs.declared.actor.Progress.{Progress}
use Rattle.mt_world.specs.declared.actor.Progress.TheVariants.{More, Done}
use Rattle.mt_world.specs.declared.actor.TurnFault.{TurnFault}
use Rattle.mt_world.specs.declared.actor.TurnFault.TheVariants.{StoreFault, HistoryFull, NoMemory}
use Rattle.mt_meta.specs.declared.fact.Fact.{Fact}
use Rattle.mt_meta.specs.Facts.{ApartFrom}
use Rattle.mt_world.specs.Worlds.{WorldState, pair_of, ForPair, Tells, IsTrueOf, StandsBeside, KeepsApart, IsReplayed, IsWorld, table_now, next_number, entry_of}
use Rattle.mt_world.specs.Moves.{NewEntry, Move, BatchMoves, batch_move, QueryMoves, query_move, CanStep, ActorFits, actor_facts, IsAtBegin, turns_at_most, need_of, retired_by}
use Rattle.mt_world.specs.Logs.{Adds, entries_with}
use Rattle.mt_world.specs.Turns.{Stage, stage_of, log_of, CallsOn, OneCall, Moves, is_full, RepliesAt, IsSameWorld, Turns, EitherRose}
use Rattle.mt_world.specs.WholeCalls.{Mark, MarkedTurn, last_turn, Finishes, EndsCall, end_of, batch_entry, query_entry, AreMarksAt, CallAnswers, BatchAnswers, QueryAnswers}
use Rattle.mt_world.proofs.PairLaws.{for_pair, at_pair, map_pair, same_pair, before, failed_rose}
use Rattle.mt_world.proofs.MigratorLaws.{migrator_goes_on}
use Rattle.mt_world.proofs.CleanerLaws.{cleaner_goes_on}
use Rattle.mt_world.proofs.EntryLaws.{window_stays}
use Rattle.mt_world.proofs.TurnLaws.{moved}
use Rattle.mt_world.proofs.PageFinish.{told_is, page_goes_on, still_open, PageStands, page_begins, page_on, page_few}

-- ---- a turn that goes on

-- the step that it is
pub record GoesOn (call : Call) (w : WorldState) (w' : WorldState) (entry : Option NewEntry) (a' : Actor) : Type 0 where
  pub to : Call
  pub after : a' ≡ Client (client.Batch to)
  pub none : entry ≡ None
  pub same_ops : to.batch ≡ call.batch
  pub ask : StoreAsk
  pub asks : Asks call.batch call.place ask
  pub answer : StoreReply
  pub one : OneCall (stage_of w) ask (Ok answer) (stage_of w')
  pub absorbs : Absorbs call.batch call.place answer (Ok batch.More) to.place

went : (to : Call) (said : BatchProgress) → More ≡ (batch_move to said).progress → said ≡ batch.More
went to batch.More e = refl
went to (batch.Written tags) e = absurd cc
went to (batch.Refused refusal) e = absurd cc

pub goes_on : (w w' : WorldState) (call : Call) (entry : Option NewEntry) (a' : Actor) → Moves (stage_of w) (Client (client.Batch call)) (Ok More) entry (stage_of w') a' → GoesOn call w w' entry a'
goes_on w w' call entry a' m =
    let b : BatchMoves call m.1 (record { progress = More; entry = entry; after = a' }) = m.4 in
    let more = went b.to b.said (ap (λ (x : Move). x.progress) b.is) in
    record {
      to = b.to;
      after = ap (λ (x : Move). x.after) b.is ∙ ap (λ s. (batch_move b.to s).after) more;
      none = ap (λ (x : Move). x.entry) b.is ∙ ap (λ s. (batch_move b.to s).entry) more;
      same_ops = b.same;
      ask = m.0;
      asks = m.2;
      answer = m.1;
      one = m.3;
      absorbs = subst (λ s. Absorbs call.batch call.place m.1 (Ok s) b.to.place) more b.absorbs;
    }

-- the same of a query
pub record QueryGoesOn (call : queries.Call) (w : WorldState) (w' : WorldState) (entry : Option NewEntry) (a' : Actor) : Type 0 where
  pub to : queries.Call
  pub after : a' ≡ Client (client.Query to)
  pub none : entry ≡ None
  pub pk : to.pk ≡ call.pk
  pub filter : to.filter ≡ call.filter
  pub ask : StoreAsk
  pub asks : ask ≡ queries.asks call
  pub answer : StoreReply
  pub one : OneCall (stage_of w) ask (Ok answer) (stage_of w')
  pub absorbs : queries.Absorbs call answer (Ok query.More) to.place

query_went : (to : queries.Call) (said : QueryProgress) → More ≡ (query_move to said).progress → said ≡ query.More
query_went to query.More e = refl
query_went to (query.Rows rows) e = absurd cc

pub query_goes_on : (w w' : WorldState) (call : queries.Call) (entry : Option NewEntry) (a' : Actor) → Moves (stage_of w) (Client (client.Query call)) (Ok More) entry (stage_of w') a' → QueryGoesOn call w w' entry a'
query_goes_on w w' call entry a' m =
    let b : QueryMoves call m.1 (record { progress = More; entry = entry; after = a' }) = m.4 in
    let more = query_went b.to b.said (ap (λ (x : Move). x.progress) b.is) in
    record {
      to = b.to;
      after = ap (λ (x : Move). x.after) b.is ∙ ap (λ s. (query_move b.to s).after) more;
      none = ap (λ (x : Move). x.entry) b.is ∙ ap (λ s. (query_move b.to s).entry) more;
      pk = b.pk;
      filter = b.filter;
      ask = m.0;
      asks = m.2;
      answer = m.1;
      one = m.3;
      absorbs = subst (λ s. queries.Absorbs call m.1 (Ok s) b.to.place) more b.absorbs;
    }

pub can_go_on : (w w' : WorldState) (caller : ℕ) (a a' : Actor) (entry : Option NewEntry) → CanStep a → Turns w caller a (Ok More) entry w' a' → CanStep a'
can_go_on w w' caller (Client client.Ended) a' entry can t = absurd can
can_go_on w w' caller (Client (client.Batch call)) a' entry can t = subst CanStep (sym (goes_on w w' call entry a' t.moves).after) tt
can_go_on w w' caller (Client (client.Query call)) a' entry can t = subst CanStep (sym (query_goes_on w w' call entry a' t.moves).after) tt
can_go_on w w' caller (Client (client.Page call)) a' entry can t = (let g = page_goes_on w w' call entry a' t.moves in subst CanStep (sym g.after) (still_open call w w' entry a' can g))
can_go_on w w' caller (Migrator state) a' entry can t = (let m = migrator_goes_on state t.moves.1 entry a' t.moves.4 in subst CanStep (sym m.after) m.can)
can_go_on w w' caller (Cleaner state) a' entry can t = (let m = cleaner_goes_on state t.moves.1 More entry a' t.moves.4 in subst CanStep (sym m.after) (m.can (λ e. cc)))

-- ---- how often a call may go on

-- how many calls both stores will still answer
abbrev pub calls_left : WorldState → ℕ
calls_left w = (2 ^ 62 - w.old_store.calls) + (2 ^ 62 - w.new_store.calls)

fewer : (s s' t t' : Store) (side : Side) (ask : Ask) (r : StoreReply) → CallsOn side s s' ask (Ok r) t t' → (2 ^ 62 - t.calls) + (2 ^ 62 - t'.calls) < (2 ^ 62 - s.calls) + (2 ^ 62 - s'.calls)
fewer s s' t t' Old ask r h = (let e : t'.calls ≡ s'.calls = ap (λ x. x.calls) h.1 in let early = h.0.shows.0 in let counted = h.0.counted.calls in omega (arith, e, early, counted))
fewer s s' t t' New ask r h = (let e : t.calls ≡ s.calls = ap (λ x. x.calls) h.1 in let early = h.0.shows.0 in let counted = h.0.counted.calls in omega (arith, e, early, counted))

pub fewer_left : (w w' : WorldState) (caller : ℕ) (a a' : Actor) (entry : Option NewEntry) → Turns w caller a (Ok More) entry w' a' → calls_left w' < calls_left w
fewer_left w w' caller a a' entry t = fewer w.old_store w.new_store w'.old_store w'.new_store t.moves.0.side t.moves.0.ask t.moves.1 t.moves.3.on

-- ---- a call that no other comes between

-- where a call is after as many turns: it has at least as many behind it at its place, and stands
abbrev pub StandsAt : ℕ → WorldState → Actor → Type 0
StandsAt n w (Client (client.Batch call)) = (n ≤ turns_before call.place) × ForPair w (λ p. StandsOn p call.batch call.place)
StandsAt n w (Client (client.Query call)) = (n ≤ alone.turns_before call.place) × ForPair w (λ p. alone.StandsOn p call.pk call.place)
StandsAt n w (Client (client.Page call)) = PageStands n w call
StandsAt n w (Client client.Ended) = ⊥
StandsAt n w (Migrator state) = ⊥
StandsAt n w (Cleaner state) = ⊥

begins : (w : WorldState) (a : Actor) → IsAtBegin a → StandsAt 0 w a
begins w (Client (client.Batch call)) begin = (omega arith, for_pair w (λ p. StandsOn p call.batch call.place) (λ a b ea eb. subst (StandsOn (pair_of w a b) call.batch) (sym begin) tt))
begins w (Client (client.Query call)) begin = (omega arith, for_pair w (λ p. alone.StandsOn p call.pk call.place) (λ a b ea eb. subst (alone.StandsOn (pair_of w a b) call.pk) (sym begin) tt))
begins w (Client (client.Page call)) begin = page_begins w call begin.0 begin.1
begins w (Client client.Ended) begin = absurd begin
begins w (Migrator state) begin = absurd begin
begins w (Cleaner state) begin = absurd begin

batch_on : (n : ℕ) (w w' : WorldState) (call : Call) (entry : Option NewEntry) (a' : Actor) → IsWorld w → ActorFits (Client (client.Batch call)) → StandsAt n w (Client (client.Batch call)) → IsSameWorld w w' → GoesOn call w w' entry a' → Tells w' → StandsAt (suc n) w' a'
batch_on n w w' call entry a' world fits at same g tells = subst (StandsAt (suc n) w') (sym g.after) (
  later,
  for_pair w' (λ p. StandsOn p g.to.batch g.to.place) (λ a b ea eb.
      subst (λ p. StandsOn p g.to.batch g.to.place) (sym (same_pair w w' same a b)) (subst (λ ops. StandsOn (pair_of w a b) ops g.to.place) (sym g.same_ops) (step a b ea eb).1)),
) where
  step : (a b : Contents) → w'.old_store.told ≡ Some a → w'.new_store.told ≡ Some b → (turns_before call.place < turns_before g.to.place) × StandsOn (pair_of w a b) call.batch g.to.place
  step a b ea eb =
      let k = before w w' g.ask.side g.ask.ask g.answer a b ea eb g.one.on in
      let r = at_pair w (IsReplayed w) k.a k.b k.old k.new world.replayed in
      let stands = at_pair w (λ p. StandsOn p call.batch call.place) k.a k.b k.old k.new at.1 in
      step_stands call.batch call.place g.to.place g.ask g.answer (pair_of w k.a k.b) (pair_of w a b) fits.batch fits.place r.sound stands g.asks k.means g.absorbs

  later : suc n ≤ turns_before g.to.place
  later =
      let x = told_is w'.old_store.told tells.old in
      let y = told_is w'.new_store.told tells.new in
      let so_far = at.0 in
      let more = (step x.0 y.0 x.1 y.1).0 in
      omega (arith, so_far, more)

query_on : (n : ℕ) (w w' : WorldState) (call : queries.Call) (entry : Option NewEntry) (a' : Actor) → IsWorld w → StandsAt n w (Client (client.Query call)) → IsSameWorld w w' → QueryGoesOn call w w' entry a' → Tells w' → StandsAt (suc n) w' a'
query_on n w w' call entry a' world at same g tells = subst (StandsAt (suc n) w') (sym g.after) (
  later,
  for_pair w' (λ p. alone.StandsOn p g.to.pk g.to.place) (λ a b ea eb.
      subst (λ p. alone.StandsOn p g.to.pk g.to.place) (sym (same_pair w w' same a b)) (subst (λ pk. alone.StandsOn (pair_of w a b) pk g.to.place) (sym g.pk) (step a b ea eb).1)),
) where
  step : (a b : Contents) → w'.old_store.told ≡ Some a → w'.new_store.told ≡ Some b → (alone.turns_before call.place < alone.turns_before g.to.place) × alone.StandsOn (pair_of w a b) call.pk g.to.place
  step a b ea eb =
      let k = before w w' g.ask.side g.ask.ask g.answer a b ea eb g.one.on in
      let r = at_pair w (IsReplayed w) k.a k.b k.old k.new world.replayed in
      let stands = at_pair w (λ p. alone.StandsOn p call.pk call.place) k.a k.b k.old k.new at.1 in
      alone_laws.step_stands call.pk call.filter call.place g.to.place g.ask g.answer (pair_of w k.a k.b) (pair_of w a b) r.sound stands g.asks k.means g.absorbs

  later : suc n ≤ alone.turns_before g.to.place
  later =
      let x = told_is w'.old_store.told tells.old in
      let y = told_is w'.new_store.told tells.new in
      let so_far = at.0 in
      let more = (step x.0 y.0 x.1 y.1).0 in
      omega (arith, so_far, more)

pub stands_on : (n : ℕ) (w w' : WorldState) (caller : ℕ) (a a' : Actor) (entry : Option NewEntry) → IsWorld w → StandsAt n w a → Turns w caller a (Ok More) entry w' a' → Tells w' → StandsAt (suc n) w' a'
stands_on n w w' caller (Client (client.Batch call)) a' entry world at t tells = batch_on n w w' call entry a' world t.fits at t.same (goes_on w w' call entry a' t.moves) tells
stands_on n w w' caller (Client (client.Query call)) a' entry world at t tells = query_on n w w' call entry a' world at t.same (query_goes_on w w' call entry a' t.moves) tells
stands_on n w w' caller (Client (client.Page call)) a' entry world at t tells = (let g = page_goes_on w w' call entry a' t.moves in subst (StandsAt (suc n) w') (sym g.after) (page_on n w w' caller call a' entry world at t g tells))
stands_on n w w' caller (Client client.Ended) a' entry world at t tells = absurd at
stands_on n w w' caller (Migrator state) a' entry world at t tells = absurd at
stands_on n w w' caller (Cleaner state) a' entry world at t tells = absurd at

-- one turn more is within the bound
stands_few : (n : ℕ) (w : WorldState) (a : Actor) → StandsAt n w a → n + 1 ≤ turns_at_most a
stands_few n w (Client (client.Batch call)) h = (let so_far = h.0 in let few = few_before call.place in omega (arith, so_far, few))
stands_few n w (Client (client.Query call)) h = (let so_far = h.0 in let few = alone_laws.few_before call.place in omega (arith, so_far, few))
stands_few n w (Client (client.Page call)) h = page_few n w call h
stands_few n w (Client client.Ended) h = absurd h
stands_few n w (Migrator state) h = absurd h
stands_few n w (Cleaner state) h = absurd h

-- which stays the same
same_bound : (w w' : WorldState) (caller : ℕ) (a a' : Actor) (entry : Option NewEntry) → Turns w caller a (Ok More) entry w' a' → turns_at_most a' ≡ turns_at_most a
same_bound w w' caller (Client (client.Batch call)) a' entry t = ap turns_at_most (goes_on w w' call entry a' t.moves).after
same_bound w w' caller (Client (client.Query call)) a' entry t = ap turns_at_most (query_goes_on w w' call entry a' t.moves).after
same_bound w w' caller (Client (client.Page call)) a' entry t = ap turns_at_most (page_goes_on w w' call entry a' t.moves).after
same_bound w w' caller (Client client.Ended) a' entry t = absurd t.moves.2
same_bound w w' caller (Migrator state) a' entry t = ap turns_at_most (migrator_goes_on state t.moves.1 entry a' t.moves.4).after
same_bound w w' caller (Cleaner state) a' entry t = ap turns_at_most (cleaner_goes_on state t.moves.1 More entry a' t.moves.4).after

-- ---- the turns of a call so far

-- turns that went on, with these marks: with turns that end the call from here, they are turns that end it from its beginning
pub record Went (w : WorldState) (caller : ℕ) (a : Actor) (m : WorldState) (b : Actor) : Type 0 where
  pub marks : List Mark
  pub rest : (next : Mark) (more : List Mark) (r : Result Answer TurnFault) (w' : WorldState) → Finishes (next ∷ more) m caller b r w' → Finishes (marks ++ next ∷ more) w caller a r w'
  pub stands : IsAtBegin a → Tells m → StandsAt (length marks) m b
  pub bound : turns_at_most b ≡ turns_at_most a
  pub keeps : KeepsApart w (actor_facts a) m (actor_facts b)

pub went_none : (w : WorldState) (caller : ℕ) (a : Actor) → Went w caller a w a
went_none w caller a = record { marks = []; rest = λ next more r w' f. f; stands = λ begin tells. begins w a begin; bound = refl; keeps = λ f stands. stands }

abbrev pub mark_of : WorldState → Option NewEntry → Mark
mark_of w entry = record { place = end_of w; entry = entry }

pub went_more : (w m m' : WorldState) (caller : ℕ) (a b b' : Actor) (entry : Option NewEntry) → IsWorld m → Went w caller a m b → Turns m caller b (Ok More) entry m' b' → Went w caller a m' b'
went_more w m m' caller a b b' entry world g t = record {
  marks = g.marks ++ mark_of m entry ∷ [];
  rest = λ next more r w' f. subst (λ ms. Finishes ms w caller a r w') (sym (append_assoc g.marks (mark_of m entry ∷ []) (next ∷ more))) (g.rest (mark_of m entry) (next ∷ more) r w' (m', b', record { place = refl; turn = t }, f));
  stands = λ begin tells. subst (λ n. StandsAt n m' b') (sym (length-append g.marks (mark_of m entry ∷ []) ∙ let e : length g.marks + 1 ≡ suc (length g.marks) = omega arith in e))
      (stands_on (length g.marks) m m' caller b b' entry world (g.stands begin (t.tells tells)) t tells);
  bound = same_bound m m' caller b b' entry t ∙ g.bound;
  keeps = λ f stands. t.keeps f (g.keeps f stands);
}

-- a call that has ended knows nothing
pub beside_none : (w : WorldState) (own : List Fact) (f : Fact) → StandsBeside w own f → StandsBeside w [] f
beside_none w own f stands = map_pair w (λ p. IsTrueOf w p f × ApartFrom f own) (λ p. IsTrueOf w p f × ApartFrom f []) (λ p h. (h.0, tt)) stands

pub went_ends : (w m w' : WorldState) (caller : ℕ) (a b b' : Actor) (r : Result Answer TurnFault) (entry : Option NewEntry) → Went w caller a m b → Turns m caller b (last_turn r) entry w' b' → EndsCall w caller a r w'
went_ends w m w' caller a b b' r entry g t = record {
  marks = g.marks ++ mark_of m entry ∷ [];
  turns = g.rest (mark_of m entry) [] r w' (b', record { place = refl; turn = t });
  few = λ begin tells. subst (λ n. n ≤ turns_at_most a) (sym (length-append g.marks (mark_of m entry ∷ [])))
      (subst (λ n. length g.marks + 1 ≤ n) g.bound (stands_few (length g.marks) m b (g.stands begin (t.tells tells))));
  keeps = λ f stands. beside_none w' (actor_facts b') f (t.keeps f (g.keeps f stands));
}

-- ---- what a whole call does

pub rose_from : (w m w' : ℕ) → w ≤ m → Rose m w' → Rose w w'
rose_from w m w' le rose = omega (arith, le, rose)

pub calls_grow : (c c' : Stage) (a a' : Actor) (r : Result Progress TurnFault) (entry : Option NewEntry) → Moves c a r entry c' a' → c.calls ≤ c'.calls
calls_grow c c' a a' (Ok progress) entry m = m.3.grew
calls_grow c c' a a' (Err StoreFault) entry m = m.2.grew
calls_grow c c' a a' (Err HistoryFull) entry m = (let e = m.0.calls in omega (arith, e))
calls_grow c c' a a' (Err NoMemory) entry m = elim m.0 as (λ _. c.calls ≤ c'.calls) [ inl none ↦ (let e = none.calls in omega (arith, e)) | inr vain ↦ vain.call.grew ]

pub full_last : (r : Result Answer TurnFault) → is_full (last_turn r) ≡ is_full r
full_last (Ok answer) = refl
full_last (Err StoreFault) = refl
full_last (Err HistoryFull) = refl
full_last (Err NoMemory) = refl

pub last_cause : (w w' : WorldState) (caller : ℕ) (a a' : Actor) (r : Result Answer TurnFault) (entry : Option NewEntry) → Turns w caller a (last_turn r) entry w' a' → r ≡ Err StoreFault → EitherRose w w'
last_cause w w' caller a a' r entry t is =
    let m = (subst (λ x. Turns w caller a (last_turn x) entry w' a') is t).moves in
    failed_rose w w' m.0.side m.0.ask m.2.on

-- an entry is the one that the call is to leave, and an answer has one
pub record IsEntryOf (r : Result Answer TurnFault) (want entry : Option NewEntry) : Type 0 where
  pub is : entry ≡ want
  pub answered : OnOk r (IsSome want)

-- the last turn's entry has the batch and its answer
batch_ended : (ops : List Op) (to : Call) (said : BatchProgress) (answer : Answer) → to.batch ≡ ops → Done answer ≡ (batch_move to said).progress → IsEntryOf (Ok answer) (batch_entry ops (Ok answer)) (batch_move to said).entry
batch_ended ops to batch.More answer same is = absurd cc
batch_ended ops to (batch.Written tags) (Written given) same is = (let e : given ≡ tags = cc in record { is = ap (λ t. batch_entry to.batch (Ok (Written t))) (sym e) ∙ ap (λ o. batch_entry o (Ok (Written given))) same; answered = refl })
batch_ended ops to (batch.Written tags) (Refused refusal) same is = absurd cc
batch_ended ops to (batch.Written tags) (Rows rows) same is = absurd cc
batch_ended ops to (batch.Written tags) (Page whole) same is = absurd cc
batch_ended ops to (batch.Refused refusal) (Refused told) same is = (let e : told ≡ refusal = cc in record { is = ap (λ t. batch_entry to.batch (Ok (Refused t))) (sym e) ∙ ap (λ o. batch_entry o (Ok (Refused told))) same; answered = refl })
batch_ended ops to (batch.Refused refusal) (Written given) same is = absurd cc
batch_ended ops to (batch.Refused refusal) (Rows rows) same is = absurd cc
batch_ended ops to (batch.Refused refusal) (Page whole) same is = absurd cc
batch_ended ops to (batch.Written tags) Moved same is = absurd cc
batch_ended ops to (batch.Written tags) Cleaned same is = absurd cc
batch_ended ops to (batch.Written tags) NotSealed same is = absurd cc
batch_ended ops to (batch.Written tags) (NotMigrated pk) same is = absurd cc
batch_ended ops to (batch.Refused refusal) Moved same is = absurd cc
batch_ended ops to (batch.Refused refusal) Cleaned same is = absurd cc
batch_ended ops to (batch.Refused refusal) NotSealed same is = absurd cc
batch_ended ops to (batch.Refused refusal) (NotMigrated pk) same is = absurd cc

batch_last : (c c' : Stage) (call : Call) (a' : Actor) (r : Result Answer TurnFault) (entry : Option NewEntry) → Moves c (Client (client.Batch call)) (last_turn r) entry c' a' → IsEntryOf r (batch_entry call.batch r) entry
batch_last c c' call a' (Ok answer) entry m =
    let b : BatchMoves call m.1 (record { progress = Done answer; entry = entry; after = a' }) = m.4 in
    subst (IsEntryOf (Ok answer) (batch_entry call.batch (Ok answer))) (sym (ap (λ (x : Move). x.entry) b.is)) (batch_ended call.batch b.to b.said answer b.same (ap (λ (x : Move). x.progress) b.is))
batch_last c c' call a' (Err StoreFault) entry m = record { is = m.3; answered = tt }
batch_last c c' call a' (Err HistoryFull) entry m = record { is = m.1; answered = tt }
batch_last c c' call a' (Err NoMemory) entry m = record { is = m.1; answered = tt }

-- and that of a query the partition, the filter and the rows
query_ended : (pk : List ℕ) (test : Option Filter) (to : queries.Call) (said : QueryProgress) (answer : Answer) → to.pk ≡ pk → to.filter ≡ test → Done answer ≡ (query_move to said).progress → IsEntryOf (Ok answer) (query_entry pk test (Ok answer)) (query_move to said).entry
query_ended pk test to query.More answer same whole is = absurd cc
query_ended pk test to (query.Rows rows) (Rows given) same whole is =
    (let e : given ≡ rows = cc in record { is = ap (λ t. query_entry to.pk to.filter (Ok (Rows t))) (sym e) ∙ (λ i. query_entry (same i) (whole i) (Ok (Rows given))); answered = refl })
query_ended pk test to (query.Rows rows) (Written given) same whole is = absurd cc
query_ended pk test to (query.Rows rows) (Refused refusal) same whole is = absurd cc
query_ended pk test to (query.Rows rows) (Page page) same whole is = absurd cc
query_ended pk test to (query.Rows rows) Moved same whole is = absurd cc
query_ended pk test to (query.Rows rows) Cleaned same whole is = absurd cc
query_ended pk test to (query.Rows rows) NotSealed same whole is = absurd cc
query_ended pk test to (query.Rows rows) (NotMigrated part) same whole is = absurd cc

query_last : (c c' : Stage) (call : queries.Call) (a' : Actor) (r : Result Answer TurnFault) (entry : Option NewEntry) → Moves c (Client (client.Query call)) (last_turn r) entry c' a' → IsEntryOf r (query_entry call.pk call.filter r) entry
query_last c c' call a' (Ok answer) entry m =
    let b : QueryMoves call m.1 (record { progress = Done answer; entry = entry; after = a' }) = m.4 in
    subst (IsEntryOf (Ok answer) (query_entry call.pk call.filter (Ok answer))) (sym (ap (λ (x : Move). x.entry) b.is)) (query_ended call.pk call.filter b.to b.said answer b.pk b.filter (ap (λ (x : Move). x.progress) b.is))
query_last c c' call a' (Err StoreFault) entry m = record { is = m.3; answered = tt }
query_last c c' call a' (Err HistoryFull) entry m = record { is = m.1; answered = tt }
query_last c c' call a' (Err NoMemory) entry m = record { is = m.1; answered = tt }

pub mark_is : (m : Mark) (place : ℕ) (entry : Option NewEntry) → m.place ≡ place → m.entry ≡ entry → m ≡ record { place = place; entry = entry }
mark_is m place entry at is i = record { place = at i; entry = is i }

-- the last turn alone
pub last_answers : (m : Mark) (w w' : WorldState) (caller : ℕ) (a a' : Actor) (want : Option NewEntry) (r : Result Answer TurnFault) → retired_by a (last_turn r) w.retired ≡ w.retired → MarkedTurn m w caller a (last_turn r) w' a' → IsEntryOf r want m.entry → CallAnswers w caller (need_of a) want (m ∷ []) r w'
last_answers m w w' caller a a' want r retired marked of =
    let t = marked.turn in
    let k = moved (stage_of w) (stage_of w') a a' (last_turn r) m.entry t.moves in
    record {
      same = t.same;
      retired = t.retired ∙ retired;
      tells = t.tells;
      full = sym (full_last r) ∙ t.full;
      answered = of.answered;
      marks_are = mark_is m (end_of w) want marked.place of.is;
      entries = t.adds.entries ∙ ap (entries_with w.history.entries w.numbers caller) of.is;
      replies = subst (λ e. RepliesAt w e w') of.is t.replies;
      cause = last_cause w w' caller a a' r m.entry t;
      old_faults = k.old_faults;
      new_faults = k.new_faults;
      calls = calls_grow (stage_of w) (stage_of w') a a' (last_turn r) m.entry t.moves;
    }

replies_from : (w m w' : WorldState) (entry : Option NewEntry) → table_now m ≡ table_now w → RepliesAt m entry w' → RepliesAt w entry w'
replies_from w m w' None table h = tt
replies_from w m w' (Some e) table h = subst (λ t. ForPair w' (λ p. Replies e.what t e.reply)) table h

pub then_same : (w m w' : WorldState) → IsSameWorld w m → IsSameWorld m w' → IsSameWorld w w'
then_same w m w' s t = record {
  old_number = t.old_number ∙ s.old_number;
  new_number = t.new_number ∙ s.new_number;
  base = t.base ∙ s.base;
  first = t.first ∙ s.first;
  limit = t.limit ∙ s.limit;
  generation = t.generation ∙ s.generation;
  opened_faults = t.opened_faults ∙ s.opened_faults;
}

-- entries with one more, where the caller's number and the entries were the same before
pub entries_from : (entry : Option NewEntry) (caller : ℕ) (xs ys : List Entry) (k l : List (ℕ × ℕ)) → xs ≡ ys → next_number k caller ≡ next_number l caller → entries_with xs k caller entry ≡ entries_with ys l caller entry
entries_from None caller xs ys k l same number = same
entries_from (Some e) caller xs ys k l same number = ap (λ es. es ++ entry_of k caller e.what ∷ []) same ∙ ap (λ n. ys ++ (record { caller = caller; number = n; what = e.what }) ∷ []) number

-- room is by the entries and the limit
pub same_room : (k l : Kept) (need : ℕ) → k.entries ≡ l.entries → k.limit ≡ l.limit → has_room k need ≡ has_room l need
same_room k l need entries limit = ap (λ es. nat_lt (length es) k.limit && nat_le (total_weight es + need) (2 ^ 30)) entries ∙ ap (λ n. nat_lt (length l.entries) n && nat_le (total_weight l.entries + need) (2 ^ 30)) limit

-- a turn that goes on, and then the rest
then_answers : (m next : Mark) (marks : List Mark) (w v w' : WorldState) (caller need : ℕ) (a b : Actor) (want : Option NewEntry) (r : Result Answer TurnFault) → m.entry ≡ None → retired_by a (Ok More) w.retired ≡ w.retired → MarkedTurn m w caller a (Ok More) v b
    → CallAnswers v caller need want (next ∷ marks) r w' → CallAnswers w caller need want (m ∷ next ∷ marks) r w'
then_answers m next marks w v w' caller need a b want r none retired marked rest =
    let t = marked.turn in
    let k = moved (stage_of w) (stage_of v) a b (Ok More) m.entry t.moves in
    let adds = subst (λ e. Adds (log_of w) caller e (log_of v)) none t.adds in
    let ends : end_of v ≡ end_of w = ap (λ n. n + length v.history.entries) t.same.first ∙ ap (λ es. w.history.first + length es) adds.entries in
    record {
      same = then_same w v w' t.same rest.same;
      retired = rest.retired ∙ t.retired ∙ retired;
      tells = λ tells. t.tells (rest.tells tells);
      full = rest.full ∙ ap not (same_room v.history w.history need adds.entries t.same.limit);
      answered = rest.answered;
      marks_are = (mark_is m (end_of w) None marked.place none, subst (λ n. AreMarksAt n want (next ∷ marks)) ends rest.marks_are);
      entries = rest.entries ∙ entries_from want caller v.history.entries w.history.entries v.numbers w.numbers adds.entries (adds.numbers caller);
      replies = replies_from w v w' want (ap table_at_end (window_stays w v t.same adds.entries)) rest.replies;
      cause = λ is. elim (rest.cause is) as (λ _. EitherRose w w') [
        | inl rose ↦ inl (rose_from w.old_store.faults v.old_store.faults w'.old_store.faults k.old_faults rose)
        | inr rose ↦ inr (rose_from w.new_store.faults v.new_store.faults w'.new_store.faults k.new_faults rose)
      ];
      old_faults = (let x = k.old_faults in let y = rest.old_faults in omega (arith, x, y));
      new_faults = (let x = k.new_faults in let y = rest.new_faults in omega (arith, x, y));
      calls = (let x = calls_grow (stage_of w) (stage_of v) a b (Ok More) m.entry t.moves in let y = rest.calls in omega (arith, x, y));
    }

-- turns that end the call of a batch answer it
pub batch_answers : (marks : List Mark) (w w' : WorldState) (caller : ℕ) (call : Call) (r : Result Answer TurnFault) → Finishes marks w caller (Client (client.Batch call)) r w' → BatchAnswers w caller call.batch marks r w'
batch_answers [] w w' caller call r f = absurd f
batch_answers (m ∷ []) w w' caller call r f = last_answers m w w' caller (Client (client.Batch call)) f.0 (batch_entry call.batch r) r refl f.1 (batch_last (stage_of w) (stage_of w') call f.0 r m.entry f.1.turn.moves)
batch_answers (m ∷ next ∷ marks) w w' caller call r f =
    let g = goes_on w f.0 call m.entry f.1 f.2.turn.moves in
    let rest = batch_answers (next ∷ marks) f.0 w' caller g.to r (subst (λ b. Finishes (next ∷ marks) f.0 caller b r w') g.after f.3) in
    then_answers m next marks w f.0 w' caller (batch_weight call.batch) (Client (client.Batch call)) f.1 (batch_entry call.batch r) r g.none refl f.2 (subst (λ ops. BatchAnswers f.0 caller ops (next ∷ marks) r w') g.same_ops rest)

-- and those of a query
pub query_answers : (marks : List Mark) (w w' : WorldState) (caller : ℕ) (call : queries.Call) (r : Result Answer TurnFault) → Finishes marks w caller (Client (client.Query call)) r w' → QueryAnswers w caller call.pk call.filter marks r w'
query_answers [] w w' caller call r f = absurd f
query_answers (m ∷ []) w w' caller call r f = last_answers m w w' caller (Client (client.Query call)) f.0 (query_entry call.pk call.filter r) r refl f.1 (query_last (stage_of w) (stage_of w') call f.0 r m.entry f.1.turn.moves)
query_answers (m ∷ next ∷ marks) w w' caller call r f =
    let g = query_goes_on w f.0 call m.entry f.1 f.2.turn.moves in
    let rest = query_answers (next ∷ marks) f.0 w' caller g.to r (subst (λ b. Finishes (next ∷ marks) f.0 caller b r w') g.after f.3) in
    then_answers m next marks w f.0 w' caller (need_of_query call.pk call.filter) (Client (client.Query call)) f.1 (query_entry call.pk call.filter r) r g.none refl f.2
    (subst (λ pk. QueryAnswers f.0 caller pk call.filter (next ∷ marks) r w') g.pk (subst (λ test. QueryAnswers f.0 caller g.to.pk test (next ∷ marks) r w') g.filter rest))
