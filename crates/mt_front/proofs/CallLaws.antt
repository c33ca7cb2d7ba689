-- What the turns of a whole call say: its answer, one tag for each operation of a batch that was written, and the counts of faults.
use Rattle.std.proofs.Common.{◌≡◌, ℕ, Bool, true, false, List, [], ◌∷◌, ◌++◌, length, Option, Some, None, Ok, Err, refl, ap, ◌∙◌, subst, inl, inr}
use Rattle.std.specs.Prelude.{Result, OnOk, IsSome}
use Rattle.std.specs.Option.{option_to_list}
use Rattle.mt_model.specs.declared.tag.Tag.{Tag}
use Rattle.mt_filter.specs.declared.filter.Filter.{Filter}
use Rattle.mt_match.specs.declared.bounds.Bounds.{Bounds}
use Rattle.mt_chain.specs.declared.ask.Ask.{Ask}
use Rattle.mt_chain.specs.declared.ask.Side.{Side}
use Rattle.mt_chain.specs.declared.ask.Side.TheVariants.{Old, New}
use Rattle.mt_chain.specs.declared.ask.StoreReply.{StoreReply}
use Rattle.mt_chain.specs.Store.{Store}
use Rattle.mt_batch_plan.specs.declared.call.BatchProgress.{BatchProgress}
use Rattle.mt_batch_plan.specs.declared.call.BatchProgress.TheVariants as batch
use Rattle.mt_batch_plan.specs.declared.place.Place.TheVariants.{ReadOld}
use Rattle.mt_batch_plan.specs.Calls.{Call, Absorbs}
use Rattle.mt_query_plan.specs.declared.place.Place.TheVariants as query_place
use Rattle.mt_query_plan.specs.Queries as queries
use Rattle.mt_scan.specs.declared.unit.Token.{Token}
use Rattle.mt_scan.specs.Pages as pages
use Rattle.mt_world.specs.declared.actor.Request.{Request}
use Rattle.mt_world.specs.declared.actor.Request.TheVariants as request
use Rattle.mt_world.specs.declared.actor.Actor.{Actor}
use Rattle.mt_world.specs.declared.actor.Actor.TheVariants.{Client}
use Rattle.mt_world.specs.declared.actor.ClientCall.{ClientCall}
use Rattle.mt_world.specs.declared.actor.ClientCall.TheVariants as client
use Rattle.mt_world.specs.declared.actor.Answer.{Answer}
use Rattle.mt_world.specs.declared.actor.Answer.TheVariants.{Written, Refused, Rows, Page, Moved, Cleaned, NotSealed, NotMigrated}
use Rattle.mt_world.specs.declared.actor.Progress.{Progress}
use Rattle.mt_world.specs.declared.actor.Progress.TheVariants.{More, Done}
use Rattle.mt_world.specs.declared.actor.TurnFault.{TurnFault}
use Rattle.mt_world.specs.declared.actor.TurnFault.TheVariants.{StoreFault, HistoryFull, NoMemory}
use Rattle.mt_world.specs.Worlds.{WorldState}
use Rattle.mt_world.specs.Moves.{NewEntry, Move, BatchMoves, IsCallOf, batch_move}
use Rattle.mt_world.specs.Turns.{CallsOn, NoCall, Moves, stage_of, is_full, EitherRose}
use Rattle.mt_world.specs.WholeCalls.{Mark, Finishes, EndsCall, batch_entry, query_entry, last_turn, end_of}
use Rattle.mt_world.specs.PageCalls.{with_one, entries_left, AreStepEntries, entries_at_end}
use Rattle.mt_world.proofs.StageLaws.{written_at_write}
use Rattle.mt_world.proofs.FinishLaws.{goes_on, batch_answers, query_answers}
use Rattle.mt_world.proofs.PageAnswerLaws.{page_answers}
use Rattle.mt_front.specs.declared.connection.Outcome.{Outcome}
use Rattle.mt_front.specs.declared.connection.Outcome.TheVariants as outcome
use Rattle.mt_front.specs.Items.{is_fault, entries_of}
use Rattle.mt_front.specs.Session.{counts_of}
use Rattle.mt_front.specs.Turns.{BrokeOff, Tries, IsOwn, Leaves, room_for, answer_of, outcome_of}
use Rattle.mt_front.proofs.OwnLaws.{left_at}
use Rattle.mt_front.proofs.MarkLaws.{Marked, finishes_marked}
use Rattle.mt_front.proofs.MachineLaws.{call_forward}
use Rattle.mt_front.proofs.CameLaws.{tried, starved}

-- ---- tags

-- a batch that was written has as many tags as operations
abbrev pub TagsFit : Request → List Tag → Type 0
TagsFit (request.Batch ops) tags = length tags ≡ length ops
TagsFit (request.Query pk filter) tags = Unit {0}
TagsFit (request.Page filter top token) tags = Unit {0}

written_now : (call to : Call) (answer : StoreReply) (said : BatchProgress) (tags : List Tag) → Absorbs call.batch call.place answer (Ok said) to.place → Done (Written tags) ≡ (batch_move to said).progress → length tags ≡ length call.batch
written_now call to answer batch.More tags a e = absurd cc
written_now call to answer (batch.Written given) tags a e = let g : tags ≡ given = cc in ap length g ∙ (written_at_write call.batch call.place to.place answer given a).1
written_now call to answer (batch.Refused r) tags a e = absurd cc

tags_last : (w w' : WorldState) (call : Call) (tags : List Tag) (entry : Option NewEntry) (after : Actor) → Moves (stage_of w) (Client (client.Batch call)) (Ok (Done (Written tags))) entry (stage_of w') after → length tags ≡ length call.batch
tags_last w w' call tags entry after m =
    let b : BatchMoves call m.1 (record { progress = Done (Written tags); entry = entry; after = after }) = m.4 in
    written_now call b.to m.1 b.said tags b.absorbs (ap (λ (x : Move). x.progress) b.is)

tags_each : (marks : List Mark) (w : WorldState) (c : ℕ) (call : Call) (tags : List Tag) (w' : WorldState) → Finishes marks w c (Client (client.Batch call)) (Ok (Written tags)) w' → length tags ≡ length call.batch
tags_each [] w c call tags w' f = absurd f
tags_each (m ∷ []) w c call tags w' f = tags_last w w' call tags m.entry f.0 f.1.turn.moves
tags_each (m ∷ next ∷ marks) w c call tags w' f =
    let g = goes_on w f.0 call m.entry f.1 f.2.turn.moves in
    tags_each (next ∷ marks) f.0 c g.to tags w' (subst (λ b. Finishes (next ∷ marks) f.0 c b (Ok (Written tags)) w') g.after f.3) ∙ ap length g.same_ops

-- ---- counts of faults

-- a store call failed in the last turn
abbrev pub has_failed : {A : Type 0} → Result A TurnFault → Bool
has_failed (Ok a) = false
has_failed (Err StoreFault) = true
has_failed (Err HistoryFull) = false
has_failed (Err NoMemory) = false

failed_last : (r : Result Answer TurnFault) → has_failed (last_turn r) ≡ has_failed r
failed_last (Ok answer) = refl
failed_last (Err StoreFault) = refl
failed_last (Err HistoryFull) = refl
failed_last (Err NoMemory) = refl

module _ (w w' : WorldState) where
  pub both_still : w'.old_store.faults ≡ w.old_store.faults → w'.new_store.faults ≡ w.new_store.faults → counts_of w' ≡ counts_of w
  both_still p q = ap (λ n. record { old_store = n; new_store = w'.new_store.faults }) p ∙ ap (λ n. record { old_store = w.old_store.faults; new_store = n }) q

  pub on_still : (side : Side) (a : Ask) (answer : StoreReply) → CallsOn side w.old_store w.new_store a (Ok answer) w'.old_store w'.new_store → counts_of w' ≡ counts_of w
  on_still Old a answer h = both_still h.0.faults (ap (λ (s : Store). s.faults) h.1)
  on_still New a answer h = both_still (ap (λ (s : Store). s.faults) h.1) h.0.faults

  pub none_still : NoCall (stage_of w) (stage_of w') → counts_of w' ≡ counts_of w
  none_still h = both_still (ap (λ (s : Store). s.faults) h.old_store) (ap (λ (s : Store). s.faults) h.new_store)

  pub moved_still : (a b : Actor) (r : Result Progress TurnFault) (entry : Option NewEntry) → has_failed r ≡ false → Moves (stage_of w) a r entry (stage_of w') b → counts_of w' ≡ counts_of w
  moved_still a b (Ok progress) entry e m = on_still m.0.side m.0.ask m.1 m.3.on
  moved_still a b (Err StoreFault) entry e m = absurd cc
  moved_still a b (Err HistoryFull) entry e m = none_still m.0
  moved_still a b (Err NoMemory) entry e m = elim m.0 as (λ _. counts_of w' ≡ counts_of w) [ inl n ↦ none_still n | inr v ↦ both_still v.old_faults v.new_faults ]

-- a call in which no store call failed raises no count
finishes_still : (marks : List Mark) (w : WorldState) (c : ℕ) (a : Actor) (r : Result Answer TurnFault) (w' : WorldState) → has_failed r ≡ false → Finishes marks w c a r w' → counts_of w' ≡ counts_of w
finishes_still [] w c a r w' e f = absurd f
finishes_still (m ∷ []) w c a r w' e f = moved_still w w' a f.0 (last_turn r) m.entry (failed_last r ∙ e) f.1.turn.moves
finishes_still (m ∷ next ∷ marks) w c a r w' e f = finishes_still (next ∷ marks) f.0 c f.1 r w' e f.3 ∙ moved_still w f.0 a f.1 (Ok More) m.entry refl f.2.turn.moves

-- ---- a request, from its call on

-- the answer is one of a batch, or of a query
abbrev pub IsAnswered : Request → Result Answer TurnFault → Type 0
IsAnswered (request.Batch ops) r = OnOk r (IsSome (batch_entry ops r))
IsAnswered (request.Query pk filter) r = OnOk r (IsSome (query_entry pk filter r))
IsAnswered (request.Page filter top token) r = Unit {0}

-- what a finished call of a request says
pub record Called (c : ℕ) (w : WorldState) (q : Request) (r : Result Answer TurnFault) (w' : WorldState) : Type 0 where
  pub marks : List Mark
  pub marked : Marked c (room_for q) (is_full r) w marks w'
  pub leaves : Leaves q r (entries_of marks)
  pub answered : IsAnswered q r
  pub cause : r ≡ Err StoreFault → EitherRose w w'
  pub still : has_failed r ≡ false → counts_of w' ≡ counts_of w
  pub tags : (tags : List Tag) → r ≡ Ok (Written tags) → TagsFit q tags

batch_called : (c : ℕ) (w w' : WorldState) (call : Call) (r : Result Answer TurnFault) → EndsCall w c (Client (client.Batch call)) r w' → Called c w (request.Batch call.batch) r w'
batch_called c w w' call r ends =
    let a = batch_answers ends.marks w w' c call r ends.turns in
    record {
      marks = ends.marks;
      marked = finishes_marked ends.marks c w w' (client.Batch call) r ends.turns;
      leaves = left_at (end_of w) (batch_entry call.batch r) ends.marks a.marks_are;
      answered = a.answered;
      cause = a.cause;
      still = λ e. finishes_still ends.marks w c (Client (client.Batch call)) r w' e ends.turns;
      tags = λ tags is. tags_each ends.marks w c call tags w' (subst (λ v. Finishes ends.marks w c (Client (client.Batch call)) v w') is ends.turns);
    }

query_called : (c : ℕ) (w w' : WorldState) (call : queries.Call) (r : Result Answer TurnFault) → EndsCall w c (Client (client.Query call)) r w' → Called c w (request.Query call.pk call.filter) r w'
query_called c w w' call r ends =
    let a = query_answers ends.marks w w' c call r ends.turns in
    record {
      marks = ends.marks;
      marked = finishes_marked ends.marks c w w' (client.Query call) r ends.turns;
      leaves = left_at (end_of w) (query_entry call.pk call.filter r) ends.marks a.marks_are;
      answered = a.answered;
      cause = a.cause;
      still = λ e. finishes_still ends.marks w c (Client (client.Query call)) r w' e ends.turns;
      tags = λ tags is. tt;
    }

same_entries : (marks : List Mark) → entries_left marks ≡ entries_of marks
same_entries [] = refl
same_entries (m ∷ marks) = by m.entry ∙ ap (λ es. option_to_list m.entry ++ es) (same_entries marks) where
  by : (o : Option NewEntry) → with_one o (entries_left marks) ≡ option_to_list o ++ entries_left marks
  by None = refl
  by (Some e) = refl

page_called : (c : ℕ) (w w' : WorldState) (filter : Option Filter) (bounds : Bounds) (top : ℕ) (token : Option Token) (r : Result Answer TurnFault) → pages.AreBounds filter bounds → EndsCall w c (Client (client.Page (pages.begun filter bounds top token))) r w'
    → Called c w (request.Page filter top token) r w'
page_called c w w' filter bounds top token r are ends =
    let call : pages.Page = pages.begun filter bounds top token in
    let a = page_answers ends.marks w w' c call r ends.turns in
    record {
      marks = ends.marks;
      marked = finishes_marked ends.marks c w w' (client.Page call) r ends.turns;
      leaves = (bounds, are, record { steps = a.steps; goes = a.goes; follow = a.follow; entries = subst (AreStepEntries filter a.steps (entries_at_end r)) (same_entries ends.marks) a.left; answered = a.answered });
      answered = tt;
      cause = a.cause;
      still = λ e. finishes_still ends.marks w c (Client (client.Page call)) r w' e ends.turns;
      tags = λ tags is. tt;
    }

called : (c : ℕ) (w w' : WorldState) (q : Request) (call : ClientCall) (r : Result Answer TurnFault) → IsCallOf q call → EndsCall w c (Client call) r w' → Called c w q r w'
called c w w' (request.Batch ops) call r is ends =
    batch_called c w w' (record { batch = ops; place = ReadOld }) r (subst (λ n. EndsCall w c (Client n) r w') is ends)
called c w w' (request.Query pk filter) call r is ends =
    query_called c w w' (record { pk = pk; filter = filter; place = query_place.ReadOld }) r (subst (λ n. EndsCall w c (Client n) r w') is ends)
called c w w' (request.Page filter top token) call r is ends =
    page_called c w w' filter is.0 top token r is.1 (subst (λ n. EndsCall w c (Client n) r w') is.2 ends)

-- an answer is one that the request can have
own_by : (q : Request) (o : Outcome) (es : List NewEntry) → IsAnswered q (answer_of o) → Leaves q (answer_of o) es → ((tags : List Tag) → answer_of o ≡ Ok (Written tags) → TagsFit q tags) → IsOwn q o
own_by (request.Batch ops) (outcome.Done tags) es answered leaves fit = fit tags refl
own_by (request.Batch ops) (outcome.Refused refusal) es answered leaves fit = tt
own_by (request.Batch ops) (outcome.Found rows) es answered leaves fit = absurd (let none : false ≡ true = answered in cc)
own_by (request.Batch ops) (outcome.Paged page) es answered leaves fit = absurd (let none : false ≡ true = answered in cc)
own_by (request.Batch ops) outcome.Fault es answered leaves fit = tt
own_by (request.Batch ops) outcome.Full es answered leaves fit = tt
own_by (request.Query pk filter) (outcome.Done tags) es answered leaves fit = absurd (let none : false ≡ true = answered in cc)
own_by (request.Query pk filter) (outcome.Refused refusal) es answered leaves fit = absurd (let none : false ≡ true = answered in cc)
own_by (request.Query pk filter) (outcome.Found rows) es answered leaves fit = tt
own_by (request.Query pk filter) (outcome.Paged page) es answered leaves fit = absurd (let none : false ≡ true = answered in cc)
own_by (request.Query pk filter) outcome.Fault es answered leaves fit = tt
own_by (request.Query pk filter) outcome.Full es answered leaves fit = tt
own_by (request.Page filter top token) (outcome.Done tags) es answered leaves fit = absurd leaves.2.answered
own_by (request.Page filter top token) (outcome.Refused refusal) es answered leaves fit = absurd leaves.2.answered
own_by (request.Page filter top token) (outcome.Found rows) es answered leaves fit = absurd leaves.2.answered
own_by (request.Page filter top token) (outcome.Paged page) es answered leaves fit = tt
own_by (request.Page filter top token) outcome.Fault es answered leaves fit = tt
own_by (request.Page filter top token) outcome.Full es answered leaves fit = tt

no_failure : (o : Outcome) → is_fault (outcome_of o) ≡ false → has_failed (answer_of o) ≡ false
no_failure (outcome.Done tags) e = refl
no_failure (outcome.Refused refusal) e = refl
no_failure (outcome.Found rows) e = refl
no_failure (outcome.Paged page) e = refl
no_failure outcome.Fault e = absurd cc
no_failure outcome.Full e = refl

-- a request was called, and came to this
pub tried_as : (c : ℕ) (w u w' : WorldState) (q : Request) (call : ClientCall) (o : Outcome) → u ≡ w → IsCallOf q call → EndsCall u c (Client call) (answer_of o) w' → Tries c w q (Ok o) w'
tried_as c w u w' q call o same is ends =
    let began = subst (λ v. EndsCall v c (Client call) (answer_of o) w') same ends in
    let k = called c w w' q call (answer_of o) is began in
    (k.marks, tried c w w' q o k.marks k.marked k.leaves (own_by q o (entries_of k.marks) k.answered k.leaves k.tags) k.cause (λ e. k.still (no_failure o e)) (call, answer_of o, is, began))

-- so where there was no memory
pub tried_in_vain : (c : ℕ) (w u w' : WorldState) (q : Request) (call : ClientCall) → u ≡ w → IsCallOf q call → EndsCall u c (Client call) (Err NoMemory) w' → (broken : List Mark) × BrokeOff c w broken w'
tried_in_vain c w u w' q call same is ends =
    let began = subst (λ v. EndsCall v c (Client call) (Err NoMemory) w') same ends in
    let k = called c w w' q call (Err NoMemory) is began in
    (k.marks, starved c w w' q k.marks k.marked k.leaves (k.still refl) (call_forward c w w' (Client call) (Err NoMemory) began))

-- the answer is none of a client's
abbrev pub IsForeign : Answer → Type 0
IsForeign (Written tags) = ⊥
IsForeign (Refused refusal) = ⊥
IsForeign (Rows rows) = ⊥
IsForeign (Page page) = ⊥
IsForeign answer = Unit {0}

foreign : (q : Request) (answer : Answer) (es : List NewEntry) → IsForeign answer → IsAnswered q (Ok answer) → Leaves q (Ok answer) es → ⊥
foreign (request.Batch ops) Moved es f answered leaves = (let none : false ≡ true = answered in cc)
foreign (request.Batch ops) Cleaned es f answered leaves = (let none : false ≡ true = answered in cc)
foreign (request.Batch ops) NotSealed es f answered leaves = (let none : false ≡ true = answered in cc)
foreign (request.Batch ops) (NotMigrated pk) es f answered leaves = (let none : false ≡ true = answered in cc)
foreign (request.Query pk filter) Moved es f answered leaves = (let none : false ≡ true = answered in cc)
foreign (request.Query pk filter) Cleaned es f answered leaves = (let none : false ≡ true = answered in cc)
foreign (request.Query pk filter) NotSealed es f answered leaves = (let none : false ≡ true = answered in cc)
foreign (request.Query pk filter) (NotMigrated part) es f answered leaves = (let none : false ≡ true = answered in cc)
foreign (request.Page filter top token) Moved es f answered leaves = leaves.2.answered
foreign (request.Page filter top token) Cleaned es f answered leaves = leaves.2.answered
foreign (request.Page filter top token) NotSealed es f answered leaves = leaves.2.answered
foreign (request.Page filter top token) (NotMigrated pk) es f answered leaves = leaves.2.answered
foreign q (Written tags) es f answered leaves = f
foreign q (Refused refusal) es f answered leaves = f
foreign q (Rows rows) es f answered leaves = f
foreign q (Page page) es f answered leaves = f

-- a request is never answered so
pub never_answered : (c : ℕ) (w w' : WorldState) (q : Request) (call : ClientCall) (answer : Answer) → IsForeign answer → IsCallOf q call → EndsCall w c (Client call) (Ok answer) w' → ⊥
never_answered c w w' q call answer f is ends =
    let k = called c w w' q call (Ok answer) is ends in
    foreign q answer (entries_of k.marks) f k.answered k.leaves
