-- How a request was answered, and what one turn of a session did.
use Rattle.std.proofs.Common.{◌≡◌, ℕ, ◌≤◌, Bool, true, false, not, List, [], ◌++◌, Ok, Err, refl, sym, ap, ◌∙◌, arith, subst, append_assoc, inl, inr}
use Rattle.std.specs.Prelude.{Result, Some, None, IfOk}
use Rattle.httparse.specs.Grammar.{RequestHead, print_request}
use Rattle.mt_io.specs.Ends.{Input, Output, Rose, before_known, after_known}
use Rattle.mt_io.proofs.Pieces.{after_after, before_before}
use Rattle.mt_http_in.specs.declared.Code.{Code}
use Rattle.mt_http_in.specs.declared.Code.TheVariants.{InvalidHead, InvalidFraming, RequestBodyTooLarge, InvalidBody, CompressedBody}
use Rattle.mt_http_in.specs.declared.InFault.{InFault}
use Rattle.mt_http_in.specs.declared.InFault.TheVariants as fault
use Rattle.mt_http_in.specs.declared.requests.Incoming.{Incoming}
use Rattle.mt_http_in.specs.Fields.{keeps_open}
use Rattle.mt_http_in.specs.Heads.{fields_of}
use Rattle.mt_http_in.specs.Reading.{ahead, Closes}
use Rattle.mt_http_in.specs.Requests.{ReadsRequest, HoldsRequest, Got, Packed, Closed as ClosedBy, Starved, RefusedAs, continue_of}
use Rattle.mt_http_in.specs.Requests as http
use Rattle.mt_world.specs.Worlds.{WorldState}
use Rattle.mt_world.specs.WholeCalls.{Mark}
use Rattle.mt_world.specs.declared.actor.Request.{Request}
use Rattle.mt_model.specs.declared.text.NoMemory.{NoMemory as NoRoom}
use Rattle.mt_http_out.specs.declared.reply.Reply.{Reply}
use Rattle.mt_http_out.specs.Rendering.{bytes_of}
use Rattle.mt_front.specs.declared.refusals.BadRequest.{BadRequest}
use Rattle.mt_front.specs.declared.refusals.BadRequest.TheVariants as bad
use Rattle.mt_front.specs.declared.asks.Asked.{Asked}
use Rattle.mt_front.specs.declared.asks.Asked.TheVariants as asked
use Rattle.mt_front.specs.declared.connection.Outcome.{Outcome}
use Rattle.mt_front.specs.declared.connection.End.TheVariants.{BadInput}
use Rattle.mt_front.specs.declared.connection.ConnFault.{ConnFault}
use Rattle.mt_front.specs.declared.connection.ConnFault.TheVariants.{ReadFault, WriteFault, NoMemory}
use Rattle.mt_front.specs.declared.connection.Turn.{Turn}
use Rattle.mt_front.specs.declared.connection.Turn.TheVariants.{Ended}
use Rattle.mt_front.specs.Refusals.{head_refusal, bad_reply, Makes}
use Rattle.mt_front.specs.Asks.{RequestAsks, AsksUnpacked, request_by, request_of}
use Rattle.mt_front.specs.Items.{Item, Bad, Renders, IsRendered, need_of, entries_of}
use Rattle.mt_front.specs.Answers.{IsCaused}
use Rattle.mt_front.specs.Session.{Sent, Cut, counts_of, Added, IsSaid}
use Rattle.mt_front.specs.declared.machines.Machines.{Machines}
use Rattle.mt_front.specs.Machines.{CallsWhole, CallDoes, ItemDoes}
use Rattle.mt_front.specs.Turns.{CameOut, Tries, room_for, outcome_of, tried_item, answer_of, Leaves, WritesReply, RepliedAs, SaysReply, SaysMade, BrokeOff, Answering, AnswersAs, AnswersOne, AnswersCall, AnswersBeside, AnswersWhole, AnswersWholeAs, AnswersRequest, RefusesAs, FaultedAs, AnswersFault, OneMore, IsRefusal, StarvedAt, TurnAs, SessionTurn, turn_behind, turn_refused, refusal_bytes}
use Rattle.mt_front.proofs.MachineLaws.{call_does}
use Rattle.mt_front.proofs.CameLaws.{bad_item, came_bad, caused_bad, nothing_broke, IsUndone, tried_off, added_self}

-- ---- bytes sent one after the other

pub sent_after : (o y x : Output) (a b : List ℕ) → Sent o a y → Sent y b x → Sent o (a ++ b) x
sent_after o y x a b p q = q ∙ ap (λ h. after_known h b) p ∙ after_after o.held a b

pub cut_after : (o y x : Output) (a b : List ℕ) → o.faults ≤ y.faults → Sent o a y → Cut y b x → Cut o (a ++ b) x
cut_after o y x a b le p q =
    let rose : Rose y.faults x.faults = q.cause in
    record {
      part = a ++ q.part;
      rest = q.rest;
      is = ap (λ v. a ++ v) q.is ∙ sym (append_assoc a q.part q.rest);
      held = sent_after o y x a q.part p q.held;
      cause = omega arith;
    }

-- ---- an answer whose reply was tried

-- a reply that was made, or was not
pub says_made : (o x : Output) (want : Reply) (made : Result Reply NoRoom) (r : Result (Unit {0}) ConnFault) → Makes want made → SaysMade o made r x → SaysReply o (bytes_of want) r x
says_made o x want (Ok given) r m s = subst (λ v. SaysReply o (bytes_of v) r x) m.0 s
says_made o x want (Err e) r m s = subst (λ v. SaysReply o (bytes_of want) v x) (sym s.0) (record { faults = subst (λ (z : Output). o.faults ≤ z.faults) (sym s.1) (let le : o.faults ≤ o.faults = omega arith in le); said = s.1 })

module _ (Did : Item → Type 0) (c : ℕ) (w w' : WorldState) (o x : Output) where
  pub answered : (asks : Asked) (keep : Bool) (item : Item) (r : Result (Unit {0}) ConnFault) → item.asks ≡ asks → item.keep ≡ keep → CameOut c w item w' → IsCaused (counts_of w) item (counts_of w') → Added c w w' → IsRendered item → Did item → WritesReply o item.reply r x → AnswersOne Did c w o asks keep r w' x
  answered asks keep item (Ok u) is kept came cause added rendered did reply = record { faults_out = reply.faults; answers = record { item = item; is_asked = is; keep_is = kept; came = came; caused = cause; added = added; rendered = rendered; did = did; replied = reply.replied } }
  answered asks keep item (Err ReadFault) is kept came cause added rendered did reply = absurd reply.replied
  answered asks keep item (Err WriteFault) is kept came cause added rendered did reply = record { faults_out = reply.faults; answers = record { item = item; is_asked = is; keep_is = kept; came = came; caused = cause; added = added; rendered = rendered; did = did; replied = reply.replied } }
  answered asks keep item (Err NoMemory) is kept came cause added rendered did reply = absurd reply.replied

  -- so for a reply that takes memory; where there is none, these are the marks that were left
  pub answered_or : (asks : Asked) (keep : Bool) (item : Item) (r : Result (Unit {0}) ConnFault) (broken : List Mark) → item.asks ≡ asks → item.keep ≡ keep → CameOut c w item w' → IsCaused (counts_of w) item (counts_of w') → Added c w w' → IsRendered item → Did item
      → BrokeOff c w broken w' → SaysReply o item.reply r x → AnswersOne Did c w o asks keep r w' x
  answered_or asks keep item (Ok u) broken is kept came cause added rendered did off reply = answered asks keep item (Ok u) is kept came cause added rendered did (record { faults = reply.faults; replied = reply.said })
  answered_or asks keep item (Err ReadFault) broken is kept came cause added rendered did off reply = absurd reply.said
  answered_or asks keep item (Err WriteFault) broken is kept came cause added rendered did off reply = answered asks keep item (Err WriteFault) is kept came cause added rendered did (record { faults = reply.faults; replied = reply.said })
  answered_or asks keep item (Err NoMemory) broken is kept came cause added rendered did off reply = record { faults_out = reply.faults; answers = (broken, off, reply.said) }

  -- there was no memory for the reply
  pub unmade : (asks : Asked) (keep : Bool) (r : Result (Unit {0}) ConnFault) (broken : List Mark) → BrokeOff c w broken w' → (r ≡ Err NoMemory) × (x ≡ o) → AnswersOne Did c w o asks keep r w' x
  unmade asks keep r broken off said =
      subst (λ v. AnswersOne Did c w o asks keep v w' x) (sym said.0) (record { faults_out = subst (λ (z : Output). o.faults ≤ z.faults) (sym said.1) (let le : o.faults ≤ o.faults = omega arith in le); answers = (broken, off, said.1) })

module _ (c : ℕ) (w w' : WorldState) (o x : Output) where
  -- a request that was tried, whose bytes are the reply to what it came to
  pub tried_said : (asks : Asked) (q : Request) (keep : Bool) (out : Outcome) (bytes : List ℕ) (r : Result (Unit {0}) ConnFault) → need_of asks ≡ Some (room_for q) → (CallsWhole c w q w' → CallDoes c w asks w') → IsUndone (answer_of out) → Tries c w q (Ok out) w'
      → ((marks : List Mark) → Leaves q (answer_of out) (entries_of marks) → Renders asks (outcome_of out) marks (not keep) bytes) → SaysReply o bytes r x → AnswersCall c w o asks keep r w' x
  tried_said asks q keep out bytes r need does undone tries shows reply =
      answered_or (λ i. CallDoes c w i.asks w') c w w' o x asks keep (tried_item asks out keep tries.0 bytes) r tries.0 refl refl (tries.1.came asks keep bytes need) (tries.1.caused asks keep bytes) tries.1.added
      (shows tries.0 tries.1.left) (does tries.1.whole) (tried_off c w w' q out tries.0 asks need undone tries.1) reply

  -- so for a reply that may have been made
  pub tried_made : (asks : Asked) (q : Request) (keep : Bool) (out : Outcome) (made : Result Reply NoRoom) (r : Result (Unit {0}) ConnFault) → need_of asks ≡ Some (room_for q) → (CallsWhole c w q w' → CallDoes c w asks w') → IsUndone (answer_of out) → Tries c w q (Ok out) w'
      → IfOk made (λ reply. (marks : List Mark) → Leaves q (answer_of out) (entries_of marks) → Renders asks (outcome_of out) marks (not keep) (bytes_of reply)) → SaysMade o made r x → AnswersCall c w o asks keep r w' x
  tried_made asks q keep out (Ok reply) r need does undone tries shows said = tried_said asks q keep out (bytes_of reply) r need does undone tries shows said
  tried_made asks q keep out (Err none) r need does undone tries shows said = unmade (λ i. CallDoes c w i.asks w') c w w' o x asks keep r tries.0 (tried_off c w w' q out tries.0 asks need undone tries.1) said

  pub tried_answered : (asks : Asked) (q : Request) (keep : Bool) (out : Outcome) (bytes : List ℕ) (r : Result (Unit {0}) ConnFault) → need_of asks ≡ Some (room_for q) → (CallsWhole c w q w' → CallDoes c w asks w') → Tries c w q (Ok out) w'
      → ((marks : List Mark) → Leaves q (answer_of out) (entries_of marks) → Renders asks (outcome_of out) marks (not keep) bytes) → WritesReply o bytes r x → AnswersCall c w o asks keep r w' x
  tried_answered asks q keep out bytes r need does tries shows reply =
      answered (λ i. CallDoes c w i.asks w') c w w' o x asks keep (tried_item asks out keep tries.0 bytes) r refl refl (tries.1.came asks keep bytes need) (tries.1.caused asks keep bytes) tries.1.added (shows tries.0 tries.1.left) (does tries.1.whole) reply

  -- what is refused before anything is tried was answered by this reply
  pub bad_said : (asks : Asked) (keep : Bool) (want : Reply) (r : Result (Unit {0}) ConnFault) → w' ≡ w → need_of asks ≡ None → CallDoes c w asks w' → Renders asks Bad [] (not keep) (bytes_of want) → SaysReply o (bytes_of want) r x → AnswersCall c w o asks keep r w' x
  bad_said asks keep want r same none does shows reply =
      answered_or (λ i. CallDoes c w i.asks w') c w w' o x asks keep (bad_item asks keep (bytes_of want)) r [] refl refl
      (subst (λ v. CameOut c w (bad_item asks keep (bytes_of want)) v) (sym same) (came_bad c w asks keep (bytes_of want) none))
      (subst (λ v. IsCaused (counts_of w) (bad_item asks keep (bytes_of want)) (counts_of v)) (sym same) (caused_bad (counts_of w) asks keep (bytes_of want)))
      (subst (Added c w) (sym same) (added_self c w)) shows does (subst (BrokeOff c w []) (sym same) (nothing_broke c w)) reply

module _ (c : ℕ) (w w' : WorldState) (ms ms' : Machines) (o x : Output) where
  beside : (asks : Asked) (keep : Bool) (r : Result (Unit {0}) ConnFault) → ms' ≡ ms → Answering (λ i. CallDoes c w i.asks w') c w o asks keep r w' x → Answering (λ i. ItemDoes c w ms i w' ms') c w o asks keep r w' x
  beside asks keep r same a = record {
    item = a.item;
    is_asked = a.is_asked;
    keep_is = a.keep_is;
    came = a.came;
    caused = a.caused;
    added = a.added;
    rendered = a.rendered;
    did = subst (λ ns. ItemDoes c w ms a.item w' ns) (sym same) (call_does c w w' ms a.item.asks a.item.outcome a.did);
    replied = a.replied;
  }

  beside_as : (asks : Asked) (keep : Bool) (r : Result (Unit {0}) ConnFault) → ms' ≡ ms → AnswersAs (λ i. CallDoes c w i.asks w') c w o asks keep r w' x → AnswersAs (λ i. ItemDoes c w ms i w' ms') c w o asks keep r w' x
  beside_as asks keep (Ok u) same a = beside asks keep (Ok u) same a
  beside_as asks keep (Err ReadFault) same a = a
  beside_as asks keep (Err WriteFault) same a = beside asks keep (Err WriteFault) same a
  beside_as asks keep (Err NoMemory) same a = a

  -- an answer that does not touch the machines
  pub answered_beside : (asks : Asked) (keep : Bool) (r : Result (Unit {0}) ConnFault) → ms' ≡ ms → AnswersCall c w o asks keep r w' x → AnswersBeside c w ms o asks keep r w' ms' x
  answered_beside asks keep r same a = record { faults_out = a.faults_out; answers = beside_as asks keep r same a.answers }

  -- the answer to a request that asks for this
  pub whole_answered : (table : List ℕ) (v : Incoming) (asks : Asked) (turn : Turn) → RequestAsks table (request_of v) asks → turn ≡ turn_behind v.keep → AnswersBeside c w ms o asks v.keep (Ok tt) w' ms' x → AnswersRequest c table w ms o v (Ok turn) w' ms' x
  whole_answered table v asks turn a is n = record { faults_out = n.faults_out; answers = (is, record { asks = asks; is_asked = a; answering = n.answers }) }

  whole_as : (table : List ℕ) (v : Incoming) (asks : Asked) (f : ConnFault) → RequestAsks table (request_of v) asks → AnswersAs (λ i. ItemDoes c w ms i w' ms') c w o asks v.keep (Err f) w' x → AnswersWholeAs c table w ms o v (Err f) w' ms' x
  whole_as table v asks ReadFault a n = absurd n
  whole_as table v asks WriteFault a n = record { asks = asks; is_asked = a; answering = n }
  whole_as table v asks NoMemory a n = n

  pub whole_failed : (table : List ℕ) (v : Incoming) (asks : Asked) (f : ConnFault) → RequestAsks table (request_of v) asks → AnswersBeside c w ms o asks v.keep (Err f) w' ms' x → AnswersRequest c table w ms o v (Err f) w' ms' x
  whole_failed table v asks f a n = record { faults_out = n.faults_out; answers = whole_as table v asks f a n.answers }

-- ---- what was refused

pub refused_sent : (o x : Output) (code : Code) (close : Bool) (refusal : BadRequest) (turn : Turn) → refusal ≡ head_refusal code → turn ≡ turn_refused code close → SaysReply o (bytes_of (bad_reply refusal close)) (Ok tt) x → RefusesAs o code close (Ok turn) x
refused_sent o x code close refusal turn is at y = (at, subst (λ r. Sent o (bytes_of (bad_reply r close)) x) is y.said)

pub refused_not : (o x : Output) (code : Code) (close : Bool) (refusal : BadRequest) (f : ConnFault) → refusal ≡ head_refusal code → SaysReply o (bytes_of (bad_reply refusal close)) (Err f) x → RefusesAs o code close (Err f) x
refused_not o x code close refusal ReadFault is y = absurd y.said
refused_not o x code close refusal WriteFault is y = subst (λ r. Cut o (bytes_of (bad_reply r close)) x) is y.said
refused_not o x code close refusal NoMemory is y = y.said

-- ---- a turn: a request was read, and then answered

same_request : (v : Incoming) (h : RequestHead) (body : List ℕ) → HoldsRequest v h body → request_of v ≡ request_by h body
same_request v h body holds =
    ap (λ m. record { method = m; target = v.target; fields = v.fields; body = v.body }) holds.method
    ∙ ap (λ t. record { method = h.method; target = t; fields = v.fields; body = v.body }) holds.target
    ∙ ap (λ fs. record { method = h.method; target = h.target; fields = fs; body = v.body }) holds.fields
    ∙ ap (λ b. record { method = h.method; target = h.target; fields = fields_of h; body = b }) holds.body_is

module _ (c : ℕ) (table kept : List ℕ) (s : Input) (o : Output) (w : WorldState) (ms : Machines) (kept' : List ℕ) (t : Input) (y : Output) (x : Output) (w' : WorldState) (ms' : Machines) where
  one_more : (v : Incoming) (r : Result (Unit {0}) ConnFault) → ReadsRequest kept s o (Ok (Some v)) kept' t y → AnswersWhole c table w ms y v r w' ms' x → OneMore c table kept s o w ms v.keep r kept' t x w' ms'
  one_more v r read a =
      let h : RequestHead = read.read.0 in
      let body : List ℕ = read.read.1 in
      record {
        head = h;
        body = body;
        between = y;
        got = read.read.2;
        later = read.later_out.faults;
        asks = a.asks;
        is_asked = subst (λ b. AsksUnpacked b table (request_by h body) a.asks) (sym read.read.4) (subst (λ q. RequestAsks table q a.asks) (same_request v h body read.read.3) a.is_asked);
        keep_is = read.read.3.keep;
        answering = a.answering;
      }

  went_on : (keep : Bool) → OneMore c table kept s o w ms keep (Ok tt) kept' t x w' ms' → TurnAs c table kept s o w ms (Ok (turn_behind keep)) kept' t x w' ms'
  went_on true m = m
  went_on false m = m

  -- the head of a whole request, whose 100 Continue was written
  said_of : (h : RequestHead) (body : List ℕ) → Got kept s o h body kept' t y → IsSaid (ahead kept s) (continue_of h)
  said_of h body got = inr (inl (
    h,
    record {
      is_head = got.whole.head;
      rest = before_known got.whole.coda (ahead kept' t);
      at = got.spent.same ∙ ap (λ b. before_known b (ahead kept' t)) got.whole.is ∙ sym (before_before (print_request h) got.whole.coda (ahead kept' t));
      spoken = refl;
    },
  ))

  turn_by : (v : Incoming) (r : Result Turn ConnFault) → ReadsRequest kept s o (Ok (Some v)) kept' t y → AnswersWholeAs c table w ms y v r w' ms' x → TurnAs c table kept s o w ms r kept' t x w' ms'
  turn_by v (Ok turn) read a = subst (λ n. TurnAs c table kept s o w ms (Ok n) kept' t x w' ms') (sym a.0) (went_on v.keep (one_more v (Ok tt) read a.1))
  turn_by v (Err ReadFault) read a = absurd a
  turn_by v (Err WriteFault) read a = inl (v.keep, one_more v (Err WriteFault) read a)
  turn_by v (Err NoMemory) read a = (a.0, a.1, record { said = continue_of read.read.0; spoken = said_of read.read.0 read.read.1 read.read.2; sent = subst (λ z. Sent o (continue_of read.read.0) z) (sym a.2) read.read.2.said })

  pub turn_answered : (v : Incoming) (r : Result Turn ConnFault) → ReadsRequest kept s o (Ok (Some v)) kept' t y → AnswersRequest c table w ms y v r w' ms' x → SessionTurn c table kept s o w ms r kept' t x w' ms'
  turn_answered v r read a = record { later = read.later; faults_out = let f : o.faults ≤ y.faults = read.later_out.faults in omega (arith, f, a.faults_out); turn = turn_by v r read a.answers }

-- ---- a turn: nothing was read that can be tried

not_not : (b : Bool) → not (not b) ≡ b
not_not true = refl
not_not false = refl

module _ (c : ℕ) (table kept : List ℕ) (s : Input) (o : Output) (w : WorldState) (ms : Machines) (kept' : List ℕ) (t : Input) (y x : Output) (later : o.faults ≤ y.faults) where
  starved_at : Starved kept s o y → StarvedAt (ahead kept s) o y
  starved_at n = record {
    said = n.bytes;
    spoken = elim n.spoken as (λ _. IsSaid (ahead kept s) n.bytes) [
      | inl none ↦ inl none
      | inr i ↦ inr (inl (i.head, record { is_head = i.is_head; rest = ahead i.kept' i.t; at = i.spent.same; spoken = i.spoken }))
    ];
    sent = n.said;
  }

  refusal_of : (code : Code) (close : Bool) → Closes code → (b : ClosedBy kept s o code close t y) → IsRefusal kept s (b.bytes ++ bytes_of (bad_reply (head_refusal code) true)) t
  refusal_of code close closes b = record { code = code; said = b.bytes; closes = closes; refuses = b.refuses; owed_is = refl; ended = b.ended }

  closed_bytes : (code : Code) (close : Bool) → close ≡ true → refusal_bytes code close ≡ bytes_of (bad_reply (head_refusal code) true)
  closed_bytes code close e = ap (λ b. bytes_of (bad_reply (head_refusal code) b)) e

  closed_turn : (code : Code) (close : Bool) (r : Result Turn ConnFault) → Closes code → turn_refused code close ≡ Ended BadInput → ClosedBy kept s o code close t y → RefusesAs y code close r x → TurnAs c table kept s o w ms r kept' t x w ms
  closed_turn code close (Ok turn) closes is b a =
      let reply = bytes_of (bad_reply (head_refusal code) true) in
      subst (λ n. TurnAs c table kept s o w ms (Ok n) kept' t x w ms) (sym (a.0 ∙ is)) (
        b.bytes ++ reply,
        refusal_of code close closes b,
        sent_after o y x b.bytes reply b.said (subst (λ z. Sent y z x) (closed_bytes code close b.closes) a.1),
        refl,
      )
  closed_turn code close (Err ReadFault) closes is b a = absurd a
  closed_turn code close (Err WriteFault) closes is b a =
      let reply = bytes_of (bad_reply (head_refusal code) true) in
      inr (inr (
        b.bytes ++ reply,
        refusal_of code close closes b,
        cut_after o y x b.bytes reply later b.said (subst (λ z. Cut y z x) (closed_bytes code close b.closes) a),
        refl,
      ))
  closed_turn code close (Err NoMemory) closes is b a = ([], nothing_broke c w, record { said = b.bytes; spoken = inr (inr (code, closes, b.refuses)); sent = subst (λ z. Sent o b.bytes z) (sym a) b.said })

  abbrev pub packed_item : Bool → Item
  packed_item close = bad_item (asked.Refused bad.CompressedBody) (not close) (bytes_of (bad_reply bad.CompressedBody (not (not close))))

  packed_more : (close : Bool) (r : Result (Unit {0}) ConnFault) (p : Packed kept s o close kept' t y) → Answering (λ i. ItemDoes c w ms i w ms) c w y (asked.Refused bad.CompressedBody) (not close) r w x → OneMore c table kept s o w ms (not close) r kept' t x w ms
  packed_more close r p a = record {
    head = p.head;
    body = p.body;
    between = y;
    got = p.got;
    later = later;
    asks = asked.Refused bad.CompressedBody;
    is_asked = subst (λ b. AsksUnpacked b table (request_by p.head p.body) (asked.Refused bad.CompressedBody)) (sym p.packed) refl;
    keep_is = ap not p.closes ∙ not_not (keeps_open p.head.minor (fields_of p.head));
    answering = a;
  }

  packed_answer : (close : Bool) (r : Result (Unit {0}) ConnFault) → RepliedAs y (refusal_bytes CompressedBody close) r x → Answering (λ i. ItemDoes c w ms i w ms) c w y (asked.Refused bad.CompressedBody) (not close) r w x
  packed_answer close r reply = record {
    item = packed_item close;
    is_asked = refl;
    keep_is = refl;
    came = came_bad c w (asked.Refused bad.CompressedBody) (not close) (bytes_of (bad_reply bad.CompressedBody (not (not close)))) refl;
    caused = caused_bad (counts_of w) (asked.Refused bad.CompressedBody) (not close) (bytes_of (bad_reply bad.CompressedBody (not (not close))));
    added = added_self c w;
    rendered = (refl, refl);
    did = (refl, refl);
    replied = subst (λ b. RepliedAs y (bytes_of (bad_reply bad.CompressedBody b)) r x) (sym (not_not close)) reply;
  }

  packed_turn : (close : Bool) (r : Result Turn ConnFault) → Packed kept s o close kept' t y → RefusesAs y CompressedBody close r x → TurnAs c table kept s o w ms r kept' t x w ms
  packed_turn close (Ok turn) p a =
      subst (λ n. TurnAs c table kept s o w ms (Ok n) kept' t x w ms) (sym a.0) (went_on c table kept s o w ms kept' t y x w ms (not close) (packed_more close (Ok tt) p (packed_answer close (Ok tt) a.1)))
  packed_turn close (Err ReadFault) p a = absurd a
  packed_turn close (Err WriteFault) p a = inl (not close, packed_more close (Err WriteFault) p (packed_answer close (Err WriteFault) a))
  packed_turn close (Err NoMemory) p a = (
    [],
    nothing_broke c w,
    record { said = continue_of p.head; spoken = said_of c table kept s o w ms kept' t y x w ms p.head p.body p.got; sent = subst (λ z. Sent o (continue_of p.head) z) (sym a) p.got.said },
  )

  refused_turn : (code : Code) (close : Bool) (r : Result Turn ConnFault) → RefusedAs kept s o code close kept' t y → RefusesAs y code close r x → TurnAs c table kept s o w ms r kept' t x w ms
  refused_turn InvalidHead close r b a = closed_turn InvalidHead close r tt refl b a
  refused_turn InvalidFraming close r b a = closed_turn InvalidFraming close r tt refl b a
  refused_turn RequestBodyTooLarge close r b a = closed_turn RequestBodyTooLarge close r tt refl b a
  refused_turn InvalidBody close r b a = closed_turn InvalidBody close r tt refl b a
  refused_turn CompressedBody close r b a = packed_turn close r b a

  faulted_turn : (f : InFault) (r : Result Turn ConnFault) → ReadsRequest kept s o (Err f) kept' t y → FaultedAs y f r x → TurnAs c table kept s o w ms r kept' t x w ms
  faulted_turn fault.ReadFault r read a = subst (λ n. TurnAs c table kept s o w ms n kept' t x w ms) (sym a.0) (subst (λ z. http.BrokeIn kept s o t z) (sym a.1) read.read, refl)
  faulted_turn fault.WriteFault r read a = subst (λ n. TurnAs c table kept s o w ms n kept' t x w ms) (sym a.0) (inr (inl (subst (λ z. http.BrokeOut kept s o kept' t z) (sym a.1) read.read, refl)))
  faulted_turn fault.NoMemory r read a = subst (λ n. TurnAs c table kept s o w ms n kept' t x w ms) (sym a.0) ([], nothing_broke c w, subst (λ z. StarvedAt (ahead kept s) o z) (sym a.1) (starved_at read.read))
  faulted_turn (fault.Refused status code close) r read a = refused_turn code close r read.read.1 a

pub turn_faulted : (c : ℕ) (table kept : List ℕ) (s : Input) (o : Output) (w : WorldState) (ms : Machines) (kept' : List ℕ) (t : Input) (y x : Output) (f : InFault) (r : Result Turn ConnFault) → ReadsRequest kept s o (Err f) kept' t y → AnswersFault y f r x → SessionTurn c table kept s o w ms r kept' t x w ms
turn_faulted c table kept s o w ms kept' t y x f r read a =
    let later : o.faults ≤ y.faults = read.later_out.faults in
    record { later = read.later; faults_out = omega (arith, later, a.faults_out); turn = faulted_turn c table kept s o w ms kept' t y x later f r read a.answers }
