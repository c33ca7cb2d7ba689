-- One turn of a session: one request read, answered over the world, and its reply written.
use Rattle.std.specs.Prelude.{◌≡◌, ◌⊎◌, ℕ, ◌+◌, ◌≤◌, Bool, true, false, not, List, [], ◌∷◌, ◌++◌, length, Option, Some, Result, Ok, Err, IfSome}
use Rattle.std.specs.Option.{option_to_list}
use Rattle.mt_io.specs.Ends.{Input, Output}
use Rattle.mt_model.specs.declared.text.NoMemory.{NoMemory as NoRoom}
use Rattle.mt_chain.specs.Batch.{batch_weight}
use Rattle.mt_history.specs.Weight.{need_of_query, need_of_page}
use Rattle.mt_world.specs.declared.actor.Request.{Request}
use Rattle.mt_world.specs.declared.actor.Request.TheVariants as request
use Rattle.mt_world.specs.declared.actor.Answer.{Answer}
use Rattle.mt_world.specs.declared.actor.Answer.TheVariants as answer
use Rattle.mt_world.specs.declared.actor.TurnFault.{TurnFault}
use Rattle.mt_world.specs.declared.actor.TurnFault.TheVariants as turn_fault
use Rattle.mt_world.specs.Worlds.{WorldState, Tells}
use Rattle.mt_world.specs.Turns.{IsSameWorld}
use Rattle.httparse.specs.Grammar.{RequestHead}
use Rattle.mt_http_in.specs.declared.Code.{Code}
use Rattle.mt_http_in.specs.declared.Code.TheVariants.{InvalidHead, InvalidFraming, RequestBodyTooLarge, InvalidBody, CompressedBody}
use Rattle.mt_http_in.specs.declared.InFault.{InFault}
use Rattle.mt_http_in.specs.declared.InFault.TheVariants as fault
use Rattle.mt_http_in.specs.declared.requests.Incoming.{Incoming}
use Rattle.mt_http_in.specs.Fields.{keeps_open}
use Rattle.mt_http_in.specs.Reading.{ahead, Later, Closes, Ended as EndsReads}
use Rattle.mt_http_in.specs.Heads.{fields_of}
use Rattle.mt_http_in.specs.Requests.{Refuses, Got, BrokeIn, BrokeOut}
use Rattle.mt_front.specs.declared.asks.Asked.{Asked}
use Rattle.mt_front.specs.declared.connection.End.{End}
use Rattle.mt_front.specs.declared.connection.Served.{Served}
use Rattle.mt_front.specs.declared.connection.End.TheVariants.{Input as AtEnd, Closed, BadInput}
use Rattle.mt_front.specs.declared.connection.ConnFault.{ConnFault}
use Rattle.mt_front.specs.declared.connection.ConnFault.TheVariants.{ReadFault, WriteFault, NoMemory}
use Rattle.mt_front.specs.declared.connection.Outcome.{Outcome}
use Rattle.mt_front.specs.declared.connection.Outcome.TheVariants as outcome
use Rattle.mt_front.specs.declared.connection.Turn.{Turn}
use Rattle.mt_front.specs.declared.connection.Turn.TheVariants.{Answered, Ended}
use Rattle.mt_http_out.specs.declared.reply.Reply.{Reply}
use Rattle.mt_http_out.specs.Rendering.{bytes_of}
use Rattle.mt_front.specs.Refusals.{head_refusal, bad_reply}
use Rattle.mt_front.specs.Asks.{RequestAsks, WholeAsks, request_by, request_of}
use Rattle.mt_world.specs.Moves.{NewEntry}
use Rattle.mt_world.specs.WholeCalls.{Mark, batch_entry, query_entry}
use Rattle.mt_front.specs.PageUnits.{LeavesPage}
use Rattle.mt_front.specs.declared.machines.Machines.{Machines}
use Rattle.mt_front.specs.Machines.{GoesForward, CallsWhole, CallDoes, ItemDoes}
use Rattle.mt_front.specs.Migration.{Migrates}
use Rattle.mt_front.specs.Items.{ItemOutcome, Done, Refused, Found, Paged, Fault, Full, Item, IsRendered, AllKeep, entries_of, need_of}
use Rattle.mt_front.specs.Answers.{FitsFrom, BreaksOff, IsCaused, AtMost, past_end}
use Rattle.mt_front.specs.Session.{Sent, Cut, past_of, counts_of, ToldBefore, Added, IsSaid, Course, IsCourse, Talk, Ran, MayBreak, SessionAs}

-- ---- over the world

-- an item broke off for want of memory in turns of caller c, with these marks
pub record BrokeOff (c : ℕ) (w : WorldState) (broken : List Mark) (w' : WorldState) : Type 0 where
  pub same : IsSameWorld w w'
  pub told : ToldBefore w w'
  pub breaks : BreaksOff c (Tells w') (past_of w') (past_end (past_of w)) broken
  pub added : Added c w w'
  pub later : AtMost (counts_of w) (counts_of w')
  pub still : broken ≡ [] → counts_of w' ≡ counts_of w
  pub forward : GoesForward w w'

-- an item came out so in turns of caller c, each over the history that it found, which is the first part of what the history is afterwards
pub record CameOut (c : ℕ) (w : WorldState) (i : Item) (w' : WorldState) : Type 0 where
  pub same : IsSameWorld w w'
  pub told : ToldBefore w w'
  pub fits : FitsFrom c (Tells w') (past_of w') (past_end (past_of w)) (i ∷ []) []

-- the room that each turn of a request needs
abbrev pub room_for : Request → ℕ
room_for (request.Batch ops) = batch_weight ops
room_for (request.Query pk filter) = need_of_query pk filter
room_for (request.Page filter top token) = need_of_page filter

-- the entries that a request leaves which was answered so, or broke off so
abbrev pub Leaves : Request → Result Answer TurnFault → List NewEntry → Type 0
Leaves (request.Batch ops) r es = es ≡ option_to_list (batch_entry ops r)
Leaves (request.Query pk filter) r es = es ≡ option_to_list (query_entry pk filter r)
Leaves (request.Page filter top token) r es = LeavesPage filter top token r es

-- the answer, or the fault, that came to this
abbrev pub answer_of : Outcome → Result Answer TurnFault
answer_of (outcome.Done tags) = Ok (answer.Written tags)
answer_of (outcome.Refused refusal) = Ok (answer.Refused refusal)
answer_of (outcome.Found rows) = Ok (answer.Rows rows)
answer_of (outcome.Paged page) = Ok (answer.Page page)
answer_of outcome.Fault = Err turn_fault.StoreFault
answer_of outcome.Full = Err turn_fault.HistoryFull

-- how an item comes out whose request came to this
abbrev pub outcome_of : Outcome → ItemOutcome
outcome_of (outcome.Done tags) = Done tags
outcome_of (outcome.Refused refusal) = Refused refusal
outcome_of (outcome.Found rows) = Found rows
outcome_of (outcome.Paged page) = Paged page
outcome_of outcome.Fault = Fault
outcome_of outcome.Full = Full

-- a request can come to this: operations that are done have a tag each, a query finds rows, and a page is one
abbrev pub IsOwn : Request → Outcome → Type 0
IsOwn (request.Batch ops) (outcome.Done tags) = length tags ≡ length ops
IsOwn (request.Batch ops) (outcome.Refused refusal) = Unit {0}
IsOwn (request.Batch ops) (outcome.Found rows) = ⊥
IsOwn (request.Batch ops) (outcome.Paged page) = ⊥
IsOwn (request.Batch ops) outcome.Fault = Unit {0}
IsOwn (request.Batch ops) outcome.Full = Unit {0}
IsOwn (request.Query pk filter) (outcome.Done tags) = ⊥
IsOwn (request.Query pk filter) (outcome.Refused refusal) = ⊥
IsOwn (request.Query pk filter) (outcome.Found rows) = Unit {0}
IsOwn (request.Query pk filter) (outcome.Paged page) = ⊥
IsOwn (request.Query pk filter) outcome.Fault = Unit {0}
IsOwn (request.Query pk filter) outcome.Full = Unit {0}
IsOwn (request.Page filter top token) (outcome.Done tags) = ⊥
IsOwn (request.Page filter top token) (outcome.Refused refusal) = ⊥
IsOwn (request.Page filter top token) (outcome.Found rows) = ⊥
IsOwn (request.Page filter top token) (outcome.Paged page) = Unit {0}
IsOwn (request.Page filter top token) outcome.Fault = Unit {0}
IsOwn (request.Page filter top token) outcome.Full = Unit {0}

-- the item that asks for a request which came to this
abbrev pub tried_item : Asked → Outcome → Bool → List Mark → List ℕ → Item
tried_item asks o keep marks reply = record { asks = asks; keep = keep; outcome = outcome_of o; reply = reply; marks = marks }

-- a request was tried with no other caller between, and these are the marks of its turns, whatever asks for it and its reply shows
pub record Tried (c : ℕ) (w : WorldState) (q : Request) (o : Outcome) (marks : List Mark) (w' : WorldState) : Type 0 where
  pub own : IsOwn q o
  pub left : Leaves q (answer_of o) (entries_of marks)
  pub came : (asks : Asked) (keep : Bool) (reply : List ℕ) → need_of asks ≡ Some (room_for q) → CameOut c w (tried_item asks o keep marks reply) w'
  pub caused : (asks : Asked) (keep : Bool) (reply : List ℕ) → IsCaused (counts_of w) (tried_item asks o keep marks reply) (counts_of w')
  pub added : Added c w w'
  pub whole : CallsWhole c w q w'

-- for want of memory it broke off
abbrev pub Tries : ℕ → WorldState → Request → Result Outcome NoRoom → WorldState → Type 0
Tries c w q (Ok o) w' = (marks : List Mark) × Tried c w q o marks w'
Tries c w q (Err none) w' = (broken : List Mark) × BrokeOff c w broken w'

-- ---- replies

-- what a reply came to, by its result: it was sent, or cut
abbrev pub RepliedAs : Output → List ℕ → Result (Unit {0}) ConnFault → Output → Type 0
RepliedAs o bytes (Ok u) x = Sent o bytes x
RepliedAs o bytes (Err ReadFault) x = ⊥
RepliedAs o bytes (Err WriteFault) x = Cut o bytes x
RepliedAs o bytes (Err NoMemory) x = ⊥

pub record WritesReply (o : Output) (bytes : List ℕ) (r : Result (Unit {0}) ConnFault) (x : Output) : Type 0 where
  pub faults : o.faults ≤ x.faults
  pub replied : RepliedAs o bytes r x

-- so for a reply that takes memory; where there is none nothing was written
abbrev pub SaidAs : Output → List ℕ → Result (Unit {0}) ConnFault → Output → Type 0
SaidAs o bytes (Ok u) x = Sent o bytes x
SaidAs o bytes (Err ReadFault) x = ⊥
SaidAs o bytes (Err WriteFault) x = Cut o bytes x
SaidAs o bytes (Err NoMemory) x = x ≡ o

pub record SaysReply (o : Output) (bytes : List ℕ) (r : Result (Unit {0}) ConnFault) (x : Output) : Type 0 where
  pub faults : o.faults ≤ x.faults
  pub said : SaidAs o bytes r x

-- so for one that may have been made
abbrev pub SaysMade : Output → Result Reply NoRoom → Result (Unit {0}) ConnFault → Output → Type 0
SaysMade o (Ok made) r x = SaysReply o (bytes_of made) r x
SaysMade o (Err none) r x = (r ≡ Err NoMemory) × (x ≡ o)

-- what is asked was answered, with no other caller between, and with this result of writing the reply, behind which the connection goes on or ends; the item did this
pub record Answering (Did : Item → Type 0) (c : ℕ) (w : WorldState) (o : Output) (asks : Asked) (keep : Bool) (r : Result (Unit {0}) ConnFault) (w' : WorldState) (x : Output) : Type 0 where
  pub item : Item
  pub is_asked : item.asks ≡ asks
  pub keep_is : item.keep ≡ keep
  pub came : CameOut c w item w'
  pub caused : IsCaused (counts_of w) item (counts_of w')
  pub added : Added c w w'
  pub rendered : IsRendered item
  pub did : Did item
  pub replied : RepliedAs o item.reply r x

abbrev pub AnswersAs : (Item → Type 0) → ℕ → WorldState → Output → Asked → Bool → Result (Unit {0}) ConnFault → WorldState → Output → Type 0
AnswersAs Did c w o asks keep (Ok u) w' x = Answering Did c w o asks keep (Ok u) w' x
AnswersAs Did c w o asks keep (Err ReadFault) w' x = ⊥
AnswersAs Did c w o asks keep (Err WriteFault) w' x = Answering Did c w o asks keep (Err WriteFault) w' x
AnswersAs Did c w o asks keep (Err NoMemory) w' x = (broken : List Mark) × BrokeOff c w broken w' × (x ≡ o)

-- the answer to what is asked
pub record AnswersOne (Did : Item → Type 0) (c : ℕ) (w : WorldState) (o : Output) (asks : Asked) (keep : Bool) (r : Result (Unit {0}) ConnFault) (w' : WorldState) (x : Output) : Type 0 where
  pub faults_out : o.faults ≤ x.faults
  pub answers : AnswersAs Did c w o asks keep r w' x

-- the answer to what is asked of the table, or refused
abbrev pub AnswersCall : ℕ → WorldState → Output → Asked → Bool → Result (Unit {0}) ConnFault → WorldState → Output → Type 0
AnswersCall c w o asks keep r w' x = AnswersOne (λ i. CallDoes c w i.asks w') c w o asks keep r w' x

-- the answer to anything, beside the machines
abbrev pub AnswersBeside : ℕ → WorldState → Machines → Output → Asked → Bool → Result (Unit {0}) ConnFault → WorldState → Machines → Output → Type 0
AnswersBeside c w ms o asks keep r w' ms' x = AnswersOne (λ i. ItemDoes c w ms i w' ms') c w o asks keep r w' x

-- ---- requests

-- behind an answer the connection goes on or ends
abbrev pub turn_behind : Bool → Turn
turn_behind true = Answered
turn_behind false = Ended Closed

-- the request asks for something that was answered
pub record AnswersWhole (c : ℕ) (table : List ℕ) (w : WorldState) (ms : Machines) (o : Output) (v : Incoming) (r : Result (Unit {0}) ConnFault) (w' : WorldState) (ms' : Machines) (x : Output) : Type 0 where
  pub asks : Asked
  pub is_asked : RequestAsks table (request_of v) asks
  pub answering : Answering (λ i. ItemDoes c w ms i w' ms') c w o asks v.keep r w' x

abbrev pub AnswersWholeAs : ℕ → List ℕ → WorldState → Machines → Output → Incoming → Result Turn ConnFault → WorldState → Machines → Output → Type 0
AnswersWholeAs c table w ms o v (Ok turn) w' ms' x = (turn ≡ turn_behind v.keep) × AnswersWhole c table w ms o v (Ok tt) w' ms' x
AnswersWholeAs c table w ms o v (Err ReadFault) w' ms' x = ⊥
AnswersWholeAs c table w ms o v (Err WriteFault) w' ms' x = AnswersWhole c table w ms o v (Err WriteFault) w' ms' x
AnswersWholeAs c table w ms o v (Err NoMemory) w' ms' x = (broken : List Mark) × BrokeOff c w broken w' × (x ≡ o)

-- the answer to a request
pub record AnswersRequest (c : ℕ) (table : List ℕ) (w : WorldState) (ms : Machines) (o : Output) (v : Incoming) (r : Result Turn ConnFault) (w' : WorldState) (ms' : Machines) (x : Output) : Type 0 where
  pub faults_out : o.faults ≤ x.faults
  pub answers : AnswersWholeAs c table w ms o v r w' ms' x

-- what comes behind a refusal by that code: only a whole request whose body is compressed may leave the connection open
abbrev pub turn_refused : Code → Bool → Turn
turn_refused InvalidHead close = Ended BadInput
turn_refused InvalidFraming close = Ended BadInput
turn_refused RequestBodyTooLarge close = Ended BadInput
turn_refused InvalidBody close = Ended BadInput
turn_refused CompressedBody close = turn_behind (not close)

-- the reply to what is refused by that code
abbrev pub refusal_bytes : Code → Bool → List ℕ
refusal_bytes code close = bytes_of (bad_reply (head_refusal code) close)

abbrev pub RefusesAs : Output → Code → Bool → Result Turn ConnFault → Output → Type 0
RefusesAs o code close (Ok turn) x = (turn ≡ turn_refused code close) × Sent o (refusal_bytes code close) x
RefusesAs o code close (Err ReadFault) x = ⊥
RefusesAs o code close (Err WriteFault) x = Cut o (refusal_bytes code close) x
RefusesAs o code close (Err NoMemory) x = x ≡ o

abbrev pub FaultedAs : Output → InFault → Result Turn ConnFault → Output → Type 0
FaultedAs o fault.ReadFault r x = (r ≡ Err ReadFault) × (x ≡ o)
FaultedAs o fault.WriteFault r x = (r ≡ Err WriteFault) × (x ≡ o)
FaultedAs o fault.NoMemory r x = (r ≡ Err NoMemory) × (x ≡ o)
FaultedAs o (fault.Refused status code close) r x = RefusesAs o code close r x

-- what was answered where no request was read
pub record AnswersFault (o : Output) (f : InFault) (r : Result Turn ConnFault) (x : Output) : Type 0 where
  pub faults_out : o.faults ≤ x.faults
  pub answers : FaultedAs o f r x

-- ---- turns

-- a request that was read, and answered behind its 100 Continue
pub record OneMore (c : ℕ) (table kept : List ℕ) (s : Input) (o : Output) (w : WorldState) (ms : Machines) (keep : Bool) (r : Result (Unit {0}) ConnFault) (kept' : List ℕ) (t : Input) (x : Output) (w' : WorldState) (ms' : Machines) : Type 0 where
  pub head : RequestHead
  pub body : List ℕ
  pub between : Output
  pub got : Got kept s o head body kept' t between
  pub later : o.faults ≤ between.faults
  pub asks : Asked
  pub is_asked : WholeAsks table (request_by head body) asks
  pub keep_is : keep ≡ keeps_open head.minor (fields_of head)
  pub answering : Answering (λ i. ItemDoes c w ms i w' ms') c w between asks keep r w' x

-- a connection that ended so behind these answers; the reply that closes it counts, too
abbrev pub served_of : ℕ → End → Served
served_of answered AtEnd = record { requests = answered; «end» = AtEnd }
served_of answered Closed = record { requests = answered + 1; «end» = Closed }
served_of answered BadInput = record { requests = answered + 1; «end» = BadInput }

-- what is left is refused, and with the refusal these bytes are owed
pub record IsRefusal (kept : List ℕ) (s : Input) (owed : List ℕ) (t : Input) : Type 0 where
  pub code : Code
  pub said : List ℕ
  pub closes : Closes code
  pub refuses : IfSome (ahead kept s) (λ all. Refuses all code said)
  pub owed_is : owed ≡ said ++ bytes_of (bad_reply (head_refusal code) true)
  pub ended : EndsReads s t

-- there was no memory, and nothing was written but a 100 Continue
pub record StarvedAt (known : Option (List ℕ)) (o x : Output) : Type 0 where
  pub said : List ℕ
  pub spoken : IsSaid known said
  pub sent : Sent o said x

-- what one turn did, by its result
abbrev pub TurnAs : ℕ → List ℕ → List ℕ → Input → Output → WorldState → Machines → Result Turn ConnFault → List ℕ → Input → Output → WorldState → Machines → Type 0
TurnAs c table kept s o w ms (Ok Answered) kept' t x w' ms' = OneMore c table kept s o w ms true (Ok tt) kept' t x w' ms'
TurnAs c table kept s o w ms (Ok (Ended AtEnd)) kept' t x w' ms' = (ahead kept s ≡ ahead kept' t) × IfSome (ahead kept s) (λ all. all ≡ []) × (t.calls ≤ s.calls + 1) × (x ≡ o) × (w' ≡ w)
TurnAs c table kept s o w ms (Ok (Ended Closed)) kept' t x w' ms' = OneMore c table kept s o w ms false (Ok tt) kept' t x w' ms'
TurnAs c table kept s o w ms (Ok (Ended BadInput)) kept' t x w' ms' = (owed : List ℕ) × IsRefusal kept s owed t × Sent o owed x × (w' ≡ w)
TurnAs c table kept s o w ms (Err ReadFault) kept' t x w' ms' = BrokeIn kept s o t x × (w' ≡ w)
TurnAs c table kept s o w ms (Err WriteFault) kept' t x w' ms' =
    ((keep : Bool) × OneMore c table kept s o w ms keep (Err WriteFault) kept' t x w' ms') ⊎ (BrokeOut kept s o kept' t x × (w' ≡ w)) ⊎ ((owed : List ℕ) × IsRefusal kept s owed t × Cut o owed x × (w' ≡ w))
TurnAs c table kept s o w ms (Err NoMemory) kept' t x w' ms' = (broken : List Mark) × BrokeOff c w broken w' × StarvedAt (ahead kept s) o x

pub record SessionTurn (c : ℕ) (table kept : List ℕ) (s : Input) (o : Output) (w : WorldState) (ms : Machines) (r : Result Turn ConnFault) (kept' : List ℕ) (t : Input) (x : Output) (w' : WorldState) (ms' : Machines) : Type 0 where
  pub later : Later s t
  pub faults_out : o.faults ≤ x.faults
  pub turn : TurnAs c table kept s o w ms r kept' t x w' ms'

-- ---- a session before want of memory is told

-- there was no memory for the next request, whose 100 Continue may have been written
pub record AtWant (o : Output) (c : Course) (x : Output) : Type 0 where
  pub said : List ℕ
  pub spoken : IsSaid c.left said
  pub keep : AllKeep c.items
  pub sent : Sent o (c.written ++ said) x

abbrev pub ConversesAs : Input → Output → Course → Result Served ConnFault → Input → Output → Type 0
ConversesAs s o c (Ok served) t x = SessionAs s o c (Ok served) t x
ConversesAs s o c (Err ReadFault) t x = SessionAs s o c (Err ReadFault) t x
ConversesAs s o c (Err WriteFault) t x = SessionAs s o c (Err WriteFault) t x
ConversesAs s o c (Err NoMemory) t x = AtWant o c x

pub record Converses (c : ℕ) (table : List ℕ) (w : WorldState) (s : Input) (o : Output) (r : Result Served ConnFault) (w' : WorldState) (t : Input) (x : Output) : Type 0 where
  pub course : Course
  pub is_course : IsCourse table s course
  pub talk : Talk c w course.items course.broken w'
  pub ran : Ran c w course.items w'
  pub migrates : Migrates w course.items w'
  pub breaks : MayBreak r course.broken
  pub ends : ConversesAs s o course r t x
  pub faults : s.faults ≤ t.faults
  pub faults_out : o.faults ≤ x.faults
