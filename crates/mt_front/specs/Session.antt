-- One connection over a world: its requests, their replies, and what the world is afterwards.
use Rattle.std.specs.Prelude.{◌≡◌, ◌⊎◌, ℕ, ◌+◌, ◌≤◌, true, is_some, All, List, [], ◌++◌, length, Option, Result, Ok, Err, IfSome}
use Rattle.mt_io.specs.Ends.{Input, Output, Rose, before_known, after_known}
use Rattle.mt_history.specs.declared.entry.Entry.{Entry}
use Rattle.mt_world.specs.Worlds.{WorldState, Tells, window_of}
use Rattle.mt_world.specs.Turns.{IsSameWorld}
use Rattle.httparse.specs.Grammar.{RequestHead, print_request}
use Rattle.mt_http_in.specs.declared.Code.{Code}
use Rattle.mt_http_in.specs.Reading.{Closes, Ended}
use Rattle.mt_http_in.specs.Heads.{IsHead}
use Rattle.mt_http_in.specs.Requests.{Refuses, IsBroken, continue_of}
use Rattle.mt_front.specs.declared.connection.End.{End}
use Rattle.mt_front.specs.declared.connection.End.TheVariants.{Input as AtEnd, Closed, BadInput}
use Rattle.mt_front.specs.declared.connection.Served.{Served}
use Rattle.mt_front.specs.declared.connection.ConnFault.{ConnFault}
use Rattle.mt_front.specs.declared.connection.ConnFault.TheVariants.{ReadFault, WriteFault, NoMemory}
use Rattle.mt_http_out.specs.Rendering.{bytes_of}
use Rattle.mt_world.specs.WholeCalls.{Mark}
use Rattle.mt_front.specs.Refusals.{head_refusal, bad_reply, memory_reply}
use Rattle.mt_front.specs.Items.{Item, AllKeep, LastCloses}
use Rattle.mt_front.specs.Answers.{Past, Counts, FitsConnection, AreCausedTo, past_end}
use Rattle.mt_front.specs.Spells.{SpellsAll}
use Rattle.mt_front.specs.declared.machines.Machines.{Machines}
use Rattle.mt_front.specs.Machines.{all_begun, ItemsDo, GoesForward}
use Rattle.mt_front.specs.Migration.{Migrates}

-- ---- what is written

-- these bytes were written
abbrev pub Sent : Output → List ℕ → Output → Type 0
Sent o bytes x = x.held ≡ after_known o.held bytes

-- a first part of these bytes was written, and a write failed
pub record Cut (o : Output) (bytes : List ℕ) (x : Output) : Type 0 where
  pub part : List ℕ
  pub rest : List ℕ
  pub is : bytes ≡ part ++ rest
  pub held : x.held ≡ after_known o.held part
  pub cause : Rose o.faults x.faults

-- ---- the world

-- the world's history, with the table before it
abbrev pub past_of : WorldState → Past
past_of w = record { window = window_of w; limit = w.history.limit }

-- its two stores' counts of faults
abbrev pub counts_of : WorldState → Counts
counts_of w = record { old_store = w.old_store.faults; new_store = w.new_store.faults }

-- entries were added, and all of them are the caller's
pub record Added (c : ℕ) (w w' : WorldState) : Type 0 where
  pub more : List Entry
  pub grew : w'.history.entries ≡ w.history.entries ++ more
  pub own : All (λ e. e.caller ≡ c) more

-- each store that tells afterwards told before
pub record ToldBefore (w w' : WorldState) : Type 0 where
  pub old_told : is_some w'.old_store.told ≡ true → is_some w.old_store.told ≡ true
  pub new_told : is_some w'.new_store.told ≡ true → is_some w.new_store.told ≡ true

-- the items fit the world's history, and then what an item left that broke off with these marks; no other entry was added to it, and each reply that a store failed has its own cause
pub record Talk (c : ℕ) (w : WorldState) (items : List Item) (broken : List Mark) (w' : WorldState) : Type 0 where
  pub answered : FitsConnection c (Tells w') (past_of w') (past_end (past_of w)) items broken
  pub same : IsSameWorld w w'
  pub told : ToldBefore w w'
  pub added : Added c w w'
  pub caused : AreCausedTo (counts_of w) items broken (counts_of w')

-- ---- the migration

-- the items did this one after the other, from machines at their beginning, to the world that they left; an item that broke off behind them has undone nothing
pub record Ran (c : ℕ) (w : WorldState) (items : List Item) (w' : WorldState) : Type 0 where
  pub left : WorldState
  pub machines : Machines
  pub did : ItemsDo c w all_begun items left machines
  pub behind : GoesForward left w'

-- ---- how a session ends

-- the items that were answered, the marks of one that broke off behind them, if any, the bytes of their requests, the bytes that are owed for them, and what is left of the input behind their requests
pub record Course : Type 0 where
  pub items : List Item
  pub broken : List Mark
  pub read : List ℕ
  pub written : List ℕ
  pub left : Option (List ℕ)

-- the input was read to its end; a read that found it came behind those that brought the requests
pub record AtInputEnd (s : Input) (o : Output) (c : Course) (t : Input) (x : Output) : Type 0 where
  pub nothing : IfSome c.left (λ all. all ≡ [])
  pub nothing_more : IfSome t.left (λ all. all ≡ [])
  pub keep : AllKeep c.items
  pub sent : Sent o c.written x
  pub reads : t.calls ≤ s.calls + length c.read + 1

-- the last request ended the connection, and no read began behind it
pub record AtClose (s : Input) (o : Output) (c : Course) (t : Input) (x : Output) : Type 0 where
  pub last : LastCloses c.items
  pub sent : Sent o c.written x
  pub reads : t.calls ≤ s.calls + length c.read

-- what is left is refused, by one of the four codes that close; with that refusal these bytes are owed
pub record IsRefused (s : Input) (c : Course) (t : Input) (owed : List ℕ) : Type 0 where
  pub code : Code
  pub said : List ℕ
  pub closes : Closes code
  pub refuses : IfSome c.left (λ all. Refuses all code said)
  pub keep : AllKeep c.items
  pub owed_is : owed ≡ c.written ++ (said ++ bytes_of (bad_reply (head_refusal code) true))
  pub reads : Ended s t

-- a read failed: these bytes had been read behind the requests, no whole one stands in them, and the 100 Continue of the one begun was written where its head stands whole and calls for it
pub record AtReadFault (s : Input) (o : Output) (c : Course) (t : Input) (x : Output) : Type 0 where
  pub begun : List ℕ
  pub said : List ℕ
  pub begun_is : c.left ≡ before_known begun t.left
  pub broken : IsBroken begun said
  pub keep : AllKeep c.items
  pub sent : Sent o (c.written ++ said) x
  pub reads : t.calls ≤ s.calls + length c.read + length begun + 1
  pub cause : Rose s.faults t.faults

-- a first part of what is owed for the requests was written, and no read began behind them
pub record CutReply (s : Input) (o : Output) (c : Course) (t : Input) (x : Output) : Type 0 where
  pub keep : AllKeep c.items ⊎ LastCloses c.items
  pub cut : Cut o c.written x
  pub reads : t.calls ≤ s.calls + length c.read

-- a head stands whole at the front of what is left, and that is its 100 Continue
pub record IsNext (left : Option (List ℕ)) (head : RequestHead) (said : List ℕ) : Type 0 where
  pub is_head : IsHead head
  pub rest : Option (List ℕ)
  pub at : left ≡ before_known (print_request head) rest
  pub spoken : said ≡ continue_of head

-- a first part was written of that and of the next request's 100 Continue, and no read began behind its head
pub record CutContinue (s : Input) (o : Output) (c : Course) (t : Input) (x : Output) : Type 0 where
  pub head : RequestHead
  pub said : List ℕ
  pub next : IsNext c.left head said
  pub keep : AllKeep c.items
  pub cut : Cut o (c.written ++ said) x
  pub reads : t.calls ≤ s.calls + length c.read + length (print_request head)

-- a write failed
abbrev pub AtWriteFault : Input → Output → Course → Input → Output → Type 0
AtWriteFault s o c t x = CutReply s o c t x ⊎ CutContinue s o c t x ⊎ ((owed : List ℕ) × IsRefused s c t owed × Cut o owed x)

-- nothing, or the 100 Continue of the request whose head stands whole at the front, or that of one that is refused
abbrev pub IsSaid : Option (List ℕ) → List ℕ → Type 0
IsSaid left said = (said ≡ []) ⊎ ((head : RequestHead) × IsNext left head said) ⊎ ((code : Code) × Closes code × IfSome left (λ all. Refuses all code said))

-- there was no memory for the next request, whose 100 Continue may have been written, and then the reply that says so, or a first part of it where a write failed
pub record AtNoMemory (o : Output) (c : Course) (x : Output) : Type 0 where
  pub said : List ℕ
  pub spoken : IsSaid c.left said
  pub keep : AllKeep c.items
  pub told : List ℕ
  pub rest : List ℕ
  pub reply_is : bytes_of memory_reply ≡ told ++ rest
  pub sent : Sent o (c.written ++ (said ++ told)) x
  pub cause : (rest ≡ []) ⊎ Rose o.faults x.faults

-- an item broke off only for want of memory
abbrev pub MayBreak : Result Served ConnFault → List Mark → Type 0
MayBreak (Ok served) broken = broken ≡ []
MayBreak (Err ReadFault) broken = broken ≡ []
MayBreak (Err WriteFault) broken = broken ≡ []
MayBreak (Err NoMemory) broken = Unit {0}

-- a session that was served to its end, by how it ended; each reply counts
abbrev pub EndsAs : Input → Output → Course → ℕ → End → Input → Output → Type 0
EndsAs s o c requests AtEnd t x = AtInputEnd s o c t x × (requests ≡ length c.items)
EndsAs s o c requests Closed t x = AtClose s o c t x × (requests ≡ length c.items)
EndsAs s o c requests BadInput t x = (owed : List ℕ) × IsRefused s c t owed × Sent o owed x × (requests ≡ length c.items + 1)

-- how a session ends that took this course, by its result
abbrev pub SessionAs : Input → Output → Course → Result Served ConnFault → Input → Output → Type 0
SessionAs s o c (Ok served) t x = EndsAs s o c served.requests served.end t x
SessionAs s o c (Err ReadFault) t x = AtReadFault s o c t x
SessionAs s o c (Err WriteFault) t x = AtWriteFault s o c t x
SessionAs s o c (Err NoMemory) t x = AtNoMemory o c x

-- the course is that of the bytes of the source
pub record IsCourse (table : List ℕ) (s : Input) (c : Course) : Type 0 where
  pub spelled : SpellsAll table c.items c.read c.written
  pub read_is : s.left ≡ before_known c.read c.left

-- ---- the session

-- a session of caller c with these items, whose requests are the bytes read up to what is left, and which ended as its result says
pub record Serves (c : ℕ) (table : List ℕ) (w : WorldState) (s : Input) (o : Output) (r : Result Served ConnFault) (w' : WorldState) (t : Input) (x : Output) : Type 0 where
  pub course : Course
  pub is_course : IsCourse table s course
  pub talk : Talk c w course.items course.broken w'
  pub ran : Ran c w course.items w'
  pub migrates : Migrates w course.items w'
  pub breaks : MayBreak r course.broken
  pub ends : SessionAs s o course r t x
  pub faults : s.faults ≤ t.faults
  pub faults_out : o.faults ≤ x.faults
