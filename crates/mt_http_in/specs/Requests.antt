-- Whole requests, refusals, and what stands where reading broke off.
use Rattle.std.specs.Prelude.{◌≡◌, ℕ, ◌+◌, ◌-◌, ◌<◌, ◌≤◌, ◌⊎◌, Bool, true, false, not, List, [], ◌++◌, length, Option, Some, None, Result, Ok, Err, IfSome, codes, if◌then◌else◌}
use Rattle.httparse.specs.Ascii.{crlf_bytes}
use Rattle.httparse.specs.Grammar.{RequestHead, print_request}
use Rattle.mt_io.specs.Ends.{Input, Output, Rose, after_known}
use Rattle.mt_http_in.specs.declared.requests.Incoming.{Incoming}
use Rattle.mt_http_in.specs.declared.heads.Head.{Head}
use Rattle.mt_http_in.specs.declared.framing.Framing.{Framing}
use Rattle.mt_http_in.specs.declared.InFault.{InFault}
use Rattle.mt_http_in.specs.declared.InFault.TheVariants.{ReadFault, WriteFault, NoMemory, Refused}
use Rattle.mt_http_in.specs.declared.reader.Halt.{Halt}
use Rattle.mt_http_in.specs.declared.reader.Halt.TheVariants as halt
use Rattle.mt_http_in.specs.declared.Code.{Code}
use Rattle.mt_http_in.specs.declared.Code.TheVariants.{InvalidHead, InvalidFraming, RequestBodyTooLarge, InvalidBody, CompressedBody}
use Rattle.mt_http_in.specs.Fields.{framing_of, calls_for, is_packed, keeps_open}
use Rattle.mt_http_in.specs.Reading.{ahead, Later, Spent, Failed, Ended}
use Rattle.mt_http_in.specs.Heads.{IsHead, HasHead, HoldsHead, HasNoHead, IsHeadBegun, fields_of}
use Rattle.mt_http_in.specs.Bodies.{SpellsBody, IsBodyBegun, BodyRefused}

-- the reply `100 Continue`
abbrev pub continue_bytes : List ℕ
continue_bytes = codes "HTTP/1.1 100 Continue" ++ crlf_bytes ++ crlf_bytes

-- what is written before the body of a request is read
abbrev pub continue_of : RequestHead → List ℕ
continue_of h = if calls_for (fields_of h) then continue_bytes else []

-- what a head leaves for trailers
abbrev pub room_after : RequestHead → ℕ
room_after h = 16384 - length (print_request h)

-- how the body of a head is framed
abbrev pub framing_after : RequestHead → Framing
framing_after h = framing_of (fields_of h)

-- the bytes are that request, whole
pub record Spells (h : RequestHead) (body bytes : List ℕ) : Type 0 where
  pub head : IsHead h
  pub coda : List ℕ
  pub spelled : SpellsBody (room_after h) (framing_after h) coda body
  pub is : bytes ≡ print_request h ++ coda

-- no head stands at the front, and nothing is written
pub record IsHeadless (c : Code) (all said : List ℕ) : Type 0 where
  pub code : c ≡ InvalidHead
  pub none : HasNoHead all
  pub some : 0 < length all
  pub silent : said ≡ []

-- a head stands at the front, and what follows it is refused after that was written
pub record IsUnreadable (c : Code) (all said : List ℕ) : Type 0 where
  pub head : RequestHead
  pub rest : List ℕ
  pub has : HasHead all head rest
  pub refused : BodyRefused (room_after head) (framing_after head) c rest
  pub spoken : said ≡ continue_of head

-- the bytes begin with what is refused by that code, after that was written
abbrev pub Refuses : List ℕ → Code → List ℕ → Type 0
Refuses all c said = IsHeadless c all said ⊎ IsUnreadable c all said

-- a head stands whole in the bytes, and they end inside its body
pub record EndsInBody (bytes said : List ℕ) : Type 0 where
  pub head : RequestHead
  pub part : List ℕ
  pub has : HasHead bytes head part
  pub begun : IsBodyBegun (room_after head) (framing_after head) part
  pub spoken : said ≡ continue_of head

-- no whole request stands in the bytes read, and that was written for the one begun
abbrev pub IsBroken : List ℕ → List ℕ → Type 0
IsBroken bytes said = (IsHeadBegun bytes × (said ≡ [])) ⊎ EndsInBody bytes said

-- the running request has these parts
pub record HoldsRequest (v : Incoming) (h : RequestHead) (body : List ℕ) : Type 0 where
  pub method : v.method ≡ h.method
  pub target : v.target ≡ h.target
  pub fields : v.fields ≡ fields_of h
  pub body_is : v.body ≡ body
  pub keep : v.keep ≡ keeps_open h.minor (fields_of h)

-- a whole request was taken off the front, and its 100 Continue written
pub record Got (kept : List ℕ) (s : Input) (w : Output) (h : RequestHead) (body kept' : List ℕ) (t : Input) (x : Output) : Type 0 where
  pub bytes : List ℕ
  pub whole : Spells h body bytes
  pub spent : Spent kept s bytes kept' t
  pub said : x.held ≡ after_known w.held (continue_of h)

-- a whole request whose body is compressed
pub record Packed (kept : List ℕ) (s : Input) (w : Output) (close : Bool) (kept' : List ℕ) (t : Input) (x : Output) : Type 0 where
  pub head : RequestHead
  pub body : List ℕ
  pub got : Got kept s w head body kept' t x
  pub packed : is_packed (fields_of head) ≡ true
  pub closes : close ≡ not (keeps_open head.minor (fields_of head))

-- a refusal that closes
pub record Closed (kept : List ℕ) (s : Input) (w : Output) (c : Code) (close : Bool) (t : Input) (x : Output) : Type 0 where
  pub closes : close ≡ true
  pub bytes : List ℕ
  pub said : x.held ≡ after_known w.held bytes
  pub refuses : IfSome (ahead kept s) (λ all. Refuses all c bytes)
  pub ended : Ended s t

-- what a refusal says, by its code
abbrev pub RefusedAs : List ℕ → Input → Output → Code → Bool → List ℕ → Input → Output → Type 0
RefusedAs kept s w InvalidHead close kept' t x = Closed kept s w InvalidHead close t x
RefusedAs kept s w InvalidFraming close kept' t x = Closed kept s w InvalidFraming close t x
RefusedAs kept s w RequestBodyTooLarge close kept' t x = Closed kept s w RequestBodyTooLarge close t x
RefusedAs kept s w InvalidBody close kept' t x = Closed kept s w InvalidBody close t x
RefusedAs kept s w CompressedBody close kept' t x = Packed kept s w close kept' t x

-- a read failed
pub record BrokeIn (kept : List ℕ) (s : Input) (w : Output) (t : Input) (x : Output) : Type 0 where
  pub read : List ℕ
  pub failed : Failed kept s read t
  pub bytes : List ℕ
  pub said : x.held ≡ after_known w.held bytes
  pub broken : IsBroken read bytes

-- the write of `100 Continue` failed, behind the head that called for it
pub record BrokeOut (kept : List ℕ) (s : Input) (w : Output) (kept' : List ℕ) (t : Input) (x : Output) : Type 0 where
  pub head : RequestHead
  pub is_head : IsHead head
  pub spent : Spent kept s (print_request head) kept' t
  pub part : List ℕ
  pub rest : List ℕ
  pub piece : continue_of head ≡ part ++ rest
  pub said : x.held ≡ after_known w.held part
  pub cause : Rose w.faults x.faults

-- a head stood whole, and its 100 Continue was written
pub record IsSaid (kept : List ℕ) (s : Input) (bytes : List ℕ) : Type 0 where
  pub head : RequestHead
  pub kept' : List ℕ
  pub t : Input
  pub is_head : IsHead head
  pub spent : Spent kept s (print_request head) kept' t
  pub spoken : bytes ≡ continue_of head

-- no memory: nothing was written, or a 100 Continue
pub record Starved (kept : List ℕ) (s : Input) (w x : Output) : Type 0 where
  pub bytes : List ℕ
  pub said : x.held ≡ after_known w.held bytes
  pub spoken : (bytes ≡ []) ⊎ IsSaid kept s bytes

-- the status of a refusal
abbrev pub status_of : Code → ℕ
status_of InvalidHead = 400
status_of InvalidFraming = 400
status_of RequestBodyTooLarge = 413
status_of InvalidBody = 400
status_of CompressedBody = 501

-- the answer where reading stopped
abbrev pub FaultOf : Halt → InFault → Type 0
FaultOf halt.ReadFault f = f ≡ ReadFault
FaultOf halt.NoMemory f = f ≡ NoMemory
FaultOf (halt.Refused c) f = f ≡ Refused (status_of c) c true

-- what reading a request says, by its answer
abbrev pub RequestAs : List ℕ → Input → Output → Result (Option Incoming) InFault → List ℕ → Input → Output → Type 0
RequestAs kept s w (Ok (Some v)) kept' t x = (h : RequestHead) × (body : List ℕ) × Got kept s w h body kept' t x × HoldsRequest v h body × (is_packed (fields_of h) ≡ false)
RequestAs kept s w (Ok None) kept' t x = (ahead kept s ≡ ahead kept' t) × IfSome (ahead kept s) (λ all. all ≡ []) × (x ≡ w) × (t.calls ≤ s.calls + 1)
RequestAs kept s w (Err ReadFault) kept' t x = BrokeIn kept s w t x
RequestAs kept s w (Err WriteFault) kept' t x = BrokeOut kept s w kept' t x
RequestAs kept s w (Err NoMemory) kept' t x = Starved kept s w x
RequestAs kept s w (Err (Refused status c close)) kept' t x = (status ≡ status_of c) × RefusedAs kept s w c close kept' t x

-- writes alone were made
pub record LaterOut (w x : Output) : Type 0 where
  pub number : x.number ≡ w.number
  pub same : x.open ≡ w.open
  pub calls : w.calls ≤ x.calls
  pub faults : w.faults ≤ x.faults

-- reading the next request, in whatever pieces its bytes come
pub record ReadsRequest (kept : List ℕ) (s : Input) (w : Output) (r : Result (Option Incoming) InFault) (kept' : List ℕ) (t : Input) (x : Output) : Type 0 where
  pub later : Later s t
  pub later_out : LaterOut w x
  pub read : RequestAs kept s w r kept' t x

-- the same behind a head that was read
pub record Continued (v : Head) (kept : List ℕ) (s : Input) (w : Output) (r : Result (Option Incoming) InFault) (kept' : List ℕ) (t : Input) (x : Output) : Type 0 where
  pub later : Later s t
  pub later_out : LaterOut w x
  pub read : (from : List ℕ) (r0 : Input) (h : RequestHead) → IsHead h → HoldsHead v h → Later r0 s → Spent from r0 (print_request h) kept s → RequestAs from r0 w r kept' t x
