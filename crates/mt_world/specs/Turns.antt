-- One turn of an actor: at most one store call, and then at most one entry.
use Rattle.std.specs.Prelude.{◌≡◌, ◌⊎◌, ℕ, ◌≤◌, Bool, true, false, not, Option, Some, None, Result, Ok, Err}
use Rattle.mt_chain.specs.declared.ask.Side.{Side}
use Rattle.mt_chain.specs.declared.ask.Side.TheVariants.{Old, New}
use Rattle.mt_chain.specs.declared.ask.Ask.{Ask}
use Rattle.mt_chain.specs.declared.ask.StoreAsk.{StoreAsk}
use Rattle.mt_chain.specs.declared.ask.StoreReply.{StoreReply}
use Rattle.mt_chain.specs.declared.ask.StoreReply.TheVariants as reply
use Rattle.mt_chain.specs.declared.ask.CallFault.{CallFault}
use Rattle.mt_chain.specs.declared.ask.CallFault.TheVariants as call_fault
use Rattle.mt_chain.specs.Store.{Store, Rose, Onward, Same}
use Rattle.mt_chain.specs.Asks.{Calls}
use Rattle.mt_history.specs.Kept.{has_room}
use Rattle.mt_history.specs.Replies.{Replies}
use Rattle.mt_history.specs.Legal.{IsTrueAtEnd}
use Rattle.mt_world.specs.declared.actor.Actor.{Actor}
use Rattle.mt_world.specs.declared.actor.Progress.{Progress}
use Rattle.mt_world.specs.declared.actor.TurnFault.{TurnFault}
use Rattle.mt_world.specs.declared.actor.TurnFault.TheVariants.{StoreFault, HistoryFull, NoMemory}
use Rattle.mt_world.specs.Worlds.{WorldState, ForPair, Tells, AreTrueOf, KeepsApart, window_of, table_now}
use Rattle.mt_world.specs.Logs.{Log, raised, Adds}
use Rattle.mt_world.specs.Moves.{NewEntry, ActorFits, ActorAsks, ActorMoves, actor_facts, need_of, after_fault, fault_entry, retired_by}

-- it is so in this world
abbrev pub Knows : WorldState → Actor → Type 0
Knows w a = ForPair w (λ p. AreTrueOf w p (actor_facts a))

-- ---- the store call

-- what turns change: the two stores, the log of what happened to them, and the count of store calls
pub record Stage : Type 0 where
  pub old_store : Store
  pub new_store : Store
  pub log : Log
  pub calls : ℕ

abbrev pub log_of : WorldState → Log
log_of w = record { history = w.history; numbers = w.numbers; fault_entries = w.fault_entries }

abbrev pub stage_of : WorldState → Stage
stage_of w = record { old_store = w.old_store; new_store = w.new_store; log = log_of w; calls = w.calls }

-- a call of the store of that side; the other stays
abbrev pub CallsOn : Side → Store → Store → Ask → Result StoreReply CallFault → Store → Store → Type 0
CallsOn Old s s' ask r t t' = Calls s ask r t × (t' ≡ s')
CallsOn New s s' ask r t t' = Calls s' ask r t' × (t ≡ s)

-- one call of the store that is asked; the other stays
pub record OneCall (c : Stage) (ask : StoreAsk) (r : Result StoreReply CallFault) (c' : Stage) : Type 0 where
  pub on : CallsOn ask.side c.old_store c.new_store ask.ask r c'.old_store c'.new_store
  pub counted : c'.calls ≡ raised c.calls
  pub grew : c.calls ≤ c'.calls

-- no call
pub record NoCall (c c' : Stage) : Type 0 where
  pub old_store : c'.old_store ≡ c.old_store
  pub new_store : c'.new_store ≡ c.new_store
  pub calls : c'.calls ≡ c.calls

-- an answer in hand that may be lost for want of memory: that of a read, or the store's own want of memory
abbrev pub MayBeLost : Result StoreReply CallFault → Type 0
MayBeLost (Ok (reply.Found found)) = Unit {0}
MayBeLost (Ok (reply.Next next)) = Unit {0}
MayBeLost (Ok (reply.Applied tags)) = ⊥
MayBeLost (Ok (reply.Unmet index)) = ⊥
MayBeLost (Ok reply.SealedOff) = ⊥
MayBeLost (Ok reply.SealDone) = ⊥
MayBeLost (Err call_fault.Failed) = ⊥
MayBeLost (Err call_fault.NoMemory) = Unit {0}

-- the store call that the actor asks for was made; neither store holds anything else than before, and no count of faults rose
pub record CalledInVain (c : Stage) (a : Actor) (c' : Stage) : Type 0 where
  pub ask : StoreAsk
  pub asks : ActorAsks a ask
  pub answer : Result StoreReply CallFault
  pub lost : MayBeLost answer
  pub call : OneCall c ask answer c'
  pub old_same : Onward Same c.old_store.told c'.old_store.told
  pub new_same : Onward Same c.new_store.told c'.new_store.told
  pub old_faults : c'.old_store.faults ≡ c.old_store.faults
  pub new_faults : c'.new_store.faults ≡ c.new_store.faults

-- the call that the actor asks for is made, and the actor and the history move as its reply says; a turn that comes to nothing leaves no entry but that of a failed call
abbrev pub Moves : Stage → Actor → Result Progress TurnFault → Option NewEntry → Stage → Actor → Type 0
Moves c a (Ok progress) entry c' a' = (ask : StoreAsk) × (answer : StoreReply) × ActorAsks a ask × OneCall c ask (Ok answer) c' × ActorMoves a answer (record { progress = progress; entry = entry; after = a' })
Moves c a (Err StoreFault) entry c' a' = (ask : StoreAsk) × ActorAsks a ask × OneCall c ask (Err call_fault.Failed) c' × (entry ≡ Some fault_entry) × (a' ≡ after_fault a)
Moves c a (Err HistoryFull) entry c' a' = NoCall c c' × (entry ≡ None) × (a' ≡ after_fault a)
Moves c a (Err NoMemory) entry c' a' = (NoCall c c' ⊎ CalledInVain c a c') × (entry ≡ None) × (a' ≡ after_fault a)

-- the store of that side was called once, and the other was not
abbrev pub IsCalledOn : Side → Stage → Stage → Type 0
IsCalledOn Old c c' = (c'.old_store.calls ≡ raised c.old_store.calls) × (c'.new_store.calls ≡ c.new_store.calls)
IsCalledOn New c c' = (c'.old_store.calls ≡ c.old_store.calls) × (c'.new_store.calls ≡ raised c.new_store.calls)

-- the two stores' counts of calls and the world's rise together, by one at most
abbrev pub RiseTogether : Stage → Stage → Type 0
RiseTogether c c' = ((c'.old_store.calls ≡ c.old_store.calls) × (c'.new_store.calls ≡ c.new_store.calls) × (c'.calls ≡ c.calls))
    ⊎ ((side : Side) × IsCalledOn side c c' × (c'.calls ≡ raised c.calls))

-- ---- the entry

-- the history has no room
abbrev pub is_full : {A : Type 0} → Result A TurnFault → Bool
is_full (Ok a) = false
is_full (Err StoreFault) = false
is_full (Err HistoryFull) = true
is_full (Err NoMemory) = false

-- the part of a turn that does not depend on what the stores tell
pub record TakesTurn (c : Stage) (caller : ℕ) (a : Actor) (r : Result Progress TurnFault) (entry : Option NewEntry) (c' : Stage) (a' : Actor) : Type 0 where
  pub fits : ActorFits a
  pub full : is_full r ≡ not (has_room c.log.history (need_of a))
  pub moves : Moves c a r entry c' a'
  pub adds : Adds c.log caller entry c'.log

-- some entry, or none, makes it such a turn
abbrev pub TakesSomeTurn : Stage → ℕ → Actor → Result Progress TurnFault → Stage → Actor → Type 0
TakesSomeTurn c caller a r c' a' = (entry : Option NewEntry) × TakesTurn c caller a r entry c' a'

-- the reply to the entry is the reference table's, at its place
abbrev pub RepliesAt : WorldState → Option NewEntry → WorldState → Type 0
RepliesAt w None w' = Unit {0}
RepliesAt w (Some e) w' = ForPair w' (λ p. Replies e.what (table_now w) e.reply)

-- what the entry says is true there
abbrev pub SaysAt : WorldState → Option NewEntry → WorldState → Type 0
SaysAt w None w' = Unit {0}
SaysAt w (Some e) w' = ForPair w' (λ p. IsTrueAtEnd (window_of w) e.what)

-- ---- a turn

-- what no turn changes
pub record IsSameWorld (w w' : WorldState) : Type 0 where
  pub old_number : w'.old_store.number ≡ w.old_store.number
  pub new_number : w'.new_store.number ≡ w.new_store.number
  pub base : w'.base ≡ w.base
  pub first : w'.history.first ≡ w.history.first
  pub limit : w'.history.limit ≡ w.history.limit
  pub generation : w'.generation ≡ w.generation
  pub opened_faults : w'.opened_faults ≡ w.opened_faults

-- what a turn of an actor does that leaves this entry, or none
pub record Turns (w : WorldState) (caller : ℕ) (a : Actor) (r : Result Progress TurnFault) (entry : Option NewEntry) (w' : WorldState) (a' : Actor) : Type 0 where
  pub fits : ActorFits a
  pub same : IsSameWorld w w'
  pub retired : w'.retired ≡ retired_by a r w.retired
  pub tells : Tells w' → Tells w
  -- full exactly where the history has no room for the need
  pub full : is_full r ≡ not (has_room w.history (need_of a))
  -- at most one store call, and how the actor moves
  pub moves : Moves (stage_of w) a r entry (stage_of w') a'
  pub calls : RiseTogether (stage_of w) (stage_of w')
  -- at most one entry, of this caller
  pub adds : Adds (log_of w) caller entry (log_of w')
  pub replies : RepliesAt w entry w'
  pub says : SaysAt w entry w'
  pub knows : Knows w' a'
  pub keeps : KeepsApart w (actor_facts a) w' (actor_facts a')

-- a turn with its entry, or none
abbrev pub Turned : WorldState → ℕ → Actor → Result Progress TurnFault → WorldState → Actor → Type 0
Turned w caller a r w' a' = (entry : Option NewEntry) × Turns w caller a r entry w' a'

-- the count of one of the stores rose
abbrev pub EitherRose : WorldState → WorldState → Type 0
EitherRose w w' = Rose w.old_store.faults w'.old_store.faults ⊎ Rose w.new_store.faults w'.new_store.faults
