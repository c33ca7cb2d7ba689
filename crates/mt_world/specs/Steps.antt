-- What the code's own steps of a turn answer.
use Rattle.std.specs.Prelude.{◌≡◌, ℕ, Option, Some, None, Result, Ok, Err}
use Rattle.mt_chain.specs.declared.ask.CallFault.TheVariants as call_fault
use Rattle.mt_chain.specs.declared.ask.StoreAsk.{StoreAsk}
use Rattle.mt_chain.specs.declared.ask.StoreReply.{StoreReply}
use Rattle.mt_world.specs.declared.actor.Actor.{Actor}
use Rattle.mt_world.specs.declared.actor.Actor.TheVariants.{Client}
use Rattle.mt_world.specs.declared.actor.ClientCall.{ClientCall}
use Rattle.mt_world.specs.declared.actor.ClientCall.TheVariants as client
use Rattle.mt_world.specs.declared.actor.Progress.{Progress}
use Rattle.mt_world.specs.declared.actor.TurnFault.{TurnFault}
use Rattle.mt_world.specs.declared.actor.TurnFault.TheVariants.{StoreFault, HistoryFull, NoMemory}
use Rattle.mt_world.specs.Logs.{Log, Adds}
use Rattle.mt_world.specs.Moves.{NewEntry, ActorMoves, after_fault, fault_entry}
use Rattle.mt_world.specs.Turns.{Stage, OneCall, MayBeLost}

-- a step of a call gives the call afterwards beside its progress; a fault ends it
abbrev pub said_by : Result (Progress × ClientCall) TurnFault → Result Progress TurnFault
said_by (Ok step) = Ok step.0
said_by (Err fault) = Err fault

abbrev pub left_by : Result (Progress × ClientCall) TurnFault → Actor
left_by (Ok step) = Client step.1
left_by (Err fault) = Client client.Ended

-- the store call that is asked for; one that failed leaves its entry
abbrev pub CallsStore : Stage → ℕ → StoreAsk → Result StoreReply TurnFault → Stage → Type 0
CallsStore c caller ask (Ok answer) c' = OneCall c ask (Ok answer) c' × (c'.log ≡ c.log)
CallsStore c caller ask (Err StoreFault) c' = OneCall c ask (Err call_fault.Failed) c' × Adds c.log caller (Some fault_entry) c'.log
CallsStore c caller ask (Err HistoryFull) c' = ⊥
CallsStore c caller ask (Err NoMemory) c' = OneCall c ask (Err call_fault.NoMemory) c' × (c'.log ≡ c.log)

-- how an actor goes on from a reply, with the entry that it leaves; it has no memory only for what may be lost, and then leaves none
abbrev pub GoesOn : Actor → StoreReply → Result Progress TurnFault → Option NewEntry → Actor → Type 0
GoesOn a answer (Ok progress) entry a' = ActorMoves a answer (record { progress = progress; entry = entry; after = a' })
GoesOn a answer (Err StoreFault) entry a' = ⊥
GoesOn a answer (Err HistoryFull) entry a' = ⊥
GoesOn a answer (Err NoMemory) entry a' = MayBeLost (Ok answer) × (entry ≡ None) × (a' ≡ after_fault a)

-- an actor takes a reply, and an answer leaves an entry
pub record Answered (a : Actor) (answer : StoreReply) (l : Log) (caller : ℕ) (r : Result Progress TurnFault) (l' : Log) (a' : Actor) : Type 0 where
  pub entry : Option NewEntry
  pub goes : GoesOn a answer r entry a'
  pub adds : Adds l caller entry l'
