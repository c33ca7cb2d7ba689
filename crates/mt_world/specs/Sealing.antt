-- The seal of the old store, in one turn.
use Rattle.std.specs.Prelude.{◌≡◌, ◌⊎◌, ℕ, true, not, [], Option, Some, None, Result, Ok, Err}
use Rattle.mt_chain.specs.declared.ask.Side.TheVariants.{Old}
use Rattle.mt_chain.specs.declared.ask.Ask.TheVariants as ask
use Rattle.mt_chain.specs.declared.ask.StoreAsk.{StoreAsk}
use Rattle.mt_chain.specs.declared.ask.StoreReply.TheVariants as reply
use Rattle.mt_chain.specs.declared.ask.CallFault.TheVariants as call_fault
use Rattle.mt_chain.specs.declared.query.PkFrom.TheVariants.{From}
use Rattle.mt_history.specs.Kept.{has_room}
use Rattle.mt_history.specs.Weight.{need_of_move}
use Rattle.mt_migrate.specs.declared.state.Walk.TheVariants.{AfterSeal}
use Rattle.mt_migrate.specs.declared.state.State.TheVariants as at
use Rattle.mt_world.specs.declared.actor.Actor.{Actor}
use Rattle.mt_world.specs.declared.actor.Actor.TheVariants.{Migrator}
use Rattle.mt_world.specs.declared.actor.Progress.{Progress}
use Rattle.mt_world.specs.declared.actor.Progress.TheVariants.{More}
use Rattle.mt_world.specs.declared.actor.TurnFault.{TurnFault}
use Rattle.mt_world.specs.declared.actor.TurnFault.TheVariants.{StoreFault, HistoryFull, NoMemory}
use Rattle.mt_world.specs.Worlds.{WorldState, ForPair, Tells, KeepsApart}
use Rattle.mt_world.specs.Logs.{Adds}
use Rattle.mt_world.specs.Moves.{NewEntry, fault_entry}
use Rattle.mt_world.specs.Turns.{Stage, log_of, stage_of, OneCall, NoCall, is_full, IsSameWorld}

abbrev pub seal_ask : StoreAsk
seal_ask = record { side = Old; ask = ask.Seal }

-- old's seal was called, or it was not
abbrev pub CallsSeal : Stage → Result (Unit {0}) TurnFault → Stage → Type 0
CallsSeal c (Ok u) c' = OneCall c seal_ask (Ok reply.SealDone) c'
CallsSeal c (Err StoreFault) c' = OneCall c seal_ask (Err call_fault.Failed) c'
CallsSeal c (Err HistoryFull) c' = NoCall c c'
CallsSeal c (Err NoMemory) c' = NoCall c c' ⊎ OneCall c seal_ask (Err call_fault.NoMemory) c'

-- only a call that failed leaves an entry
abbrev pub seal_entry : Result (Unit {0}) TurnFault → Option NewEntry
seal_entry (Ok u) = None
seal_entry (Err StoreFault) = Some fault_entry
seal_entry (Err HistoryFull) = None
seal_entry (Err NoMemory) = None

-- old is sealed where that was answered
abbrev pub IsSealed : WorldState → Result (Unit {0}) TurnFault → Type 0
IsSealed w (Ok u) = ForPair w (λ p. p.old.sealed ≡ true)
IsSealed w (Err fault) = Unit {0}

pub record SealsOld (w : WorldState) (caller : ℕ) (r : Result (Unit {0}) TurnFault) (w' : WorldState) : Type 0 where
  pub same : IsSameWorld w w'
  pub retired : w'.retired ≡ w.retired
  pub tells : Tells w' → Tells w
  pub full : is_full r ≡ not (has_room w.history need_of_move)
  pub calls : CallsSeal (stage_of w) r (stage_of w')
  pub adds : Adds (log_of w) caller (seal_entry r) (log_of w')
  pub sealed : IsSealed w' r
  -- every fact that was true still is
  pub keeps : KeepsApart w [] w' []

-- ---- as a turn of a migrator that is about to seal

abbrev pub seal_said : Result (Unit {0}) TurnFault → Result Progress TurnFault
seal_said (Ok u) = Ok More
seal_said (Err fault) = Err fault

abbrev pub seal_left : Result (Unit {0}) TurnFault → Actor
seal_left (Ok u) = Migrator (at.Walk AfterSeal (From []))
seal_left (Err fault) = Migrator at.SealOld
