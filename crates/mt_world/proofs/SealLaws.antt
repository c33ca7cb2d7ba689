-- The seal of the old store is a turn of a migrator that is about to seal it.
use Rattle.std.proofs.Common.{◌≡◌, ◌∙◌, ◌⊎◌, ℕ, Bool, true, refl, sym, ap, subst, inl, inr, List, [], Option, None, Result, Ok, Err}
use Rattle.mt_model.specs.declared.entity.Entity.{Entity}
use Rattle.mt_chain.specs.declared.ask.Ask.TheVariants as ask
use Rattle.mt_chain.specs.declared.ask.StoreReply.{StoreReply}
use Rattle.mt_chain.specs.declared.ask.StoreReply.TheVariants as reply
use Rattle.mt_chain.specs.declared.ask.CallFault.{CallFault}
use Rattle.mt_chain.specs.declared.ask.CallFault.TheVariants as call_fault
use Rattle.mt_chain.specs.declared.query.PkFrom.TheVariants.{From}
use Rattle.mt_chain.specs.Asks.{FitsAsk}
use Rattle.mt_migrate.specs.declared.state.State.TheVariants as at
use Rattle.mt_migrate.specs.declared.state.Walk.TheVariants.{AfterSeal}
use Rattle.mt_world.specs.declared.actor.Actor.{Actor}
use Rattle.mt_world.specs.declared.actor.Actor.TheVariants.{Migrator}
use Rattle.mt_world.specs.declared.actor.Progress.TheVariants.{More}
use Rattle.mt_world.specs.declared.actor.TurnFault.{TurnFault}
use Rattle.mt_world.specs.declared.actor.TurnFault.TheVariants.{StoreFault, HistoryFull, NoMemory}
use Rattle.mt_world.specs.Worlds.{WorldState, AreTrueOf, IsWorld}
use Rattle.mt_world.specs.Moves.{NewEntry, Move, MigratorMoves, actor_facts, retired_where}
use Rattle.mt_world.specs.Logs.{Adds}
use Rattle.mt_world.specs.Steps.{GoesOn}
use Rattle.mt_world.specs.Turns.{Stage, OneCall, NoCall, MayBeLost, Moves, TakesSomeTurn, Knows, Turned, is_full, log_of, stage_of}
use Rattle.mt_world.specs.Sealing.{seal_ask, CallsSeal, seal_entry, IsSealed, SealsOld, seal_said, seal_left}
use Rattle.mt_world.proofs.PairLaws.{for_pair, map_pair}
use Rattle.mt_world.proofs.MigratorLaws.{migrator_more, migrator_none}
use Rattle.mt_world.proofs.FinishLaws.{beside_none}
use Rattle.mt_world.proofs.BesideLaws.{all_kept, all_known, all_stand}
use Rattle.mt_world.proofs.TurnLaws.{world_of, turn_at}

-- ---- on the stage

-- the one reply to a seal
seal_reply : (r : StoreReply) → FitsAsk ask.Seal r → r ≡ reply.SealDone
seal_reply reply.SealDone fits = refl
seal_reply (reply.Found found) fits = absurd fits
seal_reply (reply.Next next) fits = absurd fits
seal_reply (reply.Applied tags) fits = absurd fits
seal_reply (reply.Unmet index) fits = absurd fits
seal_reply reply.SealedOff fits = absurd fits

pub seal_answered : (r : StoreReply) → FitsAsk ask.Seal r → GoesOn (Migrator at.SealOld) r (Ok More) None (seal_left (Ok tt))
seal_answered r fits = subst (λ x. GoesOn (Migrator at.SealOld) x (Ok More) None (seal_left (Ok tt))) (sym (seal_reply r fits)) (migrator_more at.SealOld (at.Walk AfterSeal (From [])) reply.SealDone (refl, refl))

-- the reply of a call of old's seal fits
pub call_fits : (c c' : Stage) (r : StoreReply) → OneCall c seal_ask (Ok r) c' → FitsAsk ask.Seal r
call_fits c c' r one = one.on.0.shows.1

-- ---- its call

lost_none : (r : StoreReply) → FitsAsk ask.Seal r → MayBeLost (Ok r) → ⊥
lost_none reply.SealDone fits lost = lost
lost_none (reply.Found found) fits lost = fits
lost_none (reply.Next next) fits lost = fits
lost_none (reply.Applied tags) fits lost = fits
lost_none (reply.Unmet index) fits lost = fits
lost_none reply.SealedOff fits lost = fits

in_vain : (c c' : Stage) (answer : Result StoreReply CallFault) → MayBeLost answer → OneCall c seal_ask answer c' → OneCall c seal_ask (Err call_fault.NoMemory) c'
in_vain c c' (Ok r) lost one = absurd (lost_none r (call_fits c c' r one) lost)
in_vain c c' (Err call_fault.Failed) lost one = absurd lost
in_vain c c' (Err call_fault.NoMemory) lost one = one

calls_seal : (c c' : Stage) (r : Result (Unit {0}) TurnFault) (entry : Option NewEntry) → Moves c (Migrator at.SealOld) (seal_said r) entry c' (seal_left r) → CallsSeal c r c'
calls_seal c c' (Ok u) entry m =
    let one = subst (λ a. OneCall c a (Ok m.1) c') m.2 m.3 in
    subst (λ r. OneCall c seal_ask (Ok r) c') (seal_reply m.1 (call_fits c c' m.1 one)) one
calls_seal c c' (Err StoreFault) entry m = subst (λ a. OneCall c a (Err call_fault.Failed) c') m.1 m.2
calls_seal c c' (Err HistoryFull) entry m = m.0
calls_seal c c' (Err NoMemory) entry m = elim m.0 as (λ _. NoCall c c' ⊎ OneCall c seal_ask (Err call_fault.NoMemory) c') [
  | inl none ↦ inl none
  | inr vain ↦ inr (in_vain c c' vain.answer vain.lost (subst (λ a. OneCall c a vain.answer c') vain.asks vain.call))
]

entry_is : (c c' : Stage) (r : Result (Unit {0}) TurnFault) (entry : Option NewEntry) → Moves c (Migrator at.SealOld) (seal_said r) entry c' (seal_left r) → entry ≡ seal_entry r
entry_is c c' (Ok u) entry m =
    let b : MigratorMoves at.SealOld m.1 (record { progress = More; entry = entry; after = seal_left (Ok u) }) = m.4 in
    ap (λ (x : Move). x.entry) b.is ∙ migrator_none b.to b.said
entry_is c c' (Err StoreFault) entry m = m.3
entry_is c c' (Err HistoryFull) entry m = m.1
entry_is c c' (Err NoMemory) entry m = m.1

full_said : (r : Result (Unit {0}) TurnFault) → is_full (seal_said r) ≡ is_full r
full_said (Ok u) = refl
full_said (Err StoreFault) = refl
full_said (Err HistoryFull) = refl
full_said (Err NoMemory) = refl

-- ---- of a world

-- what the migrator knows after the seal says that old is sealed
sealed_is : (w : WorldState) (r : Result (Unit {0}) TurnFault) → Knows w (seal_left r) → IsSealed w r
sealed_is w (Ok u) knows = map_pair w (λ p. AreTrueOf w p (actor_facts (seal_left (Ok u)))) (λ p. p.old.sealed ≡ true) (λ p h. h.0.sealed) knows
sealed_is w (Err fault) knows = tt

turned_seals : (w w' : WorldState) (caller : ℕ) (r : Result (Unit {0}) TurnFault) → Turned w caller (Migrator at.SealOld) (seal_said r) w' (seal_left r) → SealsOld w caller r w'
turned_seals w w' caller r t = record {
  same = t.1.same;
  retired = t.1.retired;
  tells = t.1.tells;
  full = sym (full_said r) ∙ t.1.full;
  calls = calls_seal (stage_of w) (stage_of w') r t.0 t.1.moves;
  adds = subst (λ e. Adds (log_of w) caller e (log_of w')) (entry_is (stage_of w) (stage_of w') r t.0 t.1.moves) t.1.adds;
  sealed = sealed_is w' r t.1.knows;
  keeps = λ f stands. beside_none w' (actor_facts (seal_left r)) f (t.1.keeps f stands);
}

same_retired : (r : Result (Unit {0}) TurnFault) (retired : Bool) → retired ≡ retired_where (seal_said r) retired
same_retired (Ok u) retired = refl
same_retired (Err fault) retired = refl

pub seal_at : (v : WorldState) (c c' : Stage) (base : List Entity) (generation : ℕ) (retired : Bool) (opened_faults : ℕ) (caller : ℕ) (r : Result (Unit {0}) TurnFault)
    → world_of c base generation retired opened_faults ≡ v → IsWorld (world_of c base generation retired opened_faults) → TakesSomeTurn c caller (Migrator at.SealOld) (seal_said r) c' (seal_left r)
    → IsWorld (world_of c' base generation retired opened_faults) × SealsOld v caller r (world_of c' base generation retired opened_faults)
seal_at v c c' base generation retired opened_faults caller r view world takes =
    let t = turn_at v c c' base generation retired retired opened_faults caller (Migrator at.SealOld) (seal_left r) (seal_said r) view world nothing takes (same_retired r retired) in
    (t.0, turned_seals v (world_of c' base generation retired opened_faults) caller r t.1) where
      nothing : Knows v (Migrator at.SealOld)
      nothing = for_pair v (λ p. AreTrueOf v p []) (λ a b ea eb. tt)

-- what an actor knows stays true
pub known_over_seal : (w w' : WorldState) (caller : ℕ) (r : Result (Unit {0}) TurnFault) (other : Actor) → SealsOld w caller r w' → Knows w other → Knows w' other
known_over_seal w w' caller r other seals knows = all_known w' [] (actor_facts other) (all_kept w w' [] [] (actor_facts other) seals.keeps (all_stand w [] (actor_facts other) tt knows))
