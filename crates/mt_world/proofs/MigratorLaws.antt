-- A migrator's turns: what it makes of a reply, and what its step does to the pair.
use Rattle.std.proofs.Common.{◌≡◌, ◌∙◌, ◌<◌, Bool, refl, sym, ap, subst, [], Option, None, Ok, Err}
use Rattle.std.specs.Prelude.{MatchBool, option_map}
use Rattle.mt_model.specs.declared.text.NoMemory.{NoMemory as NoMemoryOf}
use Rattle.mt_chain.specs.declared.ask.StoreAsk.{StoreAsk}
use Rattle.mt_chain.specs.declared.ask.StoreReply.{StoreReply}
use Rattle.mt_chain.specs.declared.ask.StoreReply.TheVariants as reply
use Rattle.mt_chain.specs.StoreCall.{IsContents}
use Rattle.mt_meta.specs.Logical.{Pair}
use Rattle.mt_meta.specs.Sound.{IsSound}
use Rattle.mt_meta.specs.Steps.{as_row, AllHold, ActorStep, PairMeans}
use Rattle.mt_migrate.specs.declared.migrator.MoveProgress.{MoveProgress}
use Rattle.mt_migrate.specs.declared.migrator.MoveProgress.TheVariants as move
use Rattle.mt_migrate.specs.declared.state.State.{State}
use Rattle.mt_migrate.specs.Known.{state_facts}
use Rattle.mt_migrate.specs.Moves.{Asks, Absorbs, MigratorFits, TakesMemory, begin, progress_at}
use Rattle.mt_migrate.specs.MoverSteps.{MoverStep}
use Rattle.mt_migrate.proofs.MoverLaw.{mover_law}
use Rattle.mt_world.specs.declared.actor.Actor.{Actor}
use Rattle.mt_world.specs.declared.actor.Actor.TheVariants.{Migrator}
use Rattle.mt_world.specs.declared.actor.Answer.TheVariants.{Moved}
use Rattle.mt_world.specs.declared.actor.Progress.TheVariants.{More, Done}
use Rattle.mt_world.specs.declared.actor.TurnFault.TheVariants.{NoMemory}
use Rattle.mt_world.specs.Moves.{NewEntry, Move, MigratorMoves, migrator_move, CanStep, actor_facts}
use Rattle.mt_world.specs.Steps.{GoesOn}
use Rattle.mt_world.specs.Worlds.{WorldState, AreTrueOf}
use Rattle.mt_world.specs.Turns.{MayBeLost, Knows}
use Rattle.mt_world.specs.WholeCalls.{StaysOfKind, is_at_end}
use Rattle.mt_world.proofs.PairLaws.{for_pair}
use Rattle.mt_world.proofs.EntryLaws.{EntryDoes}

-- ---- at its beginning

-- it knows nothing yet
pub begin_knows : (w : WorldState) (state : State) → state ≡ begin → Knows w (Migrator state)
begin_knows w state is = subst (λ s. Knows w (Migrator s)) (sym is) (for_pair w (λ p. AreTrueOf w p []) (λ a b ea eb. tt))

-- ---- what it makes of a reply

pub migrator_more : (state to : State) (r : StoreReply) → Absorbs state r (Ok move.More) to → GoesOn (Migrator state) r (Ok More) None (Migrator to)
migrator_more state to r absorbs = record { said = move.More; to = to; absorbs = absorbs; is = refl }

pub migrator_done : (state to : State) (r : StoreReply) → Absorbs state r (Ok move.Done) to → GoesOn (Migrator state) r (Ok (Done Moved)) None (Migrator to)
migrator_done state to r absorbs = record { said = move.Done; to = to; absorbs = absorbs; is = refl }

-- it leaves no entry
pub migrator_none : (to : State) (said : MoveProgress) → (migrator_move to said).entry ≡ None
migrator_none to move.More = refl
migrator_none to move.Done = refl

-- only the reply to a read takes memory
memory_lost : (r : StoreReply) → TakesMemory r → MayBeLost (Ok r)
memory_lost (reply.Found found) takes = tt
memory_lost (reply.Next next) takes = tt
memory_lost (reply.Applied tags) takes = absurd takes
memory_lost (reply.Unmet index) takes = absurd takes
memory_lost reply.SealedOff takes = absurd takes
memory_lost reply.SealDone takes = absurd takes

-- without memory it stays where it was
pub migrator_waits : (state to : State) (r : StoreReply) (none : NoMemoryOf) → Absorbs state r (Err none) to → GoesOn (Migrator state) r (Err NoMemory) None (Migrator to)
migrator_waits state to r none absorbs = (memory_lost r absorbs.0, refl, ap Migrator absorbs.1)

-- ---- a turn that goes on

-- the migrator afterwards can go on
pub record MigratorGoesOn (a' : Actor) : Type 0 where
  pub to : State
  pub after : a' ≡ Migrator to
  pub can : CanStep (Migrator to)

pub migrator_goes_on : (state : State) (r : StoreReply) (entry : Option NewEntry) (a' : Actor) → MigratorMoves state r (record { progress = More; entry = entry; after = a' }) → MigratorGoesOn a'
migrator_goes_on state r entry a' m = record {
  to = m.to;
  after = ap (λ (x : Move). x.after) m.is ∙ lands m.said;
  can = goes m.said m.absorbs (ap (λ (x : Move). x.progress) m.is);
} where
  lands : (said : MoveProgress) → (migrator_move m.to said).after ≡ Migrator m.to
  lands move.More = refl
  lands move.Done = refl

  goes : (said : MoveProgress) → Absorbs state r (Ok said) m.to → More ≡ (migrator_move m.to said).progress → CanStep (Migrator m.to)
  goes move.More absorbs is = sym absorbs.1
  goes move.Done absorbs is = absurd cc

-- a move leaves an actor of its kind, which can go on exactly where it is not done
abbrev pub LeavesReady : Actor → Move → Type 0
LeavesReady a m = StaysOfKind a m.after × MatchBool (is_at_end (Ok m.progress)) (CanStep m.after → ⊥) (CanStep m.after)

pub migrator_ready : (state : State) (r : StoreReply) (m : Move) → MigratorMoves state r m → LeavesReady (Migrator state) m
migrator_ready state r m moves = subst (LeavesReady (Migrator state)) (sym moves.is) (by moves.said moves.absorbs.1) where
  by : (said : MoveProgress) → said ≡ progress_at moves.to → LeavesReady (Migrator state) (migrator_move moves.to said)
  by move.More is = ((moves.to, refl), sym is)
  by move.Done is = ((moves.to, refl), λ can. let on : progress_at moves.to ≡ move.More = can in cc)

-- ---- its step

-- a step of a migrator over a told pair
abbrev pub MigratorSteps : State → Bool → Move → Pair → Pair → Type 0
MigratorSteps state retired m p q = ActorStep (state_facts state) (actor_facts m.after) retired retired (EntryDoes m.entry) p q

pub migrator_step : (state : State) (ask : StoreAsk) (answer : StoreReply) (m : Move) (p q : Pair) (retired : Bool) → MigratorFits state → p.old_number < p.new_number → IsContents p.old × IsContents p.new
    → Asks state ask → PairMeans ask answer p q → MigratorMoves state answer m → IsSound p → AllHold p retired (state_facts state) → MigratorSteps state retired m p q
migrator_step state ask answer m p q retired fits below contents asks means moves sound knows = subst (λ x. MigratorSteps state retired x p q) (sym moves.is) (by moves.said) where
  s : MoverStep state moves.to retired p q
  s = mover_law state moves.to ask answer moves.said p q retired fits sound below contents.0 contents.1 knows asks means moves.absorbs

  stepped : ActorStep (state_facts state) (state_facts moves.to) retired retired (EntryDoes None) p q
  stepped = record {
    sound = s.sound;
    grows = s.grows;
    knows = s.knows;
    apart = s.apart;
    stays = s.stays;
    retires = s.retires;
    does = λ key. ap (option_map as_row) (s.does key.pk key.rk);
  }

  by : (said : MoveProgress) → MigratorSteps state retired (migrator_move moves.to said) p q
  by move.More = stepped
  by move.Done = stepped
