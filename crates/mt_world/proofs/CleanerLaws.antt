-- A cleaner's turns: what it makes of a reply, and what its step does to the pair.
use Rattle.std.proofs.Common.{◌≡◌, ◌∙◌, Bool, true, false, cond, refl, sym, ap, subst, [], Option, None, Ok, Err}
use Rattle.std.specs.Prelude.{option_map}
use Rattle.mt_model.specs.declared.text.NoMemory.{NoMemory as NoMemoryOf}
use Rattle.mt_chain.specs.declared.ask.StoreAsk.{StoreAsk}
use Rattle.mt_chain.specs.declared.ask.StoreReply.{StoreReply}
use Rattle.mt_chain.specs.declared.ask.StoreReply.TheVariants as reply
use Rattle.mt_chain.specs.StoreCall.{IsContents}
use Rattle.mt_meta.specs.Logical.{Pair}
use Rattle.mt_meta.specs.Sound.{IsSound}
use Rattle.mt_meta.specs.Steps.{as_row, AllHold, ActorStep, PairMeans}
use Rattle.mt_clean.specs.declared.cleaner.CleanProgress.{CleanProgress}
use Rattle.mt_clean.specs.declared.cleaner.CleanProgress.TheVariants as clean
use Rattle.mt_clean.specs.declared.state.State.{State}
use Rattle.mt_clean.specs.declared.state.State.TheVariants as at
use Rattle.mt_clean.specs.Known.{state_facts}
use Rattle.mt_clean.specs.Cleanings.{Asks, Absorbs, CleanerFits, TakesMemory, lead, is_done, says_done}
use Rattle.mt_clean.specs.CleanerSteps.{CleanerStep, retired_at}
use Rattle.mt_clean.proofs.CleanerLaw.{cleaner_law}
use Rattle.mt_clean.proofs.FitLaws.{done_said}
use Rattle.mt_world.specs.declared.actor.Actor.{Actor}
use Rattle.mt_world.specs.declared.actor.Actor.TheVariants.{Cleaner}
use Rattle.mt_world.specs.declared.actor.Answer.TheVariants.{Cleaned}
use Rattle.mt_world.specs.declared.actor.Progress.{Progress}
use Rattle.mt_world.specs.declared.actor.Progress.TheVariants.{Done}
use Rattle.mt_world.specs.declared.actor.TurnFault.TheVariants.{NoMemory}
use Rattle.mt_world.specs.Worlds.{WorldState, AreTrueOf}
use Rattle.mt_world.specs.Moves.{NewEntry, Move, CleanerMoves, cleaner_move, CanStep, actor_facts, retired_where}
use Rattle.mt_world.specs.Steps.{GoesOn}
use Rattle.mt_world.specs.Turns.{MayBeLost, Knows}
use Rattle.mt_world.proofs.PairLaws.{for_pair}
use Rattle.mt_world.proofs.EntryLaws.{EntryDoes}
use Rattle.mt_world.proofs.MigratorLaws.{LeavesReady}

-- ---- at its beginning

-- it knows nothing yet
pub cleaner_begins : (w : WorldState) (state : State) → state ≡ at.Walk → Knows w (Cleaner state)
cleaner_begins w state is = subst (λ s. Knows w (Cleaner s)) (sym is) (for_pair w (λ p. AreTrueOf w p []) (λ a b ea eb. tt))

-- ---- what it makes of a reply

pub cleaner_says : (state to : State) (r : StoreReply) (said : CleanProgress) → Absorbs state r (Ok said) to → GoesOn (Cleaner state) r (Ok (cleaner_move to said).progress) None (Cleaner to)
cleaner_says state to r clean.More absorbs = record { said = clean.More; to = to; absorbs = absorbs; is = refl }
cleaner_says state to r clean.Done absorbs = record { said = clean.Done; to = to; absorbs = absorbs; is = refl }
cleaner_says state to r clean.NotSealed absorbs = record { said = clean.NotSealed; to = to; absorbs = absorbs; is = refl }
cleaner_says state to r (clean.NotMigrated pk) absorbs = record { said = clean.NotMigrated pk; to = to; absorbs = absorbs; is = refl }

-- it leaves no entry
pub cleaner_none : (to : State) (said : CleanProgress) → (cleaner_move to said).entry ≡ None
cleaner_none to clean.More = refl
cleaner_none to clean.Done = refl
cleaner_none to clean.NotSealed = refl
cleaner_none to (clean.NotMigrated pk) = refl

-- only the reply to a read takes memory
memory_lost : (state : State) (r : StoreReply) → TakesMemory state r → MayBeLost (Ok r)
memory_lost (at.Tombs pk after) (reply.Found found) takes = tt
memory_lost (at.Tombs pk after) (reply.Next next) takes = absurd takes
memory_lost (at.Tombs pk after) (reply.Applied tags) takes = absurd takes
memory_lost (at.Tombs pk after) (reply.Unmet index) takes = absurd takes
memory_lost (at.Tombs pk after) reply.SealedOff takes = absurd takes
memory_lost (at.Tombs pk after) reply.SealDone takes = absurd takes
memory_lost at.Walk r takes = absurd takes
memory_lost (at.Purge pk upto tombs) r takes = absurd takes
memory_lost (at.Rows pk) r takes = absurd takes
memory_lost (at.Drop pk marker rows more) r takes = absurd takes
memory_lost at.Done r takes = absurd takes

-- without memory it stays where it was
pub cleaner_waits : (state to : State) (r : StoreReply) (none : NoMemoryOf) → Absorbs state r (Err none) to → GoesOn (Cleaner state) r (Err NoMemory) None (Cleaner to)
cleaner_waits state to r none absorbs = (memory_lost state r absorbs.0, refl, ap Cleaner absorbs.1)

-- ---- a turn that the stores answered

-- it is done exactly where it says so
done_as_said : (state to : State) (r : StoreReply) (said : CleanProgress) → Absorbs state r (Ok said) to → is_done to ≡ says_done said
done_as_said state to r said absorbs = ap is_done absorbs.0 ∙ done_said (lead state r) ∙ ap says_done (sym absorbs.1)

-- the cleaner afterwards
pub record CleanerGoesOn (a' : Actor) (progress : Progress) : Type 0 where
  pub to : State
  pub after : a' ≡ Cleaner to
  pub can : (progress ≡ Done Cleaned → ⊥) → CanStep (Cleaner to)

pub cleaner_goes_on : (state : State) (r : StoreReply) (progress : Progress) (entry : Option NewEntry) (a' : Actor) → CleanerMoves state r (record { progress = progress; entry = entry; after = a' }) → CleanerGoesOn a' progress
cleaner_goes_on state r progress entry a' m = record {
  to = m.to;
  after = ap (λ (x : Move). x.after) m.is ∙ lands m.said;
  can = λ other. done_as_said state m.to r m.said m.absorbs ∙ going m.said (λ done. other (ap (λ (x : Move). x.progress) m.is ∙ done));
} where
  lands : (said : CleanProgress) → (cleaner_move m.to said).after ≡ Cleaner m.to
  lands clean.More = refl
  lands clean.Done = refl
  lands clean.NotSealed = refl
  lands (clean.NotMigrated pk) = refl

  going : (said : CleanProgress) → ((cleaner_move m.to said).progress ≡ Done Cleaned → ⊥) → says_done said ≡ false
  going clean.More other = refl
  going clean.Done other = absurd (other refl)
  going clean.NotSealed other = refl
  going (clean.NotMigrated pk) other = refl

-- it can go on exactly where it is not done
pub cleaner_ready : (state : State) (r : StoreReply) (m : Move) → CleanerMoves state r m → LeavesReady (Cleaner state) m
cleaner_ready state r m moves = subst (LeavesReady (Cleaner state)) (sym moves.is) (by moves.said (done_as_said state moves.to r moves.said moves.absorbs)) where
  by : (said : CleanProgress) → is_done moves.to ≡ says_done said → LeavesReady (Cleaner state) (cleaner_move moves.to said)
  by clean.More is = ((moves.to, refl), is)
  by clean.Done is = ((moves.to, refl), λ can. let on : is_done moves.to ≡ false = can in cc)
  by clean.NotSealed is = ((moves.to, refl), is)
  by (clean.NotMigrated pk) is = ((moves.to, refl), is)

-- ---- its step

-- the world is retired where the cleaner is done
retired_done : (s : State) (retired : Bool) → retired_at retired s ≡ cond (is_done s) true retired
retired_done at.Walk retired = refl
retired_done (at.Tombs pk after) retired = refl
retired_done (at.Purge pk upto tombs) retired = refl
retired_done (at.Rows pk) retired = refl
retired_done (at.Drop pk marker rows more) retired = refl
retired_done at.Done retired = refl

-- and where it says so
retired_said : (to : State) (said : CleanProgress) (retired : Bool) → retired_where (Ok (cleaner_move to said).progress) retired ≡ cond (says_done said) true retired
retired_said to clean.More retired = refl
retired_said to clean.Done retired = refl
retired_said to clean.NotSealed retired = refl
retired_said to (clean.NotMigrated pk) retired = refl

-- a step of a cleaner over a told pair
abbrev pub CleanerSteps : State → Bool → Move → Pair → Pair → Type 0
CleanerSteps state retired m p q = ActorStep (state_facts state) (actor_facts m.after) retired (retired_where (Ok m.progress) retired) (EntryDoes m.entry) p q

pub cleaner_step : (state : State) (ask : StoreAsk) (answer : StoreReply) (m : Move) (p q : Pair) (retired : Bool) → CleanerFits state → IsContents p.old × IsContents p.new
    → Asks state ask → PairMeans ask answer p q → CleanerMoves state answer m → IsSound p → AllHold p retired (state_facts state) → CleanerSteps state retired m p q
cleaner_step state ask answer m p q retired fits contents asks means moves sound knows = subst (λ x. CleanerSteps state retired x p q) (sym moves.is) (by moves.said refl) where
  s : CleanerStep state moves.to retired p q
  s = cleaner_law state moves.to ask answer moves.said p q retired fits sound contents.0 contents.1 knows asks means moves.absorbs

  stepped : ActorStep (state_facts state) (state_facts moves.to) retired (retired_at retired moves.to) (EntryDoes None) p q
  stepped = record {
    sound = s.sound;
    grows = s.grows;
    knows = s.knows;
    apart = s.apart;
    stays = s.stays;
    retires = s.retires;
    does = λ key. ap (option_map as_row) (s.does key.pk key.rk);
  }

  is_so : retired_where (Ok (cleaner_move moves.to moves.said).progress) retired ≡ retired_at retired moves.to
  is_so = retired_said moves.to moves.said retired ∙ ap (λ b. cond b true retired) (sym (done_as_said state moves.to answer moves.said moves.absorbs)) ∙ sym (retired_done moves.to retired)

  so : ActorStep (state_facts state) (state_facts moves.to) retired (retired_where (Ok (cleaner_move moves.to moves.said).progress) retired) (EntryDoes None) p q
  so = subst (λ r. ActorStep (state_facts state) (state_facts moves.to) retired r (EntryDoes None) p q) (sym is_so) stepped

  so_at : (said : CleanProgress) → moves.said ≡ said → ActorStep (state_facts state) (state_facts moves.to) retired (retired_where (Ok (cleaner_move moves.to said).progress) retired) (EntryDoes None) p q
  so_at said e = subst (λ x. ActorStep (state_facts state) (state_facts moves.to) retired (retired_where (Ok (cleaner_move moves.to x).progress) retired) (EntryDoes None) p q) e so

  by : (said : CleanProgress) → moves.said ≡ said → CleanerSteps state retired (cleaner_move moves.to said) p q
  by clean.More e = so_at clean.More e
  by clean.Done e = so_at clean.Done e
  by clean.NotSealed e = so_at clean.NotSealed e
  by (clean.NotMigrated pk) e = so_at (clean.NotMigrated pk) e
