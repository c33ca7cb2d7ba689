-- The laws of a cleaner, in the words of its definitions.
use Rattle.std.proofs.Common.{◌≡◌, ℕ, ◌+◌, ◌*◌, ◌≤◌, Bool, true, false, List, length, None, sym, ap, subst, ◌∙◌}
use Rattle.std.specs.Prelude.{Ok}
use Rattle.mt_chain.specs.declared.ask.StoreAsk.{StoreAsk}
use Rattle.mt_chain.specs.declared.ask.StoreReply.{StoreReply}
use Rattle.mt_chain.specs.StoreCall.{IsContents}
use Rattle.mt_meta.specs.Logical.{Pair}
use Rattle.mt_meta.specs.Sound.{IsSound}
use Rattle.mt_meta.specs.Facts.{KnowsSwept}
use Rattle.mt_meta.specs.Steps.{AllHold, IsEmptied, PairMeans}
use Rattle.mt_clean.specs.declared.state.State.{State}
use Rattle.mt_clean.specs.declared.state.State.TheVariants as at
use Rattle.mt_clean.specs.declared.cleaner.CleanProgress.{CleanProgress}
use Rattle.mt_clean.specs.declared.cleaner.CleanProgress.TheVariants as progress
use Rattle.mt_clean.specs.Cleanings.{Asks, Absorbs, CleanerFits, says_done}
use Rattle.mt_clean.specs.Known.{state_facts}
use Rattle.mt_clean.specs.CleanerSteps.{CleanerStep}
use Rattle.mt_clean.specs.StepsLeft.{steps_left, Stands}
use Rattle.mt_clean.proofs.AloneLaw.{nears_end, begins_within}
use Rattle.mt_clean.proofs.CleanerLaw.{cleaner_law}
use Rattle.mt_clean.proofs.ToldLaws.{not_sealed_is_so, not_migrated_is_so, none_unmigrated, done_is_so, emptied_is_told}

-- each step of a cleaner keeps the pair sound, the table that clients see, and what every step is to keep; what it knows then holds; and the world is retired where it is done
pub steps_are_steps_of_an_actor : (state to : State) (a : StoreAsk) (r : StoreReply) (said : CleanProgress) (p q : Pair) (retired : Bool) → CleanerFits state → IsSound p → IsContents p.old → IsContents p.new
    → AllHold p retired (state_facts state) → Asks state a → PairMeans a r p q → Absorbs state r (Ok said) to → CleanerStep state to retired p q
steps_are_steps_of_an_actor = cleaner_law

-- what a cleaner knows when it is done: the world is retired
pub done_is_retired : (p : Pair) (retired : Bool) → AllHold p retired (state_facts at.Done) → retired ≡ true
done_is_retired p retired know = know.0

-- a cleaner says that it is done exactly where its first question has just shown that old is sealed and has no row
pub done_where_old_is_emptied : (state to : State) (a : StoreAsk) (r : StoreReply) (p q : Pair) → Asks state a → PairMeans a r p q → Absorbs state r (Ok progress.Done) to → (state ≡ at.Walk) × IsEmptied p
done_where_old_is_emptied state to a r p q asks means absorbs = done_is_so state r a p q asks means (sym (ap says_done absorbs.1))

pub emptied_old_is_done : (to : State) (a : StoreAsk) (r : StoreReply) (said : CleanProgress) (p q : Pair) → Asks at.Walk a → PairMeans a r p q → Absorbs at.Walk r (Ok said) to → IsEmptied p → says_done said ≡ true
emptied_old_is_done to a r said p q asks means absorbs h = ap says_done absorbs.1 ∙ emptied_is_told r a p q asks means h

-- a cleaner that says that old is not sealed has just seen that
pub not_sealed_was_seen : (state to : State) (a : StoreAsk) (r : StoreReply) (p q : Pair) → Asks state a → PairMeans a r p q → Absorbs state r (Ok progress.NotSealed) to → p.old.sealed ≡ false
not_sealed_was_seen state to a r p q asks means absorbs = not_sealed_is_so state r a p q asks means (sym absorbs.1)

-- where each partition of old is in new alone, no cleaner says that one is not
pub moved_is_migrated : (state to : State) (a : StoreAsk) (r : StoreReply) (pk : List ℕ) (p q : Pair) (retired : Bool) → AllHold p retired (state_facts state) → Asks state a → PairMeans a r p q → KnowsSwept p None
    → Absorbs state r (Ok (progress.NotMigrated pk)) to → ⊥
moved_is_migrated state to a r pk p q retired know asks means swept absorbs = none_unmigrated p pk swept (not_migrated_is_so state r a p q retired pk know asks means (sym absorbs.1))

-- a cleaner that acts alone comes nearer to its end with each step after which it goes on
pub steps_alone_near_the_end : (state to : State) (a : StoreAsk) (r : StoreReply) (p q : Pair) (retired : Bool) → CleanerFits state → IsSound p → IsContents p.old → IsContents p.new → AllHold p retired (state_facts state) → Stands p state
    → Asks state a → PairMeans a r p q → Absorbs state r (Ok progress.More) to → Stands q to × (steps_left to q + 1 ≤ steps_left state p)
steps_alone_near_the_end state to a r p q retired fits s old new know stands asks means absorbs =
    let h = nears_end state r a p q retired fits s old.rising new.rising know stands asks means (sym absorbs.1) in
    subst (λ x. Stands q x × (steps_left x q + 1 ≤ steps_left state p)) (sym absorbs.0) (h.stands, h.less)

-- so it stops within five steps for each row of the two stores, and five
pub few_steps_from_the_beginning : (p : Pair) → steps_left at.Walk p ≤ 5 * (length p.old.rows + length p.new.rows) + 4
few_steps_from_the_beginning = begins_within
