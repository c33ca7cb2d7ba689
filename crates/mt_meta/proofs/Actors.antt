-- Laws of the steps of actors, which know no machine.
use Rattle.std.proofs.Common.{◌≡◌, ℕ, ◌<◌, Bool, true, List, [], ◌∷◌, sym, subst, ◌∙◌, arith, inl, inr}
use Rattle.mt_model.specs.declared.tag.Tag.{Tag}
use Rattle.mt_chain.specs.declared.ask.Side.{Side}
use Rattle.mt_chain.specs.declared.row.StoredRow.{StoredRow}
use Rattle.mt_meta.specs.declared.fact.Keys.{Keys}
use Rattle.mt_meta.specs.declared.fact.Fact.{Fact}
use Rattle.mt_meta.specs.declared.fact.Fact.TheVariants.{Row, Kept, Begun, There, Turned, Closed, Moved, Epoch, Clean, Swept, Retired}
use Rattle.mt_meta.specs.Markers.{marker_key}
use Rattle.mt_meta.specs.Logical.{Pair}
use Rattle.mt_meta.specs.Sound.{IsSound}
use Rattle.mt_meta.specs.Facts.{Holds, Apart, ApartFrom, IsPlain, AllPlain, Grows}
use Rattle.mt_meta.specs.Steps.{row_facts, IsEmptied, ActorStep, IsFresh, IsGiven}
use Rattle.mt_meta.proofs.Growth.{fact_kept}

-- ---- facts that are apart

-- a fact that speaks of no epoch is apart from each fact
pub plain_left : (f g : Fact) → IsPlain f → Apart f g
plain_left (Row a b c d e) g h = tt
plain_left (Kept a b c) g h = tt
plain_left (Begun a) g h = tt
plain_left (There a) g h = tt
plain_left (Turned a b c) g h = tt
plain_left (Closed a b) g h = tt
plain_left (Moved a) g h = tt
plain_left (Epoch a b c) g h = absurd h
plain_left (Clean a b c) g h = tt
plain_left (Swept a) g h = tt
plain_left Retired g h = tt

-- and each fact is apart from it
epoch_right : (pk : List ℕ) (tag : Tag) (part : Keys) (g : Fact) → IsPlain g → Apart (Epoch pk tag part) g
epoch_right pk tag part (Row a b c d e) h = tt
epoch_right pk tag part (Kept a b c) h = tt
epoch_right pk tag part (Begun a) h = tt
epoch_right pk tag part (There a) h = tt
epoch_right pk tag part (Turned a b c) h = tt
epoch_right pk tag part (Closed a b) h = tt
epoch_right pk tag part (Moved a) h = tt
epoch_right pk tag part (Epoch a b c) h = absurd h
epoch_right pk tag part (Clean a b c) h = tt
epoch_right pk tag part (Swept a) h = tt
epoch_right pk tag part Retired h = tt

pub plain_right : (f g : Fact) → IsPlain g → Apart f g
plain_right (Epoch pk tag part) g h = epoch_right pk tag part g h
plain_right (Row a b c d e) g h = tt
plain_right (Kept a b c) g h = tt
plain_right (Begun a) g h = tt
plain_right (There a) g h = tt
plain_right (Turned a b c) g h = tt
plain_right (Closed a b) g h = tt
plain_right (Moved a) g h = tt
plain_right (Clean a b c) g h = tt
plain_right (Swept a) g h = tt
plain_right Retired g h = tt

-- each fact is apart from facts that speak of no epoch
pub plain_apart : (f : Fact) (own : List Fact) → AllPlain own → ApartFrom f own
plain_apart f [] h = tt
plain_apart f (g ∷ own) h = (plain_right f g h.0, plain_apart f own h.1)

-- rows that an actor read speak of no epoch
pub plain_rows : (side : Side) (pk : List ℕ) (rows : List StoredRow) → AllPlain (row_facts side pk rows)
plain_rows side pk [] = tt
plain_rows side pk (r ∷ rows) = (tt, plain_rows side pk rows)

-- of two facts neither is apart from the other alone
pub apart_symmetric : (f g : Fact) → Apart f g → Apart g f
apart_symmetric (Epoch a b c) (Epoch a' b' c') h = λ e t. h (sym e) (sym t)
apart_symmetric (Epoch pk tag part) (Row a b c d e) h = tt
apart_symmetric (Epoch pk tag part) (Kept a b c) h = tt
apart_symmetric (Epoch pk tag part) (Begun a) h = tt
apart_symmetric (Epoch pk tag part) (There a) h = tt
apart_symmetric (Epoch pk tag part) (Turned a b c) h = tt
apart_symmetric (Epoch pk tag part) (Closed a b) h = tt
apart_symmetric (Epoch pk tag part) (Moved a) h = tt
apart_symmetric (Epoch pk tag part) (Clean a b c) h = tt
apart_symmetric (Epoch pk tag part) (Swept a) h = tt
apart_symmetric (Epoch pk tag part) Retired h = tt
apart_symmetric (Row a b c d e) g h = plain_right g (Row a b c d e) tt
apart_symmetric (Kept a b c) g h = plain_right g (Kept a b c) tt
apart_symmetric (Begun a) g h = plain_right g (Begun a) tt
apart_symmetric (There a) g h = plain_right g (There a) tt
apart_symmetric (Turned a b c) g h = plain_right g (Turned a b c) tt
apart_symmetric (Closed a b) g h = plain_right g (Closed a b) tt
apart_symmetric (Moved a) g h = plain_right g (Moved a) tt
apart_symmetric (Clean a b c) g h = plain_right g (Clean a b c) tt
apart_symmetric (Swept a) g h = plain_right g (Swept a) tt
apart_symmetric Retired g h = plain_right g Retired tt

-- ---- what a step leaves to others

-- a fact that holds and is apart from the actor's facts holds after its step, and is apart from those that it has then
pub others_kept : (own own' : List Fact) (retired retired' : Bool) (Does : Pair → Pair → Type 0) (p q : Pair)
    → ActorStep own own' retired retired' Does p q → IsSound p → (f : Fact) → Holds p retired f → ApartFrom f own → Holds q retired' f × ApartFrom f own'
others_kept own own' retired retired' Does p q step sound f holds apart =
    (fact_kept own p q retired retired' sound step.sound step.grows step.stays f holds apart, step.apart f holds apart)

-- an old store that is sealed and empty stays so
pub emptied_on : (own : List Fact) (p q : Pair) → Grows own p q → IsEmptied p → IsEmptied q
emptied_on own p q grows h = record {
  sealed = grows.sealed h.sealed;
  rows = λ pk rk. grows.births h.sealed pk (h.rows pk marker_key) rk;
}

-- where a retired world has an old store that is sealed and empty, it has one after the step too
pub retired_on : (own own' : List Fact) (retired retired' : Bool) (Does : Pair → Pair → Type 0) (p q : Pair)
    → ActorStep own own' retired retired' Does p q → (retired ≡ true → IsEmptied p) → retired' ≡ true → IsEmptied q
retired_on own own' retired retired' Does p q step before after = elim (step.retires after) as (λ _. IsEmptied q) [
  | inl was ↦ emptied_on own p q step.grows (before was)
  | inr now ↦ now
]

-- ---- the tags that stores gave

-- what a store gave stays given
pub given_on : (own : List Fact) (p q : Pair) (tag : Tag) → Grows own p q → IsGiven p tag → IsGiven q tag
given_on own p q tag grows (inl old) = inl (old.0 ∙ sym grows.numbers.0, omega (arith, old.1, grows.old.counter))
given_on own p q tag grows (inr (inl new)) = inr (inl (new.0 ∙ sym grows.numbers.1, omega (arith, new.1, grows.new.counter)))
given_on own p q tag grows (inr (inr below)) = inr (inr (subst (λ n. tag.store < n) (sym grows.numbers.0) below))

-- a fresh tag is given
pub fresh_given : (own : List Fact) (p q : Pair) (tag : Tag) → Grows own p q → IsFresh p q tag → IsGiven q tag
fresh_given own p q tag grows (inl old) = inl (old.store_is ∙ sym grows.numbers.0, old.within)
fresh_given own p q tag grows (inr new) = inr (inl (new.store_is ∙ sym grows.numbers.1, new.within))

-- a fresh tag was not given before
pub not_given : (p q : Pair) (tag : Tag) → p.old_number < p.new_number → IsFresh p q tag → IsGiven p tag → ⊥
not_given p q tag lower (inl fresh) (inl old) = omega (arith, fresh.above, old.1)
not_given p q tag lower (inl fresh) (inr (inl new)) = (let e = fresh.store_is in let f = new.0 in omega (arith, e, f, lower))
not_given p q tag lower (inl fresh) (inr (inr below)) = (let e = fresh.store_is in omega (arith, e, below))
not_given p q tag lower (inr fresh) (inl old) = (let e = fresh.store_is in let f = old.0 in omega (arith, e, f, lower))
not_given p q tag lower (inr fresh) (inr (inl new)) = omega (arith, fresh.above, new.1)
not_given p q tag lower (inr fresh) (inr (inr below)) = (let e = fresh.store_is in omega (arith, e, below, lower))
