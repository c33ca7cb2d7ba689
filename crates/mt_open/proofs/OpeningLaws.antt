-- What was read of two stores is the pair that they tell.
use Rattle.std.proofs.Common.{◌≡◌, ap, Bool, List, Option, Some, None, refl, inl, inr, sym, subst, ◌∙◌, arith, Result, Ok, Err, IfSome}
use Rattle.mt_model.specs.declared.entity.Entity.{Entity}
use Rattle.mt_chain.specs.StoreCall.{Contents}
use Rattle.mt_chain.specs.Store.{Store, Onward, Same}
use Rattle.mt_meta.specs.Logical.{Pair, pair_of, ForPair}
use Rattle.mt_meta.proofs.PairLaws.{for_pair}
use Rattle.mt_open.specs.declared.reading.ReadFault.{ReadFault}
use Rattle.mt_open.specs.declared.reading.ReadFault.TheVariants as read
use Rattle.mt_open.specs.declared.opening.OpenFault.{OpenFault}
use Rattle.mt_open.specs.declared.opening.OpenFault.TheVariants as fault
use Rattle.mt_open.specs.Held.{Held}
use Rattle.mt_open.specs.Reading.{Passed, AsBefore}
use Rattle.mt_open.specs.Opening.{Stays, Finds, OpenShows, OpensPair, is_emptied, HoldsStore, fault_of}
use Rattle.mt_open.proofs.ReadingLaws.{onward_start}

-- the pair of two stores that were read
abbrev pub pair_held : Held → Held → Pair
pair_held a b = pair_of a.number b.number a.contents b.contents

same_of : (s t : Option Contents) → (P : Contents → Contents → Type 0) → ((before after : Contents) → P before after → after ≡ before) → Onward P s t → Onward Same s t
same_of s None P same o = tt
same_of None (Some after) P same o = o
same_of (Some before) (Some after) P same o = same before after o

passed_stays : (failed : Bool) (s t : Store) → Passed failed s t → AsBefore s t → Stays s t
passed_stays failed s t p same = record { number = p.number; calls = p.calls; faults = p.grew; contents = same }

-- a store of which nothing was asked
untouched : (s : Store) → Stays s s
untouched s = record { number = refl; calls = omega arith; faults = omega arith; contents = onward_start Same s.told (λ a. refl) }

held_stays : (s t : Store) (h : Held) → HoldsStore s (Ok h) t → Stays s t
held_stays s t h r = passed_stays _ s t r.passed (same_of s.told t.told (λ before after. (after ≡ before) × (h.contents ≡ before)) (λ before after both. both.0) r.shows.2)

-- what was read of a store that tells is what it tells
told_held : (s t : Store) (h : Held) → HoldsStore s (Ok h) t → IfSome t.told (λ c. h.contents ≡ c)
told_held s t h r = go s.told t.told r.shows.2 where
  go : (a b : Option Contents) → Onward (λ before after. (after ≡ before) × (h.contents ≡ before)) a b → IfSome b (λ c. h.contents ≡ c)
  go a None o = tt
  go None (Some after) o = absurd o
  go (Some before) (Some after) o = o.1 ∙ sym o.0

for_held : (s t : Store) (a b : Held) (P : Pair → Type 0) → a.number ≡ s.number → b.number ≡ t.number → IfSome s.told (λ c. a.contents ≡ c) → IfSome t.told (λ c. b.contents ≡ c) → P (pair_held a b) → ForPair s.number t.number s.told t.told P
for_held s t a b P m n low high holds = go s.told t.told low high where
  go : (x y : Option Contents) → IfSome x (λ c. a.contents ≡ c) → IfSome y (λ c. b.contents ≡ c) → ForPair s.number t.number x y P
  go None y low high = tt
  go (Some c) None low high = tt
  go (Some c) (Some d) low high = subst P (λ i. pair_of (m i) (n i) (low i) (high i)) holds

-- want of memory says nothing of the pair
nothing_found : (t t' : Store) → OpenShows (Err fault.NoMemory) t t'
nothing_found t t' = for_pair t.number t'.number t.told t'.told (λ p. Finds p (Err fault.NoMemory)) (λ a b low high. tt)

-- old was not read
pub old_not_read : (s s' t : Store) (why : ReadFault) → HoldsStore s (Err why) t → OpensPair s s' (Err (fault_of why)) t s'
old_not_read s s' t read.Failed r = record {
  old_stays = passed_stays _ s t r.passed r.shows;
  new_stays = untouched s';
  faults = inl (r.passed.faults, refl);
  called = tt;
  rising = tt;
  contents = tt;
  shows = tt;
}
old_not_read s s' t read.NoMemory r = record {
  old_stays = passed_stays _ s t r.passed r.shows;
  new_stays = untouched s';
  faults = (r.passed.faults, refl);
  called = tt;
  rising = tt;
  contents = tt;
  shows = nothing_found t s';
}

-- new was not read
pub new_not_read : (s s' t t' : Store) (a : Held) (why : ReadFault) → HoldsStore s (Ok a) t → HoldsStore s' (Err why) t' → OpensPair s s' (Err (fault_of why)) t t'
new_not_read s s' t t' a read.Failed low r = record {
  old_stays = held_stays s t a low;
  new_stays = passed_stays _ s' t' r.passed r.shows;
  faults = inr (low.passed.faults, r.passed.faults);
  called = tt;
  rising = tt;
  contents = tt;
  shows = tt;
}
new_not_read s s' t t' a read.NoMemory low r = record {
  old_stays = held_stays s t a low;
  new_stays = passed_stays _ s' t' r.passed r.shows;
  faults = (low.passed.faults, r.passed.faults);
  called = tt;
  rising = tt;
  contents = tt;
  shows = nothing_found t t';
}

-- both were read, and this was found of them
pub both_read : (s s' t t' : Store) (a b : Held) (r : Result (List Entity) OpenFault) → HoldsStore s (Ok a) t → HoldsStore s' (Ok b) t' → Finds (pair_held a b) r → OpensPair s s' r t t'
both_read s s' t t' a b (Ok es) low high found = record {
  old_stays = held_stays s t a low;
  new_stays = held_stays s' t' b high;
  faults = (low.passed.faults, high.passed.faults);
  called = (low.shows.1, high.shows.1);
  rising = found.1.rising;
  contents = (low.shows.3, high.shows.3);
  shows = for_held t t' a b (λ p. Finds p (Ok es)) low.shows.0 high.shows.0 (told_held s t a low) (told_held s' t' b high) found;
}
both_read s s' t t' a b (Err (fault.Damaged store key rule)) low high found = record {
  old_stays = held_stays s t a low;
  new_stays = held_stays s' t' b high;
  faults = (low.passed.faults, high.passed.faults);
  called = (low.shows.1, high.shows.1);
  rising = tt;
  contents = tt;
  shows = for_held t t' a b (λ p. Finds p (Err (fault.Damaged store key rule))) low.shows.0 high.shows.0 (told_held s t a low) (told_held s' t' b high) found;
}
both_read s s' t t' a b (Err fault.StoreFault) low high found = absurd found
both_read s s' t t' a b (Err fault.NoMemory) low high found = record {
  old_stays = held_stays s t a low;
  new_stays = held_stays s' t' b high;
  faults = (low.passed.faults, high.passed.faults);
  called = tt;
  rising = tt;
  contents = tt;
  shows = nothing_found t t';
}

-- where old tells, what was read of it tells whether it is sealed and has no row
pub told_emptied : (s t : Store) (h : Held) (emptied : Bool) → HoldsStore s (Ok h) t → emptied ≡ is_emptied h.contents → IfSome t.told (λ c. emptied ≡ is_emptied c)
told_emptied s t h emptied r is = go t.told (told_held s t h r) where
  go : (o : Option Contents) → IfSome o (λ c. h.contents ≡ c) → IfSome o (λ c. emptied ≡ is_emptied c)
  go None e = tt
  go (Some c) e = is ∙ ap is_emptied e
