-- From stores that may stop telling to a pair that is told.
use Rattle.std.proofs.Common.{◌≡◌, ◌∙◌, ◌⊎◌, ◌≤◌, true, refl, sym, ap, subst, arith, inl, inr, Option, Some, None, Result, Ok, Err}
use Rattle.std.specs.Prelude.{is_some, IfSome}
use Rattle.mt_chain.specs.declared.ask.Side.{Side}
use Rattle.mt_chain.specs.declared.ask.Side.TheVariants.{Old, New}
use Rattle.mt_chain.specs.declared.ask.Ask.{Ask}
use Rattle.mt_chain.specs.declared.ask.StoreAsk.{StoreAsk}
use Rattle.mt_chain.specs.declared.ask.StoreReply.{StoreReply}
use Rattle.mt_chain.specs.declared.ask.CallFault.{CallFault}
use Rattle.mt_chain.specs.declared.ask.CallFault.TheVariants as call_fault
use Rattle.mt_chain.specs.StoreCall.{Contents, IsContents}
use Rattle.mt_chain.specs.Store.{Store, Rose, Onward, Same}
use Rattle.mt_chain.specs.Asks.{Means, FitsAsk}
use Rattle.mt_meta.specs.Logical.{Pair}
use Rattle.mt_meta.specs.Steps.{PairMeans}
use Rattle.mt_scan.specs.PageSteps.{contents_on}
use Rattle.mt_meta.proofs.PairLaws.{for_pair as for_told, at_pair as at_told, map_pair as map_told}
use Rattle.mt_world.specs.Worlds.{WorldState, pair_of, ForPair, Tells}
use Rattle.mt_world.specs.Turns.{IsSameWorld, CallsOn}

-- ---- one store

-- what is said of the contents that a store tells
pub some_of : (P : Contents → Type 0) (o : Option Contents) (c : Contents) → o ≡ Some c → IfSome o P → P c
some_of P None c e h = absurd cc
some_of P (Some d) c e h = (let same : d ≡ c = cc in subst P same h)

-- where a store tells afterwards it told before
pub told_before : (P : Contents → Contents → Type 0) (s t : Option Contents) (b : Contents) → t ≡ Some b → Onward P s t → (a : Contents) × (s ≡ Some a) × P a b
told_before P s None b e h = absurd cc
told_before P None (Some c) b e h = absurd h
told_before P (Some a) (Some c) b e h = (let same : c ≡ b = cc in (a, refl, subst (P a) same h))

pub same_onward : (o : Option Contents) → Onward Same o o
same_onward None = tt
same_onward (Some c) = refl

pub stays_same : (s t : Store) → t ≡ s → Onward Same s.told t.told
stays_same s t e = subst (λ x. Onward Same s.told x.told) (sym e) (same_onward s.told)

some_from : (P : Contents → Contents → Type 0) (s t : Option Contents) → Onward P s t → is_some t ≡ true → is_some s ≡ true
some_from P s None h e = absurd cc
some_from P None (Some b) h e = absurd h
some_from P (Some a) (Some b) h e = refl

-- ---- both stores

pub for_pair : (w : WorldState) (P : Pair → Type 0) → ((a b : Contents) → w.old_store.told ≡ Some a → w.new_store.told ≡ Some b → P (pair_of w a b)) → ForPair w P
for_pair w P h = for_told w.old_store.number w.new_store.number w.old_store.told w.new_store.told P h

pub at_pair : (w : WorldState) (P : Pair → Type 0) (a b : Contents) → w.old_store.told ≡ Some a → w.new_store.told ≡ Some b → ForPair w P → P (pair_of w a b)
at_pair w P a b ea eb h = at_told w.old_store.number w.new_store.number w.old_store.told w.new_store.told P a b ea eb h

pub map_pair : (w : WorldState) (P Q : Pair → Type 0) → ((p : Pair) → P p → Q p) → ForPair w P → ForPair w Q
map_pair w P Q f h = map_told w.old_store.number w.new_store.number w.old_store.told w.new_store.told P Q f h

-- the same stores make the same pair
pub same_pair : (w w' : WorldState) → IsSameWorld w w' → (a b : Contents) → pair_of w' a b ≡ pair_of w a b
same_pair w w' same a b i = record { old_number = same.old_number i; new_number = same.new_number i; old = a; new = b }

-- ---- calls

-- neither store holds anything else than before
pub record IsQuiet (w w' : WorldState) : Type 0 where
  pub old : Onward Same w.old_store.told w'.old_store.told
  pub new : Onward Same w.new_store.told w'.new_store.told

pub quiet_tells : (w w' : WorldState) → IsQuiet w w' → Tells w' → Tells w
quiet_tells w w' quiet tells = record {
  old = some_from Same w.old_store.told w'.old_store.told quiet.old tells.old;
  new = some_from Same w.new_store.told w'.new_store.told quiet.new tells.new;
}

-- what the stores told before a call that they answered, and that they answered so
pub record Before (w : WorldState) (ask : StoreAsk) (r : StoreReply) (a' b' : Contents) : Type 0 where
  pub a : Contents
  pub b : Contents
  pub old : w.old_store.told ≡ Some a
  pub new : w.new_store.told ≡ Some b
  pub means : PairMeans ask r (pair_of w a b) (pair_of w a' b')
  -- the reply is of the kind that was asked for, and the store's rows rise
  pub fits : FitsAsk ask.ask r
  pub rises : IsContents (contents_on ask.side (pair_of w a' b'))
  -- the keys of what each store tells still rise
  pub contents : IsContents a × IsContents b → IsContents a' × IsContents b'

-- the reply of a call is of the kind that was asked for
pub call_fits : (s s' t t' : Store) (side : Side) (ask : Ask) (r : StoreReply) → CallsOn side s s' ask (Ok r) t t' → FitsAsk ask r
call_fits s s' t t' Old ask r h = h.0.shows.1
call_fits s s' t t' New ask r h = h.0.shows.1

same_told : (s t : Store) (b : Contents) → t ≡ s → t.told ≡ Some b → s.told ≡ Some b
same_told s t b e h = sym (ap (λ x. x.told) e) ∙ h

pub before : (w w' : WorldState) (side : Side) (ask : Ask) (r : StoreReply) (a' b' : Contents) → w'.old_store.told ≡ Some a' → w'.new_store.told ≡ Some b'
    → CallsOn side w.old_store w.new_store ask (Ok r) w'.old_store w'.new_store → Before w (record { side = side; ask = ask }) r a' b'
before w w' Old ask r a' b' ea eb h =
    let x = told_before (Means w.old_store.number ask r) w.old_store.told w'.old_store.told a' ea h.0.shows.2 in
    record { a = x.0; b = b'; old = x.1; new = same_told w.new_store w'.new_store b' h.1 eb; means = (x.2, refl); fits = h.0.shows.1; rises = some_of IsContents w'.old_store.told a' ea h.0.counted.contents; contents = λ c. (some_of IsContents w'.old_store.told a' ea h.0.counted.contents, c.1) }
before w w' New ask r a' b' ea eb h =
    let x = told_before (Means w.new_store.number ask r) w.new_store.told w'.new_store.told b' eb h.0.shows.2 in
    record { a = a'; b = x.0; old = same_told w.old_store w'.old_store a' h.1 ea; new = x.1; means = (x.2, refl); fits = h.0.shows.1; rises = some_of IsContents w'.new_store.told b' eb h.0.counted.contents; contents = λ c. (c.0, some_of IsContents w'.new_store.told b' eb h.0.counted.contents) }

pub called_tells : (w w' : WorldState) (side : Side) (ask : Ask) (r : StoreReply) → CallsOn side w.old_store w.new_store ask (Ok r) w'.old_store w'.new_store → Tells w' → Tells w
called_tells w w' Old ask r h tells = record {
  old = some_from (Means w.old_store.number ask r) w.old_store.told w'.old_store.told h.0.shows.2 tells.old;
  new = subst (λ x. is_some x.told ≡ true) h.1 tells.new;
}
called_tells w w' New ask r h tells = record {
  old = subst (λ x. is_some x.told ≡ true) h.1 tells.old;
  new = some_from (Means w.new_store.number ask r) w.new_store.told w'.new_store.told h.0.shows.2 tells.new;
}

-- a call that failed leaves what the stores hold
pub failed_quiet : (w w' : WorldState) (side : Side) (ask : Ask) → CallsOn side w.old_store w.new_store ask (Err call_fault.Failed) w'.old_store w'.new_store → IsQuiet w w'
failed_quiet w w' Old ask h = record { old = h.0.shows; new = stays_same w.new_store w'.new_store h.1 }
failed_quiet w w' New ask h = record { old = stays_same w.old_store w'.old_store h.1; new = h.0.shows }

pub failed_rose : (w w' : WorldState) (side : Side) (ask : Ask) → CallsOn side w.old_store w.new_store ask (Err call_fault.Failed) w'.old_store w'.new_store
    → Rose w.old_store.faults w'.old_store.faults ⊎ Rose w.new_store.faults w'.new_store.faults
failed_rose w w' Old ask h = inl h.0.faults
failed_rose w w' New ask h = inr h.0.faults

-- what calls keep of both stores
pub record IsCalled (s s' t t' : Store) : Type 0 where
  pub old_number : t.number ≡ s.number
  pub new_number : t'.number ≡ s'.number
  pub old_faults : s.faults ≤ t.faults
  pub new_faults : s'.faults ≤ t'.faults

pub called : (s s' t t' : Store) (side : Side) (ask : Ask) (r : Result StoreReply CallFault) → CallsOn side s s' ask r t t' → IsCalled s s' t t'
called s s' t t' Old ask r h = record { old_number = h.0.counted.number; new_number = ap (λ x. x.number) h.1; old_faults = h.0.counted.faults; new_faults = (let e : t'.faults ≡ s'.faults = ap (λ x. x.faults) h.1 in omega (arith, e)) }
called s s' t t' New ask r h = record { old_number = ap (λ x. x.number) h.1; new_number = h.0.counted.number; old_faults = (let e : t.faults ≡ s.faults = ap (λ x. x.faults) h.1 in omega (arith, e)); new_faults = h.0.counted.faults }

pub not_called : (s s' t t' : Store) → t ≡ s → t' ≡ s' → IsCalled s s' t t'
not_called s s' t t' e e' = record { old_number = ap (λ x. x.number) e; new_number = ap (λ x. x.number) e'; old_faults = (let k : t.faults ≡ s.faults = ap (λ x. x.faults) e in omega (arith, k)); new_faults = (let k : t'.faults ≡ s'.faults = ap (λ x. x.faults) e' in omega (arith, k)) }
