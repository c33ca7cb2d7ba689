-- A session over two open stores, and the depot that hands them out.
use Rattle.std.proofs.Common.{◌≡◌, ◌≢◌, ℕ, ◌+◌, ◌-◌, ◌^◌, ◌≤◌, min, Bool, true, false, cond, List, [], ◌++◌, length, Option, Some, None, Ok, Err, refl, sym, ap, ◌∙◌, arith, subst, inl, inr}
use Rattle.std.specs.Prelude.{Result, IfSome, ◌⊎◌, is_some, All}
use Rattle.std.proofs.lemmas.Bool.{cases_eq, cases_lt}
use Rattle.mt_io.specs.Ends.{Input, Output}
use Rattle.mt_chain.specs.StoreCall.{Contents}
use Rattle.mt_chain.specs.Store.{Store, Rose, Onward, Same}
use Rattle.mt_chain.specs.Shelf.{Shelf, HandedOut, SameBeside, TakesBack}
use Rattle.mt_chain.specs.Table.{IsListing}
use Rattle.mt_model.specs.declared.entity.Entity.{Entity}
use Rattle.mt_model.specs.declared.key.Key.{Key}
use Rattle.mt_history.specs.declared.entry.Entry.{Entry}
use Rattle.mt_meta.specs.Logical.{pair_of as pair_with, ForPair}
use Rattle.mt_meta.specs.Sound.{IsSound}
use Rattle.mt_meta.specs.Steps.{logical_table}
use Rattle.mt_world.specs.Worlds.{WorldState, Tells, IsReplayed, IsWorld, pair_of}
use Rattle.mt_open.specs.declared.opening.OpenFault.{OpenFault}
use Rattle.mt_open.specs.declared.opening.OpenFault.TheVariants as opening
use Rattle.mt_open.specs.Opening.{IsDamagedAt, OpenFaults, OpensPair}
use Rattle.mt_world.specs.Opening.{Opened}
use Rattle.mt_front.specs.declared.connection.End.TheVariants as end
use Rattle.mt_front.specs.declared.connection.End.{End}
use Rattle.mt_front.specs.declared.connection.Served.{Served as ServedTo}
use Rattle.mt_front.specs.declared.connection.ConnFault.{ConnFault}
use Rattle.mt_front.specs.declared.connection.ConnFault.TheVariants as conn
use Rattle.mt_world.specs.WholeCalls.{Mark}
use Rattle.mt_front.specs.Items.{Item, faults_of}
use Rattle.mt_front.specs.Answers.{FitsFrom, AreCausedTo, past_end}
use Rattle.mt_front.specs.Session.{Sent, Cut, Course, past_of, counts_of, MayBreak, SessionAs, EndsAs, Serves}
use Rattle.mt_front.proofs.CauseLaws.{caused_to_sum}
use Rattle.mt_front.proofs.FitLaws.{fits_sooner}
use Rattle.mt_top.specs.declared.running.Ending.{Ending}
use Rattle.mt_top.specs.declared.running.Ending.TheVariants.{Served, BadWords, ReadFault, WriteFault, StoreFault, Damaged, BadInput, NoMemory}
use Rattle.mt_top.specs.Lines.{damage_line}
use Rattle.mt_words.specs.declared.command.Common.{Common}
use Rattle.mt_words.specs.declared.command.Command.{Command}
use Rattle.mt_words.specs.declared.command.Command.TheVariants as command
use Rattle.mt_top.specs.Run.{Service, service_of, Along, Tellings, Idle, WhereTold, AllTell, IsOpened, IsReplay, BreaksAt, AtDamage, Wrote, FaultsRose, During, RunEnds, EndsSession, AskedEnds, depot_tellings}
use Rattle.mt_top.specs.Endings.{ending_at, ending_of, Refuses, tellings_of, Over}

-- ---- one store before and after

along : (P Q : Contents → Contents → Type 0) (x y : Option Contents) → ((a b : Contents) → P a b → Q a b) → Onward P x y → Along Q x y
along P Q None y f p = tt
along P Q (Some a) None f p = tt
along P Q (Some a) (Some b) f p = f a b p

same_along : (x : Option Contents) → Along Same x x
same_along None = tt
same_along (Some a) = refl

-- what opening found of two stores is so of what they told before, where they still tell after what came between
opened_along : (P : Contents → Contents → Type 0) (x x' m m' y y' : Option Contents) → Onward Same x m → Onward Same x' m' → (is_some y ≡ true → is_some m ≡ true) → (is_some y' ≡ true → is_some m' ≡ true)
    → IfSome m (λ b. IfSome m' (λ b'. P b b')) → IfSome x (λ a. IfSome x' (λ a'. IfSome y (λ b. IfSome y' (λ b'. P a a'))))
opened_along P None x' m m' y y' low high told told' h = tt
opened_along P (Some a) None m m' y y' low high told told' h = tt
opened_along P (Some a) (Some a') m m' None y' low high told told' h = tt
opened_along P (Some a) (Some a') m m' (Some b) None low high told told' h = tt
opened_along P (Some a) (Some a') None m' (Some b) (Some b') low high told told' h = absurd (let e : false ≡ true = told refl in cc)
opened_along P (Some a) (Some a') (Some c) None (Some b) (Some b') low high told told' h = absurd (let e : false ≡ true = told' refl in cc)
opened_along P (Some a) (Some a') (Some c) (Some c') (Some b) (Some b') low high told told' h = subst (λ v. P v a') low (subst (P c) high h)

-- ---- the world at the end

module _ (v : Service) (w : WorldState) (old_is : w.old_store.number ≡ v.old_number) (new_is : w.new_store.number ≡ v.new_number) where
  is_replay : (b b' : Contents) → IsReplayed w (pair_of w b b') → IsReplay v w b b'
  is_replay b b' r =
      subst (λ n. IsReplayed w (pair_with v.old_number n b b')) new_is (subst (λ n. IsReplayed w (pair_with n w.new_store.number b b')) old_is r)

  replayed_at : (x x' y y' : Option Contents) → IfSome y (λ b. IfSome y' (λ b'. IsReplayed w (pair_of w b b')))
      → IfSome x (λ a. IfSome x' (λ a'. IfSome y (λ b. IfSome y' (λ b'. IsReplay v w b b'))))
  replayed_at None x' y y' r = tt
  replayed_at (Some a) None y y' r = tt
  replayed_at (Some a) (Some a') None y' r = tt
  replayed_at (Some a) (Some a') (Some b) None r = tt
  replayed_at (Some a) (Some a') (Some b) (Some b') r = is_replay b b' r

-- ---- a session over both stores

wrote_at : (s : Input) (o : Output) (c : Course) (requests : ℕ) (e : End) (t : Input) (x : Output) → EndsAs s o c requests e t x → Wrote s o (ending_at e) c t x
wrote_at s o c requests end.Input t x e = inl e.0
wrote_at s o c requests end.Closed t x e = inr e.0
wrote_at s o c requests end.BadInput t x e = (e.0, e.1, e.2)

wrote : (s : Input) (o : Output) (c : Course) (r : Result ServedTo ConnFault) (t : Input) (x : Output) → SessionAs s o c r t x → Wrote s o (ending_of r) c t x
wrote s o c (Ok served) t x e = wrote_at s o c served.requests served.«end» t x e
wrote s o c (Err conn.ReadFault) t x e = e
wrote s o c (Err conn.WriteFault) t x e = e
wrote s o c (Err conn.NoMemory) t x e = e

at_end_during : (v : Service) (s : Input) (o : Output) (c : Tellings) (before now : ℕ) (e : End) (t : Input) (x : Output) → During v s o (ending_at e) c before now t x → RunEnds v s o (ending_at e) c before now t x
at_end_during v s o c before now end.Input t x d = d
at_end_during v s o c before now end.Closed t x d = d
at_end_during v s o c before now end.BadInput t x d = d

by_during : (v : Service) (s : Input) (o : Output) (c : Tellings) (before now : ℕ) (r : Result ServedTo ConnFault) (t : Input) (x : Output) → During v s o (ending_of r) c before now t x → RunEnds v s o (ending_of r) c before now t x
by_during v s o c before now (Ok served) t x d = at_end_during v s o c before now served.«end» t x d
by_during v s o c before now (Err conn.ReadFault) t x d = d
by_during v s o c before now (Err conn.WriteFault) t x d = d
by_during v s o c before now (Err conn.NoMemory) t x d = inr d

breaks_end : (e : End) (broken : List Mark) → broken ≡ [] → BreaksAt (ending_at e) broken
breaks_end end.Input broken h = h
breaks_end end.Closed broken h = h
breaks_end end.BadInput broken h = h

breaks_as : (r : Result ServedTo ConnFault) (broken : List Mark) → MayBreak r broken → BreaksAt (ending_of r) broken
breaks_as (Ok served) broken h = breaks_end served.«end» broken h
breaks_as (Err conn.ReadFault) broken h = h
breaks_as (Err conn.WriteFault) broken h = h
breaks_as (Err conn.NoMemory) broken h = tt

-- the counts of both stores together
caused_both : (k l : Store) (w w' : WorldState) (items : List Item) (broken : List Mark) → k.faults ≤ w.old_store.faults → l.faults ≤ w.new_store.faults → AreCausedTo (counts_of w) items broken (counts_of w') → FaultsRose (k.faults + l.faults) items (w'.old_store.faults + w'.new_store.faults)
caused_both k l w w' items broken p q h = elim (caused_to_sum (counts_of w) (counts_of w') items broken h) as (λ _. FaultsRose (k.faults + l.faults) items (w'.old_store.faults + w'.new_store.faults)) [
  | inl sum ↦ inl (omega (arith, p, q, sum))
  | inr (inl at) ↦ inr (omega (arith, at))
  | inr (inr at) ↦ inr (omega (arith, at))
]

module _ (common : Common) (s : Input) (o : Output) (k l : Store) (w : WorldState) (r : Result ServedTo ConnFault) (w' : WorldState) (t : Input) (x : Output) (zero : k.number ≡ 0) (one : l.number ≡ 1) (world : IsWorld w') where
  found : (base : List Entity) → base ≡ w.base → w.old_store.number ≡ 0 → w.new_store.number ≡ 1
      → ForPair w.old_store.number w.new_store.number w.old_store.told w.new_store.told (λ p. IsSound p × IsListing w.base (logical_table p))
      → ForPair 0 1 w.old_store.told w.new_store.told (λ p. IsSound p × IsListing base (logical_table p))
  found base same low high h =
      subst (λ es. ForPair 0 1 w.old_store.told w.new_store.told (λ p. IsSound p × IsListing es (logical_table p))) (sym same)
      (subst (λ n. ForPair 0 n w.old_store.told w.new_store.told (λ p. IsSound p × IsListing w.base (logical_table p))) high
      (subst (λ n. ForPair n w.new_store.number w.old_store.told w.new_store.told (λ p. IsSound p × IsListing w.base (logical_table p))) low h))

  during : Opened k l common.history w → Serves 0 common.table w s o r w' t x → During (service_of common) s o (ending_of r) (tellings_of k w'.old_store l w'.new_store) (k.faults + l.faults) (w'.old_store.faults + w'.new_store.faults) t x
  during opened served =
      let same = served.talk.same in
      let first : w'.history.first ≡ 0 = same.first ∙ opened.first in
      let started : past_end (past_of w) ≡ 0 = let n : length w.history.entries ≡ 0 = ap length opened.nothing in omega (arith, n, same.first, first) in
      record {
        course = served.course;
        world = w';
        world_is = record { limit = same.limit ∙ opened.limit; first = first };
        is_course = served.is_course;
        answered = record {
          rendered = served.talk.answered.rendered;
          fits = fits_sooner 0 (Tells w') (AllTell (tellings_of k w'.old_store l w'.new_store)) (λ a. record { old = a.old_after; new = a.new_after }) (past_of w') 0 served.course.items served.course.broken
              (subst (λ n. FitsFrom 0 (Tells w') (past_of w') n served.course.items served.course.broken) started served.talk.answered.fits);
        };
        breaks = breaks_as r served.course.broken served.breaks;
        own = subst (λ (es : List Entry). All (λ (e : Entry). e.caller ≡ 0) es) (sym (served.talk.added.grew ∙ ap (λ (es : List Entry). es ++ served.talk.added.more) opened.nothing)) served.talk.added.own;
        opened = opened_along (IsOpened (service_of common) w') k.told l.told w.old_store.told w.new_store.told w'.old_store.told w'.new_store.told opened.opens.old_stays.contents opened.opens.new_stays.contents served.talk.told.old_told served.talk.told.new_told
            (found w'.base same.base (opened.opens.old_stays.number ∙ zero) (opened.opens.new_stays.number ∙ one) opened.opens.shows);
        replayed = replayed_at (service_of common) w' (same.old_number ∙ opened.opens.old_stays.number ∙ zero) (same.new_number ∙ opened.opens.new_stays.number ∙ one) k.told l.told w'.old_store.told w'.new_store.told world.replayed;
        caused = caused_both k l w w' served.course.items served.course.broken opened.opens.old_stays.faults opened.opens.new_stays.faults served.talk.caused;
        wrote = wrote s o served.course r t x served.ends;
      }

  over_session : Opened k l common.history w → Serves 0 common.table w s o r w' t x → Over (service_of common) s o k l (ending_of r) t x w'.old_store w'.new_store
  over_session opened served = record {
    number = served.talk.same.old_number ∙ opened.opens.old_stays.number;
    number_new = served.talk.same.new_number ∙ opened.opens.new_stays.number;
    ends = by_during (service_of common) s o (tellings_of k w'.old_store l w'.new_store) (k.faults + l.faults) (w'.old_store.faults + w'.new_store.faults) r t x (during opened served);
  }

  pub over_served : (table : List ℕ) (ending : Ending) (k' l' : Store) → table ≡ common.table → ending ≡ ending_of r → k' ≡ w'.old_store → l' ≡ w'.new_store → Opened k l common.history w → Serves 0 table w s o r w' t x → Over (service_of common) s o k l ending t x k' l'
  over_served table ending k' l' table_is ending_is old_is new_is opened served =
      subst (λ n. Over (service_of common) s o k l n t x k' l') (sym ending_is)
      (subst (λ m. Over (service_of common) s o k l (ending_of r) t x m l') (sym old_is)
      (subst (λ m. Over (service_of common) s o k l (ending_of r) t x w'.old_store m) (sym new_is) (over_session opened (subst (λ n. Serves 0 n w s o r w' t x) table_is served))))

-- ---- stores that were not opened

module _ (common : Common) (s : Input) (o : Output) (k l k' l' : Store) (zero : k.number ≡ 0) (one : l.number ≡ 1) where
  idle_over : (x : Output) (f : OpenFault) → x ≡ o → OpensPair k l (Err f) k' l' → Idle s o (tellings_of k k' l l') s x
  idle_over x f same c = record {
    source = refl;
    sink = same;
    old_same = along Same Same k.told k'.told (λ a b p. p) c.old_stays.contents;
    new_same = along Same Same l.told l'.told (λ a b p. p) c.new_stays.contents;
  }

  rose_both : OpenFaults true k l k' l' → k.faults ≤ k'.faults → l.faults ≤ l'.faults → Rose (k.faults + l.faults) (k'.faults + l'.faults)
  rose_both (inl h) p q = let r : min (k.faults + 1) (2 ^ 64 - 1) ≤ k'.faults = h.0 in let g : min (k.faults + l.faults + 1) (2 ^ 64 - 1) ≤ k'.faults + l'.faults = omega (arith, r, p, q) in g
  rose_both (inr h) p q = let r : min (l.faults + 1) (2 ^ 64 - 1) ≤ l'.faults = h.1 in let g : min (k.faults + l.faults + 1) (2 ^ 64 - 1) ≤ k'.faults + l'.faults = omega (arith, r, p, q) in g

  damaged_at : (n : ℕ) (key : Key) (rule : ℕ) → k'.number ≡ 0 → l'.number ≡ 1 → ForPair k'.number l'.number k'.told l'.told (λ p. IsDamagedAt p n key rule) → ForPair 0 1 k'.told l'.told (λ p. IsDamagedAt p n key rule)
  damaged_at n key rule low high h =
      subst (λ m. ForPair 0 m k'.told l'.told (λ p. IsDamagedAt p n key rule)) high (subst (λ m. ForPair m l'.number k'.told l'.told (λ p. IsDamagedAt p n key rule)) low h)

  at_damage : (x : Output) (n : ℕ) (key : Key) (rule : ℕ) → Sent o (damage_line n key rule) x ⊎ Cut o (damage_line n key rule) x → OpensPair k l (Err (opening.Damaged n key rule)) k' l' → AtDamage (service_of common) s o (tellings_of k k' l l') s x
  at_damage x n key rule said c = record {
    store = n;
    key = key;
    rule = rule;
    source = refl;
    wrote = said;
    old_same = along Same Same k.told k'.told (λ a b p. p) c.old_stays.contents;
    new_same = along Same Same l.told l'.told (λ a b p. p) c.new_stays.contents;
    damaged = opened_along (λ a a'. IsDamagedAt (pair_with 0 1 a a') n key rule) k.told l.told k'.told l'.told k'.told l'.told c.old_stays.contents c.new_stays.contents (λ e. e) (λ e. e)
        (damaged_at n key rule (c.old_stays.number ∙ zero) (c.new_stays.number ∙ one) c.shows);
  }

  refused_ends : (f : OpenFault) (ending : Ending) (x : Output) → Refuses o f ending x → OpensPair k l (Err f) k' l' → RunEnds (service_of common) s o ending (tellings_of k k' l l') (k.faults + l.faults) (k'.faults + l'.faults) s x
  refused_ends (opening.Damaged n key rule) ending x (inl h) c = subst (λ e. RunEnds (service_of common) s o e (tellings_of k k' l l') (k.faults + l.faults) (k'.faults + l'.faults) s x) (sym h.0) (at_damage x n key rule h.1 c)
  refused_ends (opening.Damaged n key rule) ending x (inr h) c = subst (λ e. RunEnds (service_of common) s o e (tellings_of k k' l l') (k.faults + l.faults) (k'.faults + l'.faults) s x) (sym h.0) (inl (idle_over x (opening.Damaged n key rule) h.1 c))
  refused_ends opening.StoreFault ending x h c = subst (λ e. RunEnds (service_of common) s o e (tellings_of k k' l l') (k.faults + l.faults) (k'.faults + l'.faults) s x) (sym h.0) (idle_over x opening.StoreFault h.1 c, rose_both c.faults c.old_stays.faults c.new_stays.faults)
  refused_ends opening.NoMemory ending x h c = subst (λ e. RunEnds (service_of common) s o e (tellings_of k k' l l') (k.faults + l.faults) (k'.faults + l'.faults) s x) (sym h.0) (inl (idle_over x opening.NoMemory h.1 c))

  pub over_refused : (f : OpenFault) (ending : Ending) (x : Output) → Refuses o f ending x → OpensPair k l (Err f) k' l' → Over (service_of common) s o k l ending s x k' l'
  over_refused f ending x said c = record { number = c.old_stays.number; number_new = c.new_stays.number; ends = refused_ends f ending x said c }

-- ---- a depot tells of its stores no more than they do

abbrev pub TellsLess : Option Contents → Option Contents → Type 0
TellsLess less more = IfSome less (λ c. more ≡ Some c)

less_self : (x : Option Contents) → TellsLess x x
less_self None = tt
less_self (Some a) = refl

-- a store that came back, into a depot that tells or does not
back_less : (z y : Option Contents) (tells : Bool) → z ≡ cond tells y None → TellsLess z y
back_less z y true e = subst (λ v. TellsLess v y) (sym e) (less_self y)
back_less z y false e = subst (λ v. TellsLess v y) (sym e) tt

along_less : (P : Contents → Contents → Type 0) (x y x' y' : Option Contents) → TellsLess x' x → TellsLess y' y → Along P x y → Along P x' y'
along_less P x y None y' f g p = tt
along_less P x y (Some a) None f g p = tt
along_less P x y (Some a) (Some b) f g p = subst (λ z. Along P z (Some b)) f (subst (λ z. Along P x z) g p)

some_less : (x x' : Option Contents) → TellsLess x' x → is_some x' ≡ true → is_some x ≡ true
some_less x None f e = absurd (let h : false ≡ true = e in cc)
some_less x (Some a) f e = ap is_some f

all_less : (Q : Contents → Contents → Contents → Contents → Type 0) (x y z u x' y' z' u' : Option Contents) → TellsLess x' x → TellsLess y' y → TellsLess z' z → TellsLess u' u
    → IfSome x (λ a. IfSome y (λ a'. IfSome z (λ b. IfSome u (λ b'. Q a a' b b')))) → IfSome x' (λ a. IfSome y' (λ a'. IfSome z' (λ b. IfSome u' (λ b'. Q a a' b b'))))
all_less Q x y z u None y' z' u' f g h i p = tt
all_less Q x y z u (Some a) None z' u' f g h i p = tt
all_less Q x y z u (Some a) (Some a') None u' f g h i p = tt
all_less Q x y z u (Some a) (Some a') (Some b) None f g h i p = tt
all_less Q x y z u (Some a) (Some a') (Some b) (Some b') f g h i p =
    let one : IfSome y (λ m. IfSome z (λ m'. IfSome u (λ n. Q a m m' n))) = subst (λ v. IfSome v (λ c. IfSome y (λ m. IfSome z (λ m'. IfSome u (λ n. Q c m m' n))))) f p in
    let two : IfSome z (λ m'. IfSome u (λ n. Q a a' m' n)) = subst (λ v. IfSome v (λ m. IfSome z (λ m'. IfSome u (λ n. Q a m m' n)))) g one in
    let three : IfSome u (λ n. Q a a' b n) = subst (λ v. IfSome v (λ m'. IfSome u (λ n. Q a a' m' n))) h two in
    subst (λ v. IfSome v (λ n. Q a a' b n)) i three

pub record Less (c c' : Tellings) : Type 0 where
  pub old_before : TellsLess c'.old_before c.old_before
  pub old_after : TellsLess c'.old_after c.old_after
  pub new_before : TellsLess c'.new_before c.new_before
  pub new_after : TellsLess c'.new_after c.new_after

-- ---- what is so over the stores is so over the depot

module _ (common : Common) (s : Input) (o : Output) (c c' : Tellings) (t : Input) (x : Output) (less : Less c c') (b n b' n' : ℕ) (zero : b ≡ 0) (grew : min (b' + n) (2 ^ 64 - 1) ≤ n') where
  carried_caused : (es : List Item) → FaultsRose b es n → FaultsRose b' es n'
  carried_caused es (inl h) = elim (cases_lt n' (2 ^ 64 - 1)) as (λ _. (b' + faults_of es ≤ n') ⊎ (2 ^ 64 - 1 ≤ n')) [
    | inl lt ↦ inl (omega (arith, h, lt, grew))
    | inr ge ↦ inr ge
  ]
  carried_caused es (inr h) = inr (omega (arith, h, grew))

  carried_rose : Rose b n → Rose b' n'
  carried_rose h = let r : min (b + 1) (2 ^ 64 - 1) ≤ n = h in let g : min (b' + 1) (2 ^ 64 - 1) ≤ n' = omega (arith, r, zero, grew) in g

  carried_told : (Q : Contents → Contents → Contents → Contents → Type 0) → WhereTold c Q → WhereTold c' Q
  carried_told Q h = all_less Q c.old_before c.new_before c.old_after c.new_after c'.old_before c'.new_before c'.old_after c'.new_after less.old_before less.new_before less.old_after less.new_after h

  carried_during : (ending : Ending) → During (service_of common) s o ending c b n t x → During (service_of common) s o ending c' b' n' t x
  carried_during ending d = record {
    course = d.course;
    world = d.world;
    world_is = d.world_is;
    is_course = d.is_course;
    answered = record {
      rendered = d.answered.rendered;
      fits = fits_sooner 0 (AllTell c) (AllTell c') (λ a. record {
        old_before = some_less c.old_before c'.old_before less.old_before a.old_before;
        old_after = some_less c.old_after c'.old_after less.old_after a.old_after;
        new_before = some_less c.new_before c'.new_before less.new_before a.new_before;
        new_after = some_less c.new_after c'.new_after less.new_after a.new_after;
      }) (past_of d.world) 0 d.course.items d.course.broken d.answered.fits;
    };
    breaks = d.breaks;
    own = d.own;
    opened = carried_told (λ a a' b b'. IsOpened (service_of common) d.world a a') d.opened;
    replayed = carried_told (λ a a' b b'. IsReplay (service_of common) d.world b b') d.replayed;
    caused = carried_caused d.course.items d.caused;
    wrote = d.wrote;
  }

  carried_idle : Idle s o c t x → Idle s o c' t x
  carried_idle i = record {
    source = i.source;
    sink = i.sink;
    old_same = along_less Same c.old_before c.old_after c'.old_before c'.old_after less.old_before less.old_after i.old_same;
    new_same = along_less Same c.new_before c.new_after c'.new_before c'.new_after less.new_before less.new_after i.new_same;
  }

  carried_or : Idle s o c t x ⊎ During (service_of common) s o NoMemory c b n t x → Idle s o c' t x ⊎ During (service_of common) s o NoMemory c' b' n' t x
  carried_or (inl i) = inl (carried_idle i)
  carried_or (inr d) = inr (carried_during NoMemory d)

  carried_damage : AtDamage (service_of common) s o c t x → AtDamage (service_of common) s o c' t x
  carried_damage d = record {
    store = d.store;
    key = d.key;
    rule = d.rule;
    source = d.source;
    wrote = d.wrote;
    old_same = along_less Same c.old_before c.old_after c'.old_before c'.old_after less.old_before less.old_after d.old_same;
    new_same = along_less Same c.new_before c.new_after c'.new_before c'.new_after less.new_before less.new_after d.new_same;
    damaged = carried_told (λ a a' b b'. IsDamagedAt (pair_with 0 1 a a') d.store d.key d.rule) d.damaged;
  }

  carried : (ending : Ending) → RunEnds (service_of common) s o ending c b n t x → RunEnds (service_of common) s o ending c' b' n' t x
  carried Served e = carried_during Served e
  carried BadWords e = absurd e
  carried ReadFault e = carried_during ReadFault e
  carried WriteFault e = carried_during WriteFault e
  carried StoreFault e = (carried_idle e.0, carried_rose e.1)
  carried Damaged e = carried_damage e
  carried BadInput e = carried_during BadInput e
  carried NoMemory e = carried_or e

pub over_depot_law : (common : Common) (s : Input) (o : Output) (d d1 d2 d3 d4 : Shelf) (k l k' l' : Store) (ending : Ending) (t : Input) (x : Output)
    → HandedOut d 0 k d1 → HandedOut d1 1 l d2 → Over (service_of common) s o k l ending t x k' l' → TakesBack d2 k' d3 → TakesBack d3 l' d4 → EndsSession (service_of common) s o d ending t x d4
over_depot_law common s o d d1 d2 d3 d4 k l k' l' ending t x a b over p q =
    let none : k.faults + l.faults ≡ 0 = omega (arith, a.clean, b.clean) in
    let sum : min (d.faults + (k'.faults + l'.faults)) (2 ^ 64 - 1) ≤ d4.faults = omega (arith, a.faults, b.faults, p.faults, q.faults) in
    let zero : k'.number ≡ 0 = over.number ∙ a.number in
    let one : l'.number ≡ 1 = over.number_new ∙ b.number in
    let pz : SameBeside 0 d2 d3 = subst (λ n. SameBeside n d2 d3) zero p.beside in
    let qo : SameBeside 1 d3 d4 = subst (λ n. SameBeside n d3 d4) one q.beside in
    let zero_in : d3.out 0 ≡ false = subst (λ n. d3.out n ≡ false) zero p.in_again in
    let one_in : d4.out 1 ≡ false = subst (λ n. d4.out n ≡ false) one q.in_again in
    let ne01 : 0 ≢ 1 = λ e. omega (arith, e) in
    let ne10 : 1 ≢ 0 = λ e. omega (arith, e) in
    let told0 : d4.told 0 ≡ cond d2.tells k'.told None = qo.told 0 ne01 ∙ subst (λ n. d3.told n ≡ cond d2.tells k'.told None) zero p.told in
    let told1 : d4.told 1 ≡ cond d3.tells l'.told None = subst (λ n. d4.told n ≡ cond d3.tells l'.told None) one q.told in
    let before1 : TellsLess (d.told 1) l.told = subst (λ z. TellsLess z l.told) (a.beside.told 1 ne10) b.told in
    record {
      ends = carried common s o (tellings_of k k' l l') (depot_tellings d d4) t x
          (record { old_before = a.told; old_after = back_less (d4.told 0) k'.told d2.tells told0; new_before = before1; new_after = back_less (d4.told 1) l'.told d3.tells told1 })
          (k.faults + l.faults) (k'.faults + l'.faults) d.faults d4.faults none sum ending over.ends;
      back = record {
        tells = qo.tells ∙ pz.tells ∙ b.beside.tells ∙ a.beside.tells;
        out = λ n was. elim (cases_eq n 1) as (λ _. d4.out n ≡ false) [
          | inl e ↦ subst (λ m. d4.out m ≡ false) (sym e) one_in
          | inr ne ↦ qo.out n ne ∙ elim (cases_eq n 0) as (λ _. d3.out n ≡ false) [
            | inl e ↦ subst (λ m. d3.out m ≡ false) (sym e) zero_in
            | inr nz ↦ pz.out n nz ∙ b.beside.out n ne ∙ a.beside.out n nz ∙ was
          ]
        ];
        others = λ n nz ne. qo.told n ne ∙ pz.told n nz ∙ b.beside.told n ne ∙ a.beside.told n nz;
      };
    }

-- ---- a run that finds no memory before it opens a store

pub wants_memory : (asked : Command) (s : Input) (o : Output) (d : Shelf) → AskedEnds (Some asked) s o d NoMemory s o d
wants_memory (command.Session common) s o d = record {
  ends = inl (record { source = refl; sink = refl; old_same = same_along (d.told 0); new_same = same_along (d.told 1) });
  back = record { tells = refl; out = λ n was. was; others = λ n nz ne. refl };
}
wants_memory (command.Drill number events common) s o d = (record { source = refl; depot = refl }, inr (refl, refl))
wants_memory command.Help s o d = (record { source = refl; depot = refl }, inr (refl, refl))
