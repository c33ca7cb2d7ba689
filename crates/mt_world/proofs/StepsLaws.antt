-- Turns of a migrator or a cleaner, one after the other.
use Rattle.std.proofs.Common.{◌≡◌, ◌∙◌, ℕ, ◌+◌, ◌<◌, false, not, List, [], ◌∷◌, ◌++◌, length, refl, sym, ap, subst, arith, inl, inr, append_assoc, length-append, Option, None, Result, Ok, Err}
use Rattle.std.specs.Prelude.{MatchBool}
use Rattle.mt_history.specs.Kept.{has_room}
use Rattle.mt_history.specs.Weight.{need_of_move}
use Rattle.mt_world.specs.declared.actor.Actor.{Actor}
use Rattle.mt_world.specs.declared.actor.Actor.TheVariants.{Client, Migrator, Cleaner}
use Rattle.mt_world.specs.declared.actor.Progress.{Progress}
use Rattle.mt_world.specs.declared.actor.Progress.TheVariants.{More}
use Rattle.mt_world.specs.declared.actor.Stepped.{Stepped}
use Rattle.mt_world.specs.declared.actor.TurnFault.{TurnFault}
use Rattle.mt_world.specs.declared.actor.TurnFault.TheVariants.{StoreFault, HistoryFull, NoMemory}
use Rattle.mt_world.specs.Worlds.{WorldState, KeepsApart}
use Rattle.mt_world.specs.Moves.{NewEntry, Move, MigratorMoves, CleanerMoves, CanStep, actor_facts, need_of, retired_where}
use Rattle.mt_world.specs.Logs.{Adds, entries_with}
use Rattle.mt_world.specs.Turns.{Stage, stage_of, log_of, Moves, Turns, EitherRose}
use Rattle.mt_world.specs.WholeCalls.{Mark, MarkedTurn, end_of, AreMarksAt, is_client, StaysOfKind, is_at_end, TakesTurns, TakesSteps, entry_at_end, StepsAnswer}
use Rattle.mt_world.proofs.PairLaws.{failed_rose}
use Rattle.mt_world.proofs.TurnLaws.{moved, turn_retired}
use Rattle.mt_world.proofs.MigratorLaws.{migrator_ready, migrator_none}
use Rattle.mt_world.proofs.CleanerLaws.{cleaner_ready, cleaner_none}
use Rattle.mt_world.proofs.BesideLaws.{client_stays, migrator_stays, cleaner_stays}
use Rattle.mt_world.proofs.FinishLaws.{mark_of, mark_is, rose_from, calls_grow, then_same, same_room, entries_from}

-- ---- one turn

pub kind_self : (a : Actor) → StaysOfKind a a
kind_self (Client call) = (call, refl)
kind_self (Migrator state) = (state, refl)
kind_self (Cleaner state) = (state, refl)

kind_then : (a b c : Actor) → StaysOfKind a b → StaysOfKind b c → StaysOfKind a c
kind_then (Client call) b c first then = subst (λ x. StaysOfKind x c) first.1 then
kind_then (Migrator state) b c first then = subst (λ x. StaysOfKind x c) first.1 then
kind_then (Cleaner state) b c first then = subst (λ x. StaysOfKind x c) first.1 then

-- an actor stays of its kind
pub kind_after : (w w' : WorldState) (caller : ℕ) (a a' : Actor) (r : Result Progress TurnFault) (entry : Option NewEntry) → Turns w caller a r entry w' a' → StaysOfKind a a'
kind_after w w' caller (Client call) a' r entry t = client_stays w w' caller call a' r (entry, t)
kind_after w w' caller (Migrator state) a' (Ok progress) entry t = (migrator_ready state t.moves.1 (record { progress = progress; entry = entry; after = a' }) t.moves.4).0
kind_after w w' caller (Migrator state) a' (Err fault) entry t = (state, migrator_stays w w' caller state a' fault (entry, t))
kind_after w w' caller (Cleaner state) a' (Ok progress) entry t = (cleaner_ready state t.moves.1 (record { progress = progress; entry = entry; after = a' }) t.moves.4).0
kind_after w w' caller (Cleaner state) a' (Err fault) entry t = (state, cleaner_stays w w' caller state a' fault (entry, t))

-- a migrator or a cleaner may take its next turn exactly where it is not done
pub ready_after : (w w' : WorldState) (caller : ℕ) (a a' : Actor) (r : Result Progress TurnFault) (entry : Option NewEntry) → is_client a ≡ false → CanStep a → Turns w caller a r entry w' a' → MatchBool (is_at_end r) (CanStep a' → ⊥) (CanStep a')
ready_after w w' caller (Client call) a' r entry machine can t = absurd cc
ready_after w w' caller (Migrator state) a' (Ok progress) entry machine can t = (migrator_ready state t.moves.1 (record { progress = progress; entry = entry; after = a' }) t.moves.4).1
ready_after w w' caller (Migrator state) a' (Err fault) entry machine can t = subst CanStep (sym (migrator_stays w w' caller state a' fault (entry, t))) can
ready_after w w' caller (Cleaner state) a' (Ok progress) entry machine can t = (cleaner_ready state t.moves.1 (record { progress = progress; entry = entry; after = a' }) t.moves.4).1
ready_after w w' caller (Cleaner state) a' (Err fault) entry machine can t = subst CanStep (sym (cleaner_stays w w' caller state a' fault (entry, t))) can

same_kind : (a b : Actor) → StaysOfKind a b → is_client a ≡ false → is_client b ≡ false
same_kind (Client call) b kind machine = absurd cc
same_kind (Migrator state) b kind machine = subst (λ x. is_client x ≡ false) (sym kind.1) refl
same_kind (Cleaner state) b kind machine = subst (λ x. is_client x ≡ false) (sym kind.1) refl

-- ---- the turns so far

-- so many turns that went on: with turns from here on, they are turns from the beginning
pub record Along (w : WorldState) (caller : ℕ) (a : Actor) (taken : ℕ) (m : WorldState) (b : Actor) : Type 0 where
  pub marks : List Mark
  pub counted : taken ≡ length marks
  pub rest : (next : Mark) (more : List Mark) (r : Result Progress TurnFault) (w' : WorldState) (a' : Actor) → TakesTurns (next ∷ more) m caller b r w' a' → TakesTurns (marks ++ next ∷ more) w caller a r w' a'
  pub kind : StaysOfKind a b
  pub keeps : KeepsApart w (actor_facts a) m (actor_facts b)

pub along_none : (w : WorldState) (caller : ℕ) (a : Actor) → Along w caller a 0 w a
along_none w caller a = record { marks = []; counted = refl; rest = λ next more r w' a' t. t; kind = kind_self a; keeps = λ f stands. stands }

pub along_more : (w m m' : WorldState) (caller : ℕ) (a b b' : Actor) (taken : ℕ) (entry : Option NewEntry) → Along w caller a taken m b → Turns m caller b (Ok More) entry m' b' → Along w caller a (taken + 1) m' b'
along_more w m m' caller a b b' taken entry g t = record {
  marks = g.marks ++ mark_of m entry ∷ [];
  counted = (let n = g.counted in let longer = length-append g.marks (mark_of m entry ∷ []) in omega (arith, n, longer));
  rest = λ next more r w' a' f. subst (λ ms. TakesTurns ms w caller a r w' a') (sym (append_assoc g.marks (mark_of m entry ∷ []) (next ∷ more))) (g.rest (mark_of m entry) (next ∷ more) r w' a' (m', b', record { place = refl; turn = t }, f));
  kind = kind_then a b b' g.kind (kind_after m m' caller b b' (Ok More) entry t);
  keeps = λ f stands. t.keeps f (g.keeps f stands);
}

-- there is a turn left to take
pub under_still : (taken steps : ℕ) → taken < steps → (taken + 1 ≡ steps → ⊥) → taken + 1 < steps
under_still taken steps under other = omega (arith, under, other)

-- it is still a machine that can go on
pub still_ready : (w m m' : WorldState) (caller : ℕ) (a b b' : Actor) (taken : ℕ) (entry : Option NewEntry) → is_client a ≡ false → Along w caller a taken m b → CanStep b → Turns m caller b (Ok More) entry m' b' → CanStep b'
still_ready w m m' caller a b b' taken entry machine g can t = ready_after m m' caller b b' (Ok More) entry (same_kind a b g.kind machine) can t

-- the last turn
pub along_ends : (w m w' : WorldState) (caller : ℕ) (a b b' : Actor) (taken steps : ℕ) (s : Stepped) (entry : Option NewEntry) → is_client a ≡ false → Along w caller a taken m b → CanStep b → Turns m caller b s.came entry w' b' → s.taken ≡ taken + 1 → taken < steps → (s.came ≡ Ok More → s.taken ≡ steps) → TakesSteps w caller a steps s w' b'
along_ends w m w' caller a b b' taken steps s entry machine g can t counts under whole = record {
  marks = g.marks ++ mark_of m entry ∷ [];
  turns = g.rest (mark_of m entry) [] s.came w' b' (record { place = refl; turn = t });
  taken = (let n = g.counted in let longer = length-append g.marks (mark_of m entry ∷ []) in omega (arith, n, longer, counts));
  few = omega (arith, counts, under);
  whole = whole;
  kind = kind_then a b b' g.kind (kind_after m w' caller b b' s.came entry t);
  ready = ready_after m w' caller b b' s.came entry (same_kind a b g.kind machine) can t;
  knows = t.knows;
  keeps = λ f stands. t.keeps f (g.keeps f stands);
}

-- ---- what they come to

-- only a call that failed leaves an entry
entry_is : (c c' : Stage) (a a' : Actor) (r : Result Progress TurnFault) (entry : Option NewEntry) → is_client a ≡ false → Moves c a r entry c' a' → entry ≡ entry_at_end r
entry_is c c' (Client call) a' r entry machine m = absurd cc
entry_is c c' (Migrator state) a' (Ok progress) entry machine m =
    let b : MigratorMoves state m.1 (record { progress = progress; entry = entry; after = a' }) = m.4 in
    ap (λ (x : Move). x.entry) b.is ∙ migrator_none b.to b.said
entry_is c c' (Migrator state) a' (Err StoreFault) entry machine m = m.3
entry_is c c' (Migrator state) a' (Err HistoryFull) entry machine m = m.1
entry_is c c' (Migrator state) a' (Err NoMemory) entry machine m = m.1
entry_is c c' (Cleaner state) a' (Ok progress) entry machine m =
    let b : CleanerMoves state m.1 (record { progress = progress; entry = entry; after = a' }) = m.4 in
    ap (λ (x : Move). x.entry) b.is ∙ cleaner_none b.to b.said
entry_is c c' (Cleaner state) a' (Err StoreFault) entry machine m = m.3
entry_is c c' (Cleaner state) a' (Err HistoryFull) entry machine m = m.1
entry_is c c' (Cleaner state) a' (Err NoMemory) entry machine m = m.1

need_is : (a : Actor) → is_client a ≡ false → need_of a ≡ need_of_move
need_is (Client call) machine = absurd cc
need_is (Migrator state) machine = refl
need_is (Cleaner state) machine = refl

fault_rose : (w w' : WorldState) (caller : ℕ) (a a' : Actor) (r : Result Progress TurnFault) (entry : Option NewEntry) → Turns w caller a r entry w' a' → r ≡ Err StoreFault → EitherRose w w'
fault_rose w w' caller a a' r entry t is =
    let m = (subst (λ x. Turns w caller a x entry w' a') is t).moves in
    failed_rose w w' m.0.side m.0.ask m.2.on

-- one turn alone
one_answers : (m : Mark) (w w' : WorldState) (caller : ℕ) (a a' : Actor) (r : Result Progress TurnFault) → is_client a ≡ false → MarkedTurn m w caller a r w' a' → StepsAnswer w caller (m ∷ []) r w'
one_answers m w w' caller a a' r machine marked =
    let t = marked.turn in
    let k = moved (stage_of w) (stage_of w') a a' r m.entry t.moves in
    let is = entry_is (stage_of w) (stage_of w') a a' r m.entry machine t.moves in
    record {
      same = t.same;
      retired = t.retired ∙ sym (turn_retired (stage_of w) (stage_of w') a a' r m.entry w.retired t.moves);
      tells = t.tells;
      full = t.full ∙ ap (λ n. not (has_room w.history n)) (need_is a machine);
      marks_are = mark_is m (end_of w) (entry_at_end r) marked.place is;
      entries = t.adds.entries ∙ ap (entries_with w.history.entries w.numbers caller) is;
      cause = fault_rose w w' caller a a' r m.entry t;
      old_faults = k.old_faults;
      new_faults = k.new_faults;
      calls = calls_grow (stage_of w) (stage_of w') a a' r m.entry t.moves;
    }

-- a turn that goes on, and then the rest
then_answers : (m next : Mark) (marks : List Mark) (w v w' : WorldState) (caller : ℕ) (a b : Actor) (r : Result Progress TurnFault) → is_client a ≡ false → MarkedTurn m w caller a (Ok More) v b → StepsAnswer v caller (next ∷ marks) r w' → StepsAnswer w caller (m ∷ next ∷ marks) r w'
then_answers m next marks w v w' caller a b r machine marked rest =
    let t = marked.turn in
    let k = one_answers m w v caller a b (Ok More) machine marked in
    let none = entry_is (stage_of w) (stage_of v) a b (Ok More) m.entry machine t.moves in
    let adds = subst (λ e. Adds (log_of w) caller e (log_of v)) none t.adds in
    let ends : end_of v ≡ end_of w = ap (λ n. n + length v.history.entries) k.same.first ∙ ap (λ es. w.history.first + length es) k.entries in
    record {
      same = then_same w v w' k.same rest.same;
      retired = rest.retired ∙ ap (retired_where r) k.retired;
      tells = λ tells. k.tells (rest.tells tells);
      full = rest.full ∙ ap not (same_room v.history w.history need_of_move k.entries k.same.limit);
      marks_are = (mark_is m (end_of w) None marked.place none, subst (λ n. AreMarksAt n (entry_at_end r) (next ∷ marks)) ends rest.marks_are);
      entries = rest.entries ∙ entries_from (entry_at_end r) caller v.history.entries w.history.entries v.numbers w.numbers k.entries (adds.numbers caller);
      cause = λ is. elim (rest.cause is) as (λ _. EitherRose w w') [
        | inl rose ↦ inl (rose_from w.old_store.faults v.old_store.faults w'.old_store.faults k.old_faults rose)
        | inr rose ↦ inr (rose_from w.new_store.faults v.new_store.faults w'.new_store.faults k.new_faults rose)
      ];
      old_faults = (let x = k.old_faults in let y = rest.old_faults in omega (arith, x, y));
      new_faults = (let x = k.new_faults in let y = rest.new_faults in omega (arith, x, y));
      calls = (let x = k.calls in let y = rest.calls in omega (arith, x, y));
    }

-- some steps leave one entry at most, and that at their end
pub steps_answer : (marks : List Mark) (w w' : WorldState) (caller : ℕ) (a a' : Actor) (r : Result Progress TurnFault) → is_client a ≡ false → TakesTurns marks w caller a r w' a' → StepsAnswer w caller marks r w'
steps_answer [] w w' caller a a' r machine f = absurd f
steps_answer (m ∷ []) w w' caller a a' r machine f = one_answers m w w' caller a a' r machine f
steps_answer (m ∷ next ∷ marks) w w' caller a a' r machine f =
    let on = same_kind a f.1 (kind_after w f.0 caller a f.1 (Ok More) m.entry f.2.turn) machine in
    then_answers m next marks w f.0 w' caller a f.1 r machine f.2 (steps_answer (next ∷ marks) f.0 w' caller f.1 a' r on f.3)
