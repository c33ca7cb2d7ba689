-- How a request came out over a world.
use Rattle.std.proofs.Common.{◌≡◌, ℕ, ◌-◌, true, false, List, [], ◌∷◌, Option, Some, None, Ok, Err, refl, sym, ap, ◌∙◌, arith, subst, append-nil}
use Rattle.std.specs.Prelude.{All, Bool, not, Result, IfSome, ◌++◌}
use Rattle.std.specs.List.{AllByRecursion, list_any}
use Rattle.std.specs.Option.{option_to_list}
use Rattle.std.proofs.lemmas.List.{drop_all}
use Rattle.std.proofs.lemmas.List.Elements.{All-nil, All-cons}
use Rattle.mt_chain.specs.declared.op.Op.{Op}
use Rattle.mt_filter.specs.declared.filter.Filter.{Filter}
use Rattle.mt_history.specs.declared.entry.Entry.{Entry}
use Rattle.mt_history.specs.declared.entry.What.TheVariants as what
use Rattle.mt_history.specs.Kept.{has_room}
use Rattle.mt_scan.specs.declared.unit.Unit.{Unit as PageUnit}
use Rattle.mt_scan.specs.declared.unit.Unit.TheVariants.{Scan, Gap}
use Rattle.mt_scan.specs.Units.{IsEntryOf}
use Rattle.mt_scan.specs.Streams.{Step}
use Rattle.mt_world.specs.declared.actor.Request.{Request}
use Rattle.mt_world.specs.declared.actor.Request.TheVariants as request
use Rattle.mt_world.specs.declared.actor.Actor.TheVariants.{Client}
use Rattle.mt_world.specs.declared.actor.Answer.{Answer}
use Rattle.mt_world.specs.declared.actor.Answer.TheVariants as answer
use Rattle.mt_world.specs.declared.actor.TurnFault.{TurnFault}
use Rattle.mt_world.specs.declared.actor.TurnFault.TheVariants as fault
use Rattle.mt_world.specs.Worlds.{WorldState, Tells}
use Rattle.mt_world.specs.Moves.{NewEntry, fault_entry}
use Rattle.mt_world.specs.Turns.{EitherRose}
use Rattle.mt_world.specs.Turns as turns
use Rattle.mt_world.specs.WholeCalls.{Mark, batch_entry, query_entry}
use Rattle.mt_world.specs.PageCalls.{AreStepEntries, entries_at_end}
use Rattle.mt_front.specs.declared.asks.Asked.{Asked}
use Rattle.mt_front.specs.declared.connection.Outcome.{Outcome}
use Rattle.mt_front.specs.declared.connection.Outcome.TheVariants as outcome
use Rattle.mt_front.specs.Items.{Item, Bad, is_full, is_fault, need_of, entries_of}
use Rattle.mt_front.specs.Answers.{Past, FitsFrom, NoneOf, Counts, IsCaused, MayStay, past_end, entries_from, found, behind}
use Rattle.mt_front.specs.Session.{past_of, counts_of, Added}
use Rattle.mt_front.specs.Turns.{CameOut, BrokeOff, Tried, IsOwn, Leaves, room_for, answer_of, tried_item, outcome_of}
use Rattle.mt_front.proofs.CauseLaws.{most_self}
use Rattle.mt_front.specs.Machines.{GoesForward, CallsWhole}
use Rattle.mt_front.proofs.MarkLaws.{Marked, same_self, told_self}
use Rattle.mt_front.proofs.MachineLaws.{forward_self, call_forward}

-- ---- what is refused before anything is tried

pub added_self : (c : ℕ) (w : WorldState) → Added c w w
added_self c w = record { more = []; grew = sym (append-nil w.history.entries); own = All-nil (λ (e : Entry). e.caller ≡ c) }

none_behind : (c : ℕ) (past : Past) → NoneOf c (entries_from past (past_end past))
none_behind c past =
    subst (NoneOf c) (sym (drop_all (past_end past - past.window.first) past.window.entries (omega arith))) (All-nil (λ (e : Entry). e.caller ≡ c → ⊥))

-- behind turns that came to its end there is none either
pub none_after : (c : ℕ) (w w' : WorldState) (marks : List Mark) → behind (past_end (past_of w)) marks ≡ past_end (past_of w') → NoneOf c (entries_from (past_of w') (behind (past_end (past_of w)) marks))
none_after c w w' marks ends = subst (λ n. NoneOf c (entries_from (past_of w') n)) (sym ends) (none_behind c (past_of w'))

-- items that have no marks leave the history as it is
pub fits_none : (c : ℕ) (T : Type 0) (past : Past) → FitsFrom c T past (past_end past) [] []
fits_none c T past = record { marks = tt; no_batch = All-nil (λ (m : Mark). MayStay m.entry); behind_them = none_behind c past }

-- the item of what is refused
abbrev pub bad_item : Asked → Bool → List ℕ → Item
bad_item asks keep bytes = record { asks = asks; keep = keep; outcome = Bad; reply = bytes; marks = [] }

pub came_bad : (c : ℕ) (w : WorldState) (asks : Asked) (keep : Bool) (bytes : List ℕ) → need_of asks ≡ None → CameOut c w (bad_item asks keep bytes) w
came_bad c w asks keep bytes none = record {
  same = same_self w;
  told = told_self w;
  fits = (record { marks = tt; room = subst (λ (o : Option ℕ). IfSome o (λ need. false ≡ false)) (sym none) tt }, fits_none c (Tells w) (past_of w));
}

pub caused_bad : (s : Counts) (asks : Asked) (keep : Bool) (bytes : List ℕ) → IsCaused s (bad_item asks keep bytes) s
caused_bad s asks keep bytes = record { later = most_self s; rose = λ e. absurd (let h : false ≡ true = e in cc); still = λ e. refl }

-- ---- from the world's clause

full_by : (o : Outcome) → turns.is_full (answer_of o) ≡ is_full (outcome_of o)
full_by (outcome.Done tags) = refl
full_by (outcome.Refused refusal) = refl
full_by (outcome.Found rows) = refl
full_by (outcome.Paged page) = refl
full_by outcome.Fault = refl
full_by outcome.Full = refl

fault_by : (o : Outcome) → is_fault (outcome_of o) ≡ true → answer_of o ≡ Err fault.StoreFault
fault_by (outcome.Done tags) e = absurd cc
fault_by (outcome.Refused refusal) e = absurd cc
fault_by (outcome.Found rows) e = absurd cc
fault_by (outcome.Paged page) e = absurd cc
fault_by outcome.Fault e = refl
fault_by outcome.Full e = absurd cc

-- a request that was finished, with no other caller between
pub tried : (c : ℕ) (w w' : WorldState) (q : Request) (o : Outcome) (marks : List Mark) → Marked c (room_for q) (turns.is_full (answer_of o)) w marks w' → Leaves q (answer_of o) (entries_of marks) → IsOwn q o
    → (answer_of o ≡ Err fault.StoreFault → EitherRose w w') → (is_fault (outcome_of o) ≡ false → counts_of w' ≡ counts_of w) → CallsWhole c w q w' → Tried c w q o marks w'
tried c w w' q o marks m leaves kind cause still whole = record {
  own = kind;
  left = leaves;
  came = λ asks keep reply need. record {
    same = m.same;
    told = m.told;
    fits = (
      record {
        marks = m.marks_are;
        room = subst (λ (n : Option ℕ). IfSome n (λ room. is_full (outcome_of o) ≡ list_any (λ (k : Mark). not (has_room (found (past_of w') k.place) room)) marks)) (sym need) (sym (full_by o) ∙ m.room);
      },
      record { marks = tt; no_batch = All-nil (λ (k : Mark). MayStay k.entry); behind_them = none_after c w w' marks m.ends },
    );
  };
  caused = λ asks keep reply. record { later = m.later; rose = λ f. cause (fault_by o f); still = still };
  added = m.added;
  whole = whole;
}

-- ---- an item that broke off

-- where nothing was tried there is no mark
pub nothing_broke : (c : ℕ) (w : WorldState) → BrokeOff c w [] w
nothing_broke c w = record {
  same = same_self w;
  told = told_self w;
  breaks = fits_none c (Tells w) (past_of w);
  added = added_self c w;
  later = most_self (counts_of w);
  still = λ e. refl;
  forward = forward_self w;
}

-- no entry of these is a batch that was applied
abbrev pub NoBatches : List NewEntry → Type 0
NoBatches es = AllByRecursion (λ e. MayStay (Some e)) es

pub marks_stay : (marks : List Mark) → NoBatches (entries_of marks) → All (λ (m : Mark). MayStay m.entry) marks
marks_stay [] h = All-nil (λ (m : Mark). MayStay m.entry)
marks_stay (m ∷ marks) h =
    let parts : MayStay m.entry × NoBatches (entries_of marks) =
    elim m.entry as (λ o. NoBatches (option_to_list o ++ entries_of marks) → MayStay o × NoBatches (entries_of marks)) [ None ↦ λ g. (tt, g) | Some e ↦ λ g. (g.0, g.1) ] h in
    All-cons (λ (n : Mark). MayStay n.entry) m marks parts.0 (marks_stay marks parts.1)

-- what came of a request was no batch that was applied
abbrev pub IsUndone : Result Answer TurnFault → Type 0
IsUndone (Ok (answer.Written tags)) = ⊥
IsUndone r = Unit {0}

batch_stays : (ops : List Op) (r : Result Answer TurnFault) → IsUndone r → NoBatches (option_to_list (batch_entry ops r))
batch_stays ops (Ok (answer.Written tags)) u = absurd u
batch_stays ops (Ok (answer.Refused refusal)) u = (λ batch tags e. cc, tt)
batch_stays ops (Ok (answer.Rows rows)) u = tt
batch_stays ops (Ok (answer.Page page)) u = tt
batch_stays ops (Ok answer.Moved) u = tt
batch_stays ops (Ok answer.Cleaned) u = tt
batch_stays ops (Ok answer.NotSealed) u = tt
batch_stays ops (Ok (answer.NotMigrated pk)) u = tt
batch_stays ops (Err fault.StoreFault) u = (λ batch tags e. cc, tt)
batch_stays ops (Err fault.HistoryFull) u = tt
batch_stays ops (Err fault.NoMemory) u = tt

query_stays : (pk : List ℕ) (filter : Option Filter) (r : Result Answer TurnFault) → NoBatches (option_to_list (query_entry pk filter r))
query_stays pk filter (Ok (answer.Written tags)) = tt
query_stays pk filter (Ok (answer.Refused refusal)) = tt
query_stays pk filter (Ok (answer.Rows rows)) = (λ batch tags e. cc, tt)
query_stays pk filter (Ok (answer.Page page)) = tt
query_stays pk filter (Ok answer.Moved) = tt
query_stays pk filter (Ok answer.Cleaned) = tt
query_stays pk filter (Ok answer.NotSealed) = tt
query_stays pk filter (Ok (answer.NotMigrated part)) = tt
query_stays pk filter (Err fault.StoreFault) = (λ batch tags e. cc, tt)
query_stays pk filter (Err fault.HistoryFull) = tt
query_stays pk filter (Err fault.NoMemory) = tt

end_stays : (r : Result Answer TurnFault) → NoBatches (entries_at_end r)
end_stays (Ok answer) = tt
end_stays (Err fault.StoreFault) = (λ batch tags e. cc, tt)
end_stays (Err fault.HistoryFull) = tt
end_stays (Err fault.NoMemory) = tt

-- the entry of a unit is no batch
unit_stays : (unit : PageUnit) (filter : Option Filter) (e : NewEntry) → IsEntryOf unit filter e.what → MayStay (Some e)
unit_stays (Scan pk from upto) filter e is batch tags same = (let f : what.Scan pk from upto is.0 ≡ what.Batch batch tags = sym is.2 ∙ same in cc)
unit_stays (Gap from to) filter e is batch tags same = (let f : what.Gap from to ≡ what.Batch batch tags = sym is.2 ∙ same in cc)

steps_stay : (filter : Option Filter) (steps : List Step) (others es : List NewEntry) → NoBatches others → AreStepEntries filter steps others es → NoBatches es
steps_stay filter [] others es none h = subst NoBatches (sym h) none
steps_stay filter (s ∷ steps) others [] none h = absurd h
steps_stay filter (s ∷ steps) others (e ∷ es) none h = (unit_stays s.unit filter e h.0.0, steps_stay filter steps others es none h.1)

left_stays : (q : Request) (r : Result Answer TurnFault) (es : List NewEntry) → IsUndone r → Leaves q r es → NoBatches es
left_stays (request.Batch ops) r es u l = subst NoBatches (sym l) (batch_stays ops r u)
left_stays (request.Query pk filter) r es u l = subst NoBatches (sym l) (query_stays pk filter r)
left_stays (request.Page filter top token) r es u l = steps_stay filter l.2.steps (entries_at_end r) es (end_stays r) l.2.entries

-- a failed store has its entry
steps_leave : (filter : Option Filter) (steps : List Step) (e : NewEntry) → AreStepEntries filter steps (e ∷ []) [] → ⊥
steps_leave filter [] e h = (let f : ◌≡◌ {A = List NewEntry} [] (e ∷ []) = h in cc)
steps_leave filter (s ∷ steps) e h = h

fault_leaves : (q : Request) → Leaves q (Err fault.StoreFault) [] → ⊥
fault_leaves (request.Batch ops) l = (let f : ◌≡◌ {A = List NewEntry} [] (fault_entry ∷ []) = l in cc)
fault_leaves (request.Query pk filter) l = (let f : ◌≡◌ {A = List NewEntry} [] (fault_entry ∷ []) = l in cc)
fault_leaves (request.Page filter top token) l = steps_leave filter l.2.steps fault_entry l.2.entries

none_still : (c : ℕ) (w w' : WorldState) (q : Request) (o : Outcome) (marks : List Mark) (asks : Asked) → Tried c w q o marks w' → marks ≡ [] → counts_of w' ≡ counts_of w
none_still c w w' q (outcome.Done tags) marks asks t none = (t.caused asks true []).still refl
none_still c w w' q (outcome.Refused refusal) marks asks t none = (t.caused asks true []).still refl
none_still c w w' q (outcome.Found rows) marks asks t none = (t.caused asks true []).still refl
none_still c w w' q (outcome.Paged page) marks asks t none = (t.caused asks true []).still refl
none_still c w w' q outcome.Fault marks asks t none = absurd (fault_leaves q (subst (Leaves q (Err fault.StoreFault)) (ap entries_of none) t.left))
none_still c w w' q outcome.Full marks asks t none = (t.caused asks true []).still refl

-- a request was tried and nothing was applied, and there was no memory for its reply
pub tried_off : (c : ℕ) (w w' : WorldState) (q : Request) (o : Outcome) (marks : List Mark) (asks : Asked) → need_of asks ≡ Some (room_for q) → IsUndone (answer_of o) → Tried c w q o marks w' → BrokeOff c w marks w'
tried_off c w w' q o marks asks need u t =
    let came : CameOut c w (tried_item asks o true marks []) w' = t.came asks true [] need in
    record {
      same = came.same;
      told = came.told;
      breaks = record { marks = came.fits.0.marks; no_batch = marks_stay marks (left_stays q (answer_of o) (entries_of marks) u t.left); behind_them = came.fits.1.behind_them };
      added = t.added;
      later = (t.caused asks true []).later;
      still = none_still c w w' q o marks asks t;
      forward = call_forward c w w' (Client t.whole.0) t.whole.1 t.whole.3;
    }

-- a call had no memory
pub starved : (c : ℕ) (w w' : WorldState) (q : Request) (marks : List Mark) → Marked c (room_for q) false w marks w' → Leaves q (Err fault.NoMemory) (entries_of marks) → counts_of w' ≡ counts_of w → GoesForward w w' → BrokeOff c w marks w'
starved c w w' q marks m leaves still forward = record {
  same = m.same;
  told = m.told;
  breaks = record { marks = m.marks_are; no_batch = marks_stay marks (left_stays q (Err fault.NoMemory) (entries_of marks) tt leaves); behind_them = none_after c w w' marks m.ends };
  added = m.added;
  later = m.later;
  still = λ e. still;
  forward = forward;
}
