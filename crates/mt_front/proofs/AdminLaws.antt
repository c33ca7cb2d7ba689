-- What an order comes to, as an item of a connection.
use Rattle.std.proofs.Common.{◌≡◌, ◌∙◌, ℕ, Bool, true, false, not, List, [], ◌∷◌, length, Option, Some, None, Ok, Err, refl, sym, ap, subst, inl, inr, arith}
use Rattle.std.specs.Prelude.{Result, IfSome, IfOk, ◌≤◌}
use Rattle.std.specs.List.{list_any}
use Rattle.std.specs.Option.{option_to_list}
use Rattle.mt_model.specs.declared.text.NoMemory.{NoMemory as NoRoom}
use Rattle.mt_chain.specs.declared.ask.Side.TheVariants.{Old}
use Rattle.mt_chain.specs.declared.ask.Ask.TheVariants as ask
use Rattle.mt_chain.specs.declared.ask.StoreReply.TheVariants as store
use Rattle.mt_chain.specs.declared.ask.CallFault.TheVariants as call_fault
use Rattle.mt_history.specs.Kept.{has_room}
use Rattle.mt_history.specs.Weight.{need_of_move}
use Rattle.mt_io.specs.Ends.{Output}
use Rattle.mt_http_out.specs.declared.reply.Reply.{Reply}
use Rattle.mt_http_out.specs.Rendering.{bytes_of}
use Rattle.mt_world.specs.declared.actor.Actor.{Actor}
use Rattle.mt_world.specs.declared.actor.Answer.TheVariants as answer
use Rattle.mt_world.specs.declared.actor.Progress.{Progress}
use Rattle.mt_world.specs.declared.actor.Progress.TheVariants.{More, Done}
use Rattle.mt_world.specs.declared.actor.TurnFault.{TurnFault}
use Rattle.mt_world.specs.declared.actor.TurnFault.TheVariants.{StoreFault, HistoryFull, NoMemory}
use Rattle.mt_world.specs.Worlds.{WorldState, Tells}
use Rattle.mt_world.specs.Moves.{NewEntry, fault_entry}
use Rattle.mt_world.specs.Turns.{stage_of, EitherRose}
use Rattle.mt_world.specs.Turns as turns
use Rattle.mt_world.specs.Sealing.{SealsOld, CallsSeal}
use Rattle.mt_world.specs.WholeCalls.{Mark, TakesTurns, end_of, entry_at_end}
use Rattle.mt_world.proofs.PairLaws.{failed_rose}
use Rattle.mt_world.proofs.StepsLaws.{steps_answer}
use Rattle.mt_front.specs.declared.connection.ConnFault.{ConnFault}
use Rattle.mt_front.specs.declared.asks.Asked.TheVariants.{Admin}
use Rattle.mt_front.specs.declared.services.Machine.{Machine}
use Rattle.mt_front.specs.declared.services.Machine.TheVariants.{Migrator, Cleaner}
use Rattle.mt_front.specs.declared.services.Admin.{Admin as Order}
use Rattle.mt_front.specs.declared.services.Admin.TheVariants.{Steps, Seal, Status}
use Rattle.mt_front.specs.declared.services.Report.{Report}
use Rattle.mt_front.specs.declared.services.Report.TheVariants as report
use Rattle.mt_front.specs.declared.machines.Machines.{Machines}
use Rattle.mt_front.specs.Services.{need_of_order}
use Rattle.mt_front.specs.Reports.{report_reply}
use Rattle.mt_front.specs.Refusals.{fault_reply, full_reply, Makes}
use Rattle.mt_front.specs.Items.{Item, ItemOutcome, Reported, Fault, Full, is_full, is_fault, entries_of, Reports}
use Rattle.mt_front.specs.Answers.{IsCaused, MayStay, AtMost, found}
use Rattle.mt_front.specs.Session.{past_of, counts_of, Added}
use Rattle.mt_front.specs.Machines.{IsMachine, IsHeld, IsTold, StepsMachine, SealsBy, told_of_seal, tells_status, Does, IsOutcomeOf, ItemDoes, GoesForward}
use Rattle.mt_front.specs.Turns.{CameOut, BrokeOff, SaysReply, SaysMade, AnswersBeside}
use Rattle.mt_front.proofs.OwnLaws.{left_at}
use Rattle.mt_front.proofs.CauseLaws.{most_self}
use Rattle.mt_front.proofs.MarkLaws.{Marked, turns_marked, seal_marks, seal_marked, same_self, told_self}
use Rattle.mt_front.proofs.CallLaws.{has_failed, on_still, none_still, both_still, moved_still}
use Rattle.mt_front.proofs.CameLaws.{NoBatches, marks_stay, none_after, fits_none, added_self, nothing_broke}
use Rattle.mt_front.proofs.MachineLaws.{SaidBy, steps_said, not_client, turns_forward, seal_forward}
use Rattle.mt_front.proofs.TurnLaws.{answered_or, says_made}

-- ---- what turns come to

-- the entries that an order leaves which came to this
abbrev pub entries_told : Result Report TurnFault → List NewEntry
entries_told (Ok told) = []
entries_told (Err StoreFault) = fault_entry ∷ []
entries_told (Err HistoryFull) = []
entries_told (Err NoMemory) = []

told_stays : (r : Result Report TurnFault) → NoBatches (entries_told r)
told_stays (Ok told) = tt
told_stays (Err StoreFault) = (λ batch tags e. cc, tt)
told_stays (Err HistoryFull) = tt
told_stays (Err NoMemory) = tt

-- the item of an order
abbrev pub order_item : Order → Bool → ItemOutcome → List Mark → List ℕ → Item
order_item order keep outcome marks reply = record { asks = Admin order; keep = keep; outcome = outcome; reply = reply; marks = marks }

-- what an order came to: these are the marks of its turns
pub record Ordered (c : ℕ) (w : WorldState) (order : Order) (r : Result Report TurnFault) (w' : WorldState) : Type 0 where
  pub marks : List Mark
  pub left : entries_of marks ≡ entries_told r
  pub reports : IfOk r (λ told. Reports order told marks)
  pub came : (keep : Bool) (outcome : ItemOutcome) (reply : List ℕ) → IsOutcomeOf r outcome → CameOut c w (order_item order keep outcome marks reply) w'
  pub caused : (keep : Bool) (outcome : ItemOutcome) (reply : List ℕ) → IsOutcomeOf r outcome → IsCaused (counts_of w) (order_item order keep outcome marks reply) (counts_of w')
  pub added : Added c w w'
  pub off : BrokeOff c w marks w'

full_as : (r : Result Report TurnFault) (outcome : ItemOutcome) → IsOutcomeOf r outcome → is_full outcome ≡ turns.is_full r
full_as (Ok told) outcome is = ap is_full is
full_as (Err StoreFault) outcome is = ap is_full is
full_as (Err HistoryFull) outcome is = ap is_full is
full_as (Err NoMemory) outcome is = absurd is

fault_as : (r : Result Report TurnFault) (outcome : ItemOutcome) → IsOutcomeOf r outcome → is_fault outcome ≡ has_failed r
fault_as (Ok told) outcome is = ap is_fault is
fault_as (Err StoreFault) outcome is = ap is_fault is
fault_as (Err HistoryFull) outcome is = ap is_fault is
fault_as (Err NoMemory) outcome is = absurd is

-- turns with these marks
ordered : (c : ℕ) (w w' : WorldState) (order : Order) (r : Result Report TurnFault) (marks : List Mark) → need_of_order order ≡ Some need_of_move → Marked c need_of_move (turns.is_full r) w marks w' → entries_of marks ≡ entries_told r
    → IfOk r (λ told. Reports order told marks) → (has_failed r ≡ true → EitherRose w w') → (has_failed r ≡ false → counts_of w' ≡ counts_of w) → (marks ≡ [] → ⊥) → GoesForward w w' → Ordered c w order r w'
ordered c w w' order r marks need m left reports rose still some forward = record {
  marks = marks;
  left = left;
  reports = reports;
  came = λ keep outcome reply is. record {
    same = m.same;
    told = m.told;
    fits = (
      record {
        marks = m.marks_are;
        room = subst (λ (n : Option ℕ). IfSome n (λ room. is_full outcome ≡ list_any (λ (k : Mark). not (has_room (found (past_of w') k.place) room)) marks)) (sym need) (full_as r outcome is ∙ m.room);
      },
      record { marks = tt; no_batch = marks_stay [] tt; behind_them = none_after c w w' marks m.ends },
    );
  };
  caused = λ keep outcome reply is. record { later = m.later; rose = λ f. rose (sym (fault_as r outcome is) ∙ f); still = λ f. still (sym (fault_as r outcome is) ∙ f) };
  added = m.added;
  off = record {
    same = m.same;
    told = m.told;
    breaks = record { marks = m.marks_are; no_batch = marks_stay marks (subst NoBatches (sym left) (told_stays r)); behind_them = none_after c w w' marks m.ends };
    added = m.added;
    later = m.later;
    still = λ none. absurd (some none);
    forward = forward;
  };
}

-- ---- turns of a machine

turns_still : (marks : List Mark) (c : ℕ) (w w' : WorldState) (a a' : Actor) (r : Result Progress TurnFault) → has_failed r ≡ false → TakesTurns marks w c a r w' a' → counts_of w' ≡ counts_of w
turns_still [] c w w' a a' r e f = absurd f
turns_still (m ∷ []) c w w' a a' r e f = moved_still w w' a a' r m.entry e f.turn.moves
turns_still (m ∷ next ∷ marks) c w w' a a' r e f = turns_still (next ∷ marks) c f.0 w' f.1 a' r e f.3 ∙ moved_still w f.0 a f.1 (Ok More) m.entry refl f.2.turn.moves

some_turns : (marks : List Mark) (c : ℕ) (w w' : WorldState) (a a' : Actor) (r : Result Progress TurnFault) → TakesTurns marks w c a r w' a' → marks ≡ [] → ⊥
some_turns [] c w w' a a' r f e = f
some_turns (m ∷ marks) c w w' a a' r f e = (let x : ◌≡◌ {A = List Mark} (m ∷ marks) [] = e in cc)

failed_so : (r : Result Progress TurnFault) → has_failed r ≡ true → r ≡ Err StoreFault
failed_so (Ok progress) e = absurd cc
failed_so (Err StoreFault) e = refl
failed_so (Err HistoryFull) e = absurd cc
failed_so (Err NoMemory) e = absurd cc

-- what is told of the turns of a machine is what its last turn came to
pub record ToldSo (machine : Machine) (steps taken : ℕ) (came : Result Progress TurnFault) (marks : List Mark) (r : Result Report TurnFault) : Type 0 where
  pub full : turns.is_full r ≡ turns.is_full came
  pub failed : has_failed r ≡ has_failed came
  pub entries : entries_told r ≡ option_to_list (entry_at_end came)
  pub reports : IfOk r (λ told. Reports (Steps machine steps) told marks)

module _ (steps taken : ℕ) (marks : List Mark) (count : taken ≡ length marks) (few : taken ≤ steps) where
  told_ok : (machine : Machine) (told : Report) (came : Result Progress TurnFault) (r : Result Report TurnFault) → turns.is_full came ≡ false → has_failed came ≡ false → entry_at_end came ≡ None → r ≡ Ok told → Reports (Steps machine steps) told marks → ToldSo machine steps taken came marks r
  told_ok machine told came r full failed none is reports = subst (ToldSo machine steps taken came marks) (sym is) (record { full = sym full; failed = sym failed; entries = ap option_to_list (sym none); reports = reports })

  few_marks : length marks ≤ steps
  few_marks = omega (arith, count, few)

  told_err : (machine : Machine) (fault : TurnFault) (r : Result Report TurnFault) → r ≡ Err fault → ToldSo machine steps taken (Err fault) marks r
  told_err machine StoreFault r is = subst (ToldSo machine steps taken (Err StoreFault) marks) (sym is) (record { full = refl; failed = refl; entries = refl; reports = tt })
  told_err machine HistoryFull r is = subst (ToldSo machine steps taken (Err HistoryFull) marks) (sym is) (record { full = refl; failed = refl; entries = refl; reports = tt })
  told_err machine NoMemory r is = subst (ToldSo machine steps taken (Err NoMemory) marks) (sym is) (record { full = refl; failed = refl; entries = refl; reports = tt })

  told_so : (machine : Machine) (came : Result Progress TurnFault) (r : Result Report TurnFault) → SaidBy machine came → (came ≡ Ok More → taken ≡ steps) → IsTold taken came r → ToldSo machine steps taken came marks r
  told_so machine (Ok More) r said whole told = told_ok machine (report.Stepped false taken) (Ok More) r refl refl refl told (count, few, λ e. whole refl)
  told_so machine (Ok (Done answer.Moved)) r said whole told = told_ok machine (report.Stepped true taken) (Ok (Done answer.Moved)) r refl refl refl told (count, few, λ e. absurd (let x : true ≡ false = e in cc))
  told_so machine (Ok (Done answer.Cleaned)) r said whole told = told_ok machine (report.Stepped true taken) (Ok (Done answer.Cleaned)) r refl refl refl told (count, few, λ e. absurd (let x : true ≡ false = e in cc))
  told_so Migrator (Ok (Done answer.NotSealed)) r said whole told = absurd said
  told_so Migrator (Ok (Done (answer.NotMigrated pk))) r said whole told = absurd said
  told_so Cleaner (Ok (Done answer.NotSealed)) r said whole told = told_ok Cleaner report.NotSealed (Ok (Done answer.NotSealed)) r refl refl refl told few_marks
  told_so Cleaner (Ok (Done (answer.NotMigrated pk))) r said whole told = told_ok Cleaner (report.NotMigrated pk) (Ok (Done (answer.NotMigrated pk))) r refl refl refl told few_marks
  told_so machine (Ok (Done (answer.Written tags))) r said whole told = absurd told
  told_so machine (Ok (Done (answer.Refused refusal))) r said whole told = absurd told
  told_so machine (Ok (Done (answer.Rows rows))) r said whole told = absurd told
  told_so machine (Ok (Done (answer.Page page))) r said whole told = absurd told
  told_so machine (Err fault) r said whole told = told_err machine fault r told

steps_ordered : (c : ℕ) (w w' : WorldState) (machine : Machine) (a a' : Actor) (steps : ℕ) (r : Result Report TurnFault) → IsMachine w machine a → StepsMachine c w machine a steps r w' a' → Ordered c w (Steps machine steps) r w'
steps_ordered c w w' machine a a' steps r held s =
    let t = s.takes in
    let other = not_client machine a held.kind in
    let said = (steps_said machine c w w' a s.left steps s.taken held.kind t).0 in
    let k = steps_answer t.marks w w' c a s.left s.taken.came other t.turns in
    let so = told_so steps s.taken.taken t.marks t.taken t.few machine s.taken.came r said t.whole s.told in
    ordered c w w' (Steps machine steps) r t.marks refl
    (subst (λ full. Marked c need_of_move full w t.marks w') (sym so.full) (turns_marked t.marks c w w' a s.left s.taken.came other t.turns))
    (left_at (end_of w) (entry_at_end s.taken.came) t.marks k.marks_are ∙ sym so.entries) so.reports
    (λ e. k.cause (failed_so s.taken.came (sym so.failed ∙ e)))
    (λ e. turns_still t.marks c w w' a s.left s.taken.came (sym so.failed ∙ e) t.turns)
    (some_turns t.marks c w w' a s.left s.taken.came t.turns)
    (turns_forward t.marks c w w' a s.left s.taken.came t.turns)

-- ---- a seal

seal_rose : (w w' : WorldState) (seal : Result (Unit {0}) TurnFault) → CallsSeal (stage_of w) seal (stage_of w') → has_failed (told_of_seal seal) ≡ true → EitherRose w w'
seal_rose w w' (Ok u) one e = absurd cc
seal_rose w w' (Err StoreFault) one e = failed_rose w w' Old ask.Seal one.on
seal_rose w w' (Err HistoryFull) none e = absurd cc
seal_rose w w' (Err NoMemory) one e = absurd cc

seal_still : (w w' : WorldState) (seal : Result (Unit {0}) TurnFault) → CallsSeal (stage_of w) seal (stage_of w') → has_failed (told_of_seal seal) ≡ false → counts_of w' ≡ counts_of w
seal_still w w' (Ok u) one e = on_still w w' Old ask.Seal store.SealDone one.on
seal_still w w' (Err StoreFault) one e = absurd cc
seal_still w w' (Err HistoryFull) none e = none_still w w' none
seal_still w w' (Err NoMemory) one e = elim one as (λ _. counts_of w' ≡ counts_of w) [
  | inl none ↦ none_still w w' none
  | inr vain ↦ both_still w w' vain.on.0.faults (ap (λ s. s.faults) vain.on.1)
]

seal_full : (seal : Result (Unit {0}) TurnFault) → turns.is_full seal ≡ turns.is_full (told_of_seal seal)
seal_full (Ok u) = refl
seal_full (Err StoreFault) = refl
seal_full (Err HistoryFull) = refl
seal_full (Err NoMemory) = refl

seal_left : (w : WorldState) (seal : Result (Unit {0}) TurnFault) → entries_of (seal_marks w seal) ≡ entries_told (told_of_seal seal)
seal_left w (Ok u) = refl
seal_left w (Err StoreFault) = refl
seal_left w (Err HistoryFull) = refl
seal_left w (Err NoMemory) = refl

seal_reports : (w : WorldState) (seal : Result (Unit {0}) TurnFault) → IfOk (told_of_seal seal) (λ told. Reports Seal told (seal_marks w seal))
seal_reports w (Ok u) = refl
seal_reports w (Err StoreFault) = tt
seal_reports w (Err HistoryFull) = tt
seal_reports w (Err NoMemory) = tt

seal_ordered : (c : ℕ) (w w' : WorldState) (r : Result Report TurnFault) → SealsBy c w r w' → Ordered c w Seal r w'
seal_ordered c w w' r s = subst (λ x. Ordered c w Seal x w') (sym s.2) (ordered c w w' Seal (told_of_seal s.0) (seal_marks w s.0) refl
    (subst (λ full. Marked c need_of_move full w (seal_marks w s.0) w') (seal_full s.0) (seal_marked c w w' s.0 s.1)) (seal_left w s.0) (seal_reports w s.0)
    (seal_rose w w' s.0 s.1.calls) (seal_still w w' s.0 s.1.calls) (λ e. (let x : ◌≡◌ {A = List Mark} (seal_marks w s.0) [] = e in cc)) (seal_forward c w w' s.0 s.1))

-- ---- a status

status_here : (c : ℕ) (w : WorldState) → Ordered c w Status (Ok (tells_status w)) w
status_here c w = record {
  marks = [];
  left = refl;
  reports = refl;
  came = λ keep outcome reply is. record { same = same_self w; told = told_self w; fits = (record { marks = tt; room = tt }, fits_none c (Tells w) (past_of w)) };
  caused = λ keep outcome reply is. record { later = most_self (counts_of w); rose = λ f. absurd (let e : false ≡ true = sym (ap is_fault is) ∙ f in cc); still = λ f. refl };
  added = added_self c w;
  off = nothing_broke c w;
}

pub order_came : (c : ℕ) (w w' : WorldState) (ms ms' : Machines) (order : Order) (r : Result Report TurnFault) → IsHeld w ms → Does c w ms order r w' ms' → Ordered c w order r w'
order_came c w w' ms ms' (Steps Migrator steps) r held did = steps_ordered c w w' Migrator ms.migrator ms'.migrator steps r held.migrator did.0
order_came c w w' ms ms' (Steps Cleaner steps) r held did = steps_ordered c w w' Cleaner ms.cleaner ms'.cleaner steps r held.cleaner did.0
order_came c w w' ms ms' Seal r held did = seal_ordered c w w' r did.0
order_came c w w' ms ms' Status r held did = subst (λ x. Ordered c w Status x w') (sym did.0) (subst (Ordered c w Status (Ok (tells_status w))) (sym did.1) (status_here c w))

-- ---- the answer

module _ (c : ℕ) (w w' : WorldState) (ms ms' : Machines) (o x : Output) (order : Order) (keep : Bool) (r : Result (Unit {0}) ConnFault) (held : IsHeld w ms) where
  -- a report, by the reply that tells it
  pub report_said : (told : Report) (made : Result Reply NoRoom) → Does c w ms order (Ok told) w' ms' → Makes (report_reply told (not keep)) made → SaysMade o made r x → AnswersBeside c w ms o (Admin order) keep r w' ms' x
  report_said told made did makes said =
      let k = order_came c w w' ms ms' order (Ok told) held did in
      let want = report_reply told (not keep) in
      answered_or (λ i. ItemDoes c w ms i w' ms') c w w' o x (Admin order) keep (order_item order keep (Reported told) k.marks (bytes_of want)) r k.marks refl refl
      (k.came keep (Reported told) (bytes_of want) refl) (k.caused keep (Reported told) (bytes_of want) refl) k.added (k.left, k.reports, refl) (Ok told, did, refl) k.off (says_made o x want made r makes said)

  -- a store failed
  pub order_failed : Does c w ms order (Err StoreFault) w' ms' → SaysReply o (bytes_of (fault_reply (not keep))) r x → AnswersBeside c w ms o (Admin order) keep r w' ms' x
  order_failed did said =
      let k = order_came c w w' ms ms' order (Err StoreFault) held did in
      let bytes = bytes_of (fault_reply (not keep)) in
      answered_or (λ i. ItemDoes c w ms i w' ms') c w w' o x (Admin order) keep (order_item order keep Fault k.marks bytes) r k.marks refl refl
      (k.came keep Fault bytes refl) (k.caused keep Fault bytes refl) k.added (k.left, refl) (Err StoreFault, did, refl) k.off said

  -- the history is full
  pub order_full : Does c w ms order (Err HistoryFull) w' ms' → SaysReply o (bytes_of (full_reply (not keep))) r x → AnswersBeside c w ms o (Admin order) keep r w' ms' x
  order_full did said =
      let k = order_came c w w' ms ms' order (Err HistoryFull) held did in
      let bytes = bytes_of (full_reply (not keep)) in
      answered_or (λ i. ItemDoes c w ms i w' ms') c w w' o x (Admin order) keep (order_item order keep Full k.marks bytes) r k.marks refl refl
      (k.came keep Full bytes refl) (k.caused keep Full bytes refl) k.added (k.left, refl) (Err HistoryFull, did, refl) k.off said

-- there was no memory
pub order_starved : (c : ℕ) (w w' : WorldState) (ms ms' : Machines) (order : Order) → IsHeld w ms → Does c w ms order (Err NoMemory) w' ms' → (broken : List Mark) × BrokeOff c w broken w'
order_starved c w w' ms ms' order held did = (let k = order_came c w w' ms ms' order (Err NoMemory) held did in (k.marks, k.off))
