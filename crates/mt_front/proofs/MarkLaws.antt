-- Turns of one actor with no other caller between them: each finds the history as the one before it left it.
use Rattle.std.proofs.Common.{◌≡◌, ℕ, ◌+◌, Bool, true, false, not, List, [], ◌∷◌, ◌++◌, length, Option, Some, None, Ok, Err, refl, sym, ap, ◌∙◌, subst, arith, inl, inr, append_assoc, append-nil, length-append}
use Rattle.std.specs.Prelude.{Result, ◌||◌, is_some, IfSome, All}
use Rattle.std.specs.List.{list_any}
use Rattle.std.proofs.lemmas.List.Elements.{All-nil, All-cons, All-append}
use Rattle.mt_chain.specs.declared.ask.Ask.{Ask}
use Rattle.mt_chain.specs.declared.ask.Ask.TheVariants as ask
use Rattle.mt_chain.specs.declared.ask.Side.{Side}
use Rattle.mt_chain.specs.declared.ask.Side.TheVariants.{Old, New}
use Rattle.mt_chain.specs.declared.ask.StoreReply.{StoreReply}
use Rattle.mt_chain.specs.declared.ask.StoreReply.TheVariants as store
use Rattle.mt_chain.specs.declared.ask.CallFault.{CallFault}
use Rattle.mt_chain.specs.declared.ask.CallFault.TheVariants as call_fault
use Rattle.mt_chain.specs.StoreCall.{Contents}
use Rattle.mt_chain.specs.Store.{Store, Onward, Same}
use Rattle.mt_chain.specs.Asks.{Means, CallShows}
use Rattle.mt_chain.specs.Batch.{batch_weight}
use Rattle.mt_chain.specs.Table.{table_of, rows_of}
use Rattle.mt_history.specs.declared.entry.Entry.{Entry}
use Rattle.mt_history.specs.declared.entry.What.TheVariants as what
use Rattle.mt_history.specs.declared.model.Reply.TheVariants as reply
use Rattle.mt_history.specs.Kept.{has_room}
use Rattle.mt_history.specs.Replies.{Replies}
use Rattle.mt_history.specs.Weight.{need_of_query, need_of_page, need_of_move}
use Rattle.mt_scan.specs.declared.unit.PageProgress.{PageProgress}
use Rattle.mt_scan.specs.declared.unit.PageProgress.TheVariants as page
use Rattle.mt_scan.specs.Pages as pages
use Rattle.mt_world.specs.declared.actor.Actor.{Actor}
use Rattle.mt_world.specs.declared.actor.Actor.TheVariants.{Client}
use Rattle.mt_world.specs.declared.actor.ClientCall.{ClientCall}
use Rattle.mt_world.specs.declared.actor.ClientCall.TheVariants as client
use Rattle.mt_world.specs.declared.actor.Answer.{Answer}
use Rattle.mt_world.specs.declared.actor.Progress.{Progress}
use Rattle.mt_world.specs.declared.actor.Progress.TheVariants.{More}
use Rattle.mt_world.specs.declared.actor.TurnFault.{TurnFault}
use Rattle.mt_world.specs.declared.actor.TurnFault.TheVariants.{StoreFault, HistoryFull, NoMemory}
use Rattle.mt_world.specs.Worlds.{WorldState, Tells, table_now, entry_of}
use Rattle.mt_world.specs.Moves.{NewEntry, need_of}
use Rattle.mt_world.specs.Logs.{entries_with}
use Rattle.mt_world.specs.Turns.{IsSameWorld, RepliesAt, CallsOn, NoCall, Moves, stage_of, is_full}
use Rattle.mt_world.specs.WholeCalls.{Mark, MarkedTurn, Finishes, TakesTurns, AreMarksAt, last_turn, end_of, is_client, entry_at_end}
use Rattle.mt_world.specs.Sealing.{SealsOld, CallsSeal, seal_entry}
use Rattle.mt_world.proofs.PairLaws.{for_pair, called, not_called}
use Rattle.mt_world.proofs.StepsLaws.{steps_answer}
use Rattle.mt_world.proofs.TurnLaws.{moved}
use Rattle.mt_world.proofs.PageEntries.{same_unit}
use Rattle.mt_world.proofs.PageFinish.{page_goes_on}
use Rattle.mt_world.proofs.FinishLaws.{goes_on, query_goes_on, full_last, mark_is}
use Rattle.mt_front.specs.Answers.{Past, AtMost, RepliesFound, AreNextMarks, past_end, found, table_found, place_behind, behind}
use Rattle.mt_front.specs.Session.{past_of, counts_of, ToldBefore, Added}
use Rattle.mt_front.proofs.FitLaws.{grown, marks_sooner, marks_more, room_more}
use Rattle.mt_front.proofs.OwnLaws.{AreOwn, or_none, own_long, room_at, marks_at, table_at, behind_at}
use Rattle.mt_front.proofs.CauseLaws.{most_then}

-- ---- worlds that differ in their history and their counts alone

pub same_self : (w : WorldState) → IsSameWorld w w
same_self w = record { old_number = refl; new_number = refl; base = refl; first = refl; limit = refl; generation = refl; opened_faults = refl }

pub same_then : (u v w : WorldState) → IsSameWorld u v → IsSameWorld v w → IsSameWorld u w
same_then u v w p q = record {
  old_number = q.old_number ∙ p.old_number;
  new_number = q.new_number ∙ p.new_number;
  base = q.base ∙ p.base;
  first = q.first ∙ p.first;
  limit = q.limit ∙ p.limit;
  generation = q.generation ∙ p.generation;
  opened_faults = q.opened_faults ∙ p.opened_faults;
}

-- ---- stores that tell told before

pub told_self : (w : WorldState) → ToldBefore w w
told_self w = record { old_told = λ e. e; new_told = λ e. e }

pub told_then : (u v w : WorldState) → ToldBefore u v → ToldBefore v w → ToldBefore u w
told_then u v w p q = record { old_told = λ e. p.old_told (q.old_told e); new_told = λ e. p.new_told (q.new_told e) }

pub tells_before : (w w' : WorldState) → ToldBefore w w' → Tells w' → Tells w
tells_before w w' p t = record { old = p.old_told t.old; new = p.new_told t.new }

onward_told : (P : Contents → Contents → Type 0) (x y : Option Contents) → Onward P x y → is_some y ≡ true → is_some x ≡ true
onward_told P x None h e = absurd (let f : false ≡ true = e in cc)
onward_told P None (Some b) h e = absurd h
onward_told P (Some a) (Some b) h e = refl

call_told : (s t : Store) (a : Ask) (r : Result StoreReply CallFault) → CallShows a r s t → is_some t.told ≡ true → is_some s.told ≡ true
call_told s t a (Ok r) h = onward_told (Means s.number a r) s.told t.told h.2
call_told s t a (Err call_fault.Failed) h = onward_told Same s.told t.told h
call_told s t a (Err call_fault.NoMemory) h = onward_told Same s.told t.told h

module _ (w w' : WorldState) where
  on_told : (side : Side) (a : Ask) (r : Result StoreReply CallFault) → CallsOn side w.old_store w.new_store a r w'.old_store w'.new_store → ToldBefore w w'
  on_told Old a r h = record { old_told = call_told w.old_store w'.old_store a r h.0.shows; new_told = λ e. ap (λ (s : Store). is_some s.told) (sym h.1) ∙ e }
  on_told New a r h = record { old_told = λ e. ap (λ (s : Store). is_some s.told) (sym h.1) ∙ e; new_told = call_told w.new_store w'.new_store a r h.0.shows }

  none_told : NoCall (stage_of w) (stage_of w') → ToldBefore w w'
  none_told h = record { old_told = λ e. ap (λ (s : Store). is_some s.told) (sym h.old_store) ∙ e; new_told = λ e. ap (λ (s : Store). is_some s.told) (sym h.new_store) ∙ e }

  moved_told : (a b : Actor) (r : Result Progress TurnFault) (entry : Option NewEntry) → Moves (stage_of w) a r entry (stage_of w') b → ToldBefore w w'
  moved_told a b (Ok progress) entry m = on_told m.0.side m.0.ask (Ok m.1) m.3.on
  moved_told a b (Err StoreFault) entry m = on_told m.0.side m.0.ask (Err call_fault.Failed) m.2.on
  moved_told a b (Err HistoryFull) entry m = none_told m.0
  moved_told a b (Err NoMemory) entry m = elim m.0 as (λ _. ToldBefore w w') [ inl n ↦ none_told n | inr v ↦ on_told v.ask.side v.ask.ask v.answer v.call.on ]

-- ---- the history afterwards

pub past_grown : (w w' : WorldState) (more : List Entry) → IsSameWorld w w' → w'.history.entries ≡ w.history.entries ++ more → past_of w' ≡ grown (past_of w) more
past_grown w w' more same grew =
    ap (λ n. record { window = record { first = n; base = table_of (rows_of w'.base); entries = w'.history.entries }; limit = w'.history.limit }) same.first
    ∙ ap (λ b. record { window = record { first = w.history.first; base = table_of (rows_of b); entries = w'.history.entries }; limit = w'.history.limit }) same.base
    ∙ ap (λ (l : List Entry). record { window = record { first = w.history.first; base = table_of (rows_of w.base); entries = l }; limit = w'.history.limit }) grew
    ∙ ap (λ n. record { window = record { first = w.history.first; base = table_of (rows_of w.base); entries = w.history.entries ++ more }; limit = n }) same.limit

-- the entries that were added
added_by : (xs : List Entry) (numbers : List (ℕ × ℕ)) (c : ℕ) (o : Option NewEntry) → (own : List Entry) × (entries_with xs numbers c o ≡ xs ++ own) × AreOwn c o own
added_by xs numbers c None = ([], sym (append-nil xs), refl)
added_by xs numbers c (Some e) = (entry_of numbers c e.what ∷ [], refl, (_, refl))

own_callers : (c : ℕ) (o : Option NewEntry) (own : List Entry) → AreOwn c o own → All (λ (e : Entry). e.caller ≡ c) own
own_callers c None own a = subst (All (λ (e : Entry). e.caller ≡ c)) (sym a) (All-nil (λ (e : Entry). e.caller ≡ c))
own_callers c (Some e) own a =
    subst (All (λ (e : Entry). e.caller ≡ c)) (sym a.1) (All-cons (λ (e : Entry). e.caller ≡ c) (record { caller = c; number = a.0; what = e.what }) [] refl (All-nil (λ (e : Entry). e.caller ≡ c)))

if_told : {A : Type 0} (x : Option A) (Q : Type 0) → is_some x ≡ true → IfSome x (λ a. Q) → Q
if_told None Q e h = absurd (let f : false ≡ true = e in cc)
if_told (Some a) Q e h = h

replies_then : (w w' : WorldState) (o : Option NewEntry) (past : Past) → table_found past (past_end (past_of w)) ≡ table_now w → RepliesAt w o w' → Tells w' → RepliesFound past (past_end (past_of w)) o
replies_then w w' None past same r t = tt
replies_then w w' (Some e) past same r t = subst (λ table. Replies e.what table e.reply) (sym same) (if_told w'.new_store.told _ t.new (if_told w'.old_store.told _ t.old r))

-- ---- marks

-- turns that need so much room, full or not at the last of them, have these marks: each is the caller's next, and behind the last the caller has no entry
pub record Marked (c need : ℕ) (full : Bool) (w : WorldState) (marks : List Mark) (w' : WorldState) : Type 0 where
  pub same : IsSameWorld w w'
  pub told : ToldBefore w w'
  pub marks_are : AreNextMarks c (Tells w') (past_of w') (past_end (past_of w)) marks
  pub ends : behind (past_end (past_of w)) marks ≡ past_end (past_of w')
  pub room : full ≡ list_any (λ (m : Mark). not (has_room (found (past_of w') m.place) need)) marks
  pub added : Added c w w'
  pub later : AtMost (counts_of w) (counts_of w')

-- turns that need so much room, all of which found the same end, and of which the last left this entry, or none
pub alike_marked : (c need : ℕ) (full : Bool) (w v : WorldState) (e : Option NewEntry) (marks : List Mark) → IsSameWorld w v → ToldBefore w v → v.history.entries ≡ entries_with w.history.entries w.numbers c e → RepliesAt w e v
    → full ≡ not (has_room w.history need) → AreMarksAt (past_end (past_of w)) e marks → AtMost (counts_of w) (counts_of v) → Marked c need full w marks v
alike_marked c need full w v e marks same told entries replies room at later =
    let more : (own : List Entry) × (entries_with w.history.entries w.numbers c e ≡ w.history.entries ++ own) × AreOwn c e own = added_by w.history.entries w.numbers c e in
    let own : List Entry = more.0 in
    let grew : v.history.entries ≡ w.history.entries ++ own = entries ∙ more.1 in
    let is : past_of v ≡ grown (past_of w) own = past_grown w v own same grew in
    record {
      same = same;
      told = told;
      marks_are = subst (λ p. AreNextMarks c (Tells v) p (past_end (past_of w)) marks) (sym is)
          (marks_at c (Tells v) (past_of w) e own more.2 (replies_then w v e (grown (past_of w) own) (table_at c (Tells v) (past_of w) e own more.2) replies) marks at);
      ends = behind_at c (Tells v) (past_of w) e own more.2 marks at ∙ sym (own_long c e own (past_end (past_of w)) more.2) ∙ end_grown own ∙ sym (ap past_end is);
      room = room ∙ sym (room_at c (Tells v) (past_of w) e own more.2 need marks at)
          ∙ ap (λ p. list_any (λ (n : Mark). not (has_room (found p n.place) need)) marks) (sym is);
      added = record { more = own; grew = grew; own = own_callers c e own more.2 };
      later = later;
    }
  where
    end_grown : (own : List Entry) → past_end (past_of w) + length own ≡ past_end (grown (past_of w) own)
    end_grown own = let long : length (w.history.entries ++ own) ≡ length w.history.entries + length own = length-append w.history.entries own in omega (arith, long)

-- one turn of a client's call
turn_marked : (c need : ℕ) (w v : WorldState) (call : ClientCall) (b : Actor) (r : Result Progress TurnFault) (m : Mark) → need_of (Client call) ≡ need → MarkedTurn m w c (Client call) r v b → Marked c need (is_full r) w (m ∷ []) v
turn_marked c need w v call b r m same_need h =
    let k = moved (stage_of w) (stage_of v) (Client call) b r m.entry h.turn.moves in
    alike_marked c need (is_full r) w v m.entry (m ∷ []) h.turn.same (moved_told w v (Client call) b r m.entry h.turn.moves) h.turn.adds.entries h.turn.replies
    (h.turn.full ∙ ap (λ n. not (has_room w.history n)) same_need) (mark_is m (end_of w) m.entry h.place refl) (record { old_store = k.old_faults; new_store = k.new_faults })

-- a turn that found room, and then the rest
marked_then : (c need : ℕ) (full : Bool) (w v w' : WorldState) (m : Mark) (marks : List Mark) → Marked c need false w (m ∷ []) v → Marked c need full v marks w' → Marked c need full w (m ∷ marks) w'
marked_then c need full w v w' m marks first rest =
    let is : past_of w' ≡ grown (past_of v) rest.added.more = past_grown v w' rest.added.more rest.same rest.added.grew in
    record {
      same = same_then w v w' first.same rest.same;
      told = told_then w v w' first.told rest.told;
      marks_are = (
        (subst (λ p. AreNextMarks c (Tells w') p (past_end (past_of w)) (m ∷ [])) (sym is)
            (marks_more c (Tells w') (past_of v) rest.added.more (past_end (past_of w)) (m ∷ []) (marks_sooner c (Tells v) (Tells w') (tells_before v w' rest.told) (past_of v) (past_end (past_of w)) (m ∷ []) first.marks_are))).0,
        subst (λ n. AreNextMarks c (Tells w') (past_of w') n marks) (sym first.ends) rest.marks_are,
      );
      ends = ap (λ n. behind n marks) first.ends ∙ rest.ends;
      room = rest.room ∙ ap (λ b. b || list_any (λ (n : Mark). not (has_room (found (past_of w') n.place) need)) marks) (sym (found_room is));
      added = record {
        more = first.added.more ++ rest.added.more;
        grew = rest.added.grew ∙ ap (λ l. l ++ rest.added.more) first.added.grew ∙ append_assoc w.history.entries first.added.more rest.added.more;
        own = All-append (λ (e : Entry). e.caller ≡ c) first.added.more rest.added.more first.added.own rest.added.own;
      };
      later = most_then (counts_of w) (counts_of v) (counts_of w') first.later rest.later;
    }
  where
    lacks : Past → Bool
    lacks p = not (has_room (found p m.place) need)

    found_room : past_of w' ≡ grown (past_of v) rest.added.more → lacks (past_of w') ≡ false
    found_room is =
        ap lacks is ∙ sym (or_none (lacks (grown (past_of v) rest.added.more)))
        ∙ room_more c (Tells v) (past_of v) rest.added.more need (past_end (past_of w)) (m ∷ []) first.marks_are ∙ sym first.room

-- ---- whole calls

page_filter : (call to : pages.Page) (answer : StoreReply) (said : PageProgress) → pages.Absorbs call answer (Ok said) to → to.filter ≡ call.filter
page_filter call to answer page.More h = ap (λ (x : pages.Page). x.filter) (same_unit call to answer h).1
page_filter call to answer (page.Unit unit) h = ap (λ (x : pages.Page). x.filter) h.2
page_filter call to answer (page.Last unit) h = ap (λ (x : pages.Page). x.filter) h.2

-- a call that goes on needs as much room as before
stays_client : (w v : WorldState) (call : ClientCall) (entry : Option NewEntry) (b : Actor) → Moves (stage_of w) (Client call) (Ok More) entry (stage_of v) b → (to : ClientCall) × (b ≡ Client to) × (need_of (Client to) ≡ need_of (Client call))
stays_client w v client.Ended entry b m = absurd m.2
stays_client w v (client.Batch call) entry b m = (let g = goes_on w v call entry b m in (client.Batch g.to, g.after, ap batch_weight g.same_ops))
stays_client w v (client.Query call) entry b m = (let g = query_goes_on w v call entry b m in (client.Query g.to, g.after, ap (λ pk. need_of_query pk g.to.filter) g.pk ∙ ap (need_of_query call.pk) g.filter))
stays_client w v (client.Page call) entry b m = (let g = page_goes_on w v call entry b m in (client.Page g.to, g.after, ap need_of_page (page_filter call g.to g.answer g.said g.absorbs)))

-- turns that end a client's call
pub finishes_marked : (marks : List Mark) (c : ℕ) (w w' : WorldState) (call : ClientCall) (r : Result Answer TurnFault) → Finishes marks w c (Client call) r w' → Marked c (need_of (Client call)) (is_full r) w marks w'
finishes_marked [] c w w' call r f = absurd f
finishes_marked (m ∷ []) c w w' call r f = subst (λ full. Marked c (need_of (Client call)) full w (m ∷ []) w') (full_last r) (turn_marked c (need_of (Client call)) w w' call f.0 (last_turn r) m refl f.1)
finishes_marked (m ∷ next ∷ marks) c w w' call r f =
    let g = stays_client w f.0 call m.entry f.1 f.2.turn.moves in
    marked_then c (need_of (Client call)) (is_full r) w f.0 w' m (next ∷ marks) (turn_marked c (need_of (Client call)) w f.0 call f.1 (Ok More) m refl f.2)
    (subst (λ need. Marked c need (is_full r) f.0 (next ∷ marks) w') g.2 (finishes_marked (next ∷ marks) c f.0 w' g.0 r (subst (λ a. Finishes (next ∷ marks) f.0 c a r w') g.1 f.3)))

-- ---- turns of a machine

-- each store that tells afterwards told before them
turns_told : (marks : List Mark) (c : ℕ) (w w' : WorldState) (a a' : Actor) (r : Result Progress TurnFault) → TakesTurns marks w c a r w' a' → ToldBefore w w'
turns_told [] c w w' a a' r f = absurd f
turns_told (m ∷ []) c w w' a a' r f = moved_told w w' a a' r m.entry f.turn.moves
turns_told (m ∷ next ∷ marks) c w w' a a' r f = told_then w f.0 w' (moved_told w f.0 a f.1 (Ok More) m.entry f.2.turn.moves) (turns_told (next ∷ marks) c f.0 w' f.1 a' r f.3)

-- a reply to the entry of a failed call
fault_replies : (w w' : WorldState) (r : Result Progress TurnFault) → RepliesAt w (entry_at_end r) w'
fault_replies w w' (Ok progress) = tt
fault_replies w w' (Err StoreFault) = for_pair w' (λ p. Replies what.Fault (table_now w) reply.NoReply) (λ a b ea eb. refl)
fault_replies w w' (Err HistoryFull) = tt
fault_replies w w' (Err NoMemory) = tt

pub turns_marked : (marks : List Mark) (c : ℕ) (w w' : WorldState) (a a' : Actor) (r : Result Progress TurnFault) → is_client a ≡ false → TakesTurns marks w c a r w' a' → Marked c need_of_move (is_full r) w marks w'
turns_marked marks c w w' a a' r machine f =
    let s = steps_answer marks w w' c a a' r machine f in
    alike_marked c need_of_move (is_full r) w w' (entry_at_end r) marks s.same (turns_told marks c w w' a a' r f) s.entries (fault_replies w w' r) s.full s.marks_are (record { old_store = s.old_faults; new_store = s.new_faults })

-- ---- a seal

seal_told : (w w' : WorldState) (r : Result (Unit {0}) TurnFault) → CallsSeal (stage_of w) r (stage_of w') → ToldBefore w w'
seal_told w w' (Ok u) one = on_told w w' Old ask.Seal (Ok store.SealDone) one.on
seal_told w w' (Err StoreFault) one = on_told w w' Old ask.Seal (Err call_fault.Failed) one.on
seal_told w w' (Err HistoryFull) none = none_told w w' none
seal_told w w' (Err NoMemory) one = elim one as (λ _. ToldBefore w w') [ inl none ↦ none_told w w' none | inr vain ↦ on_told w w' Old ask.Seal (Err call_fault.NoMemory) vain.on ]

on_later : (w w' : WorldState) (r : Result StoreReply CallFault) → CallsOn Old w.old_store w.new_store ask.Seal r w'.old_store w'.new_store → AtMost (counts_of w) (counts_of w')
on_later w w' r h = let k = called w.old_store w.new_store w'.old_store w'.new_store Old ask.Seal r h in record { old_store = k.old_faults; new_store = k.new_faults }

none_later : (w w' : WorldState) → NoCall (stage_of w) (stage_of w') → AtMost (counts_of w) (counts_of w')
none_later w w' h = let k = not_called w.old_store w.new_store w'.old_store w'.new_store h.old_store h.new_store in record { old_store = k.old_faults; new_store = k.new_faults }

seal_later : (w w' : WorldState) (r : Result (Unit {0}) TurnFault) → CallsSeal (stage_of w) r (stage_of w') → AtMost (counts_of w) (counts_of w')
seal_later w w' (Ok u) one = on_later w w' (Ok store.SealDone) one.on
seal_later w w' (Err StoreFault) one = on_later w w' (Err call_fault.Failed) one.on
seal_later w w' (Err HistoryFull) none = none_later w w' none
seal_later w w' (Err NoMemory) one = elim one as (λ _. AtMost (counts_of w) (counts_of w')) [ inl none ↦ none_later w w' none | inr vain ↦ on_later w w' (Err call_fault.NoMemory) vain.on ]

seal_replies : (w w' : WorldState) (r : Result (Unit {0}) TurnFault) → RepliesAt w (seal_entry r) w'
seal_replies w w' (Ok u) = tt
seal_replies w w' (Err StoreFault) = for_pair w' (λ p. Replies what.Fault (table_now w) reply.NoReply) (λ a b ea eb. refl)
seal_replies w w' (Err HistoryFull) = tt
seal_replies w w' (Err NoMemory) = tt

-- its one mark
abbrev pub seal_marks : WorldState → Result (Unit {0}) TurnFault → List Mark
seal_marks w r = (record { place = end_of w; entry = seal_entry r }) ∷ []

pub seal_marked : (c : ℕ) (w w' : WorldState) (r : Result (Unit {0}) TurnFault) → SealsOld w c r w' → Marked c need_of_move (is_full r) w (seal_marks w r) w'
seal_marked c w w' r s = alike_marked c need_of_move (is_full r) w w' (seal_entry r) (seal_marks w r) s.same (seal_told w w' r s.calls) s.adds.entries (seal_replies w w' r) s.full refl (seal_later w w' r s.calls)
