-- What the turns of a page come to.
use Rattle.std.proofs.Common.{◌≡◌, ◌∙◌, ℕ, ◌+◌, ◌≤◌, ◌^◌, true, not, ◌&&◌, List, [], ◌∷◌, ◌++◌, length, nat_lt, nat_eq, refl, sym, ap, subst, arith, inl, inr, append_assoc, append-nil, length-append, Option, Some, None, Result, Ok, Err}
use Rattle.std.specs.Prelude.{nat_le, IsSome}
use Rattle.std.specs.List.{AllByRecursion}
use Rattle.std.proofs.lemmas.Bool.Decides.{nat_tests}
use Rattle.mt_model.specs.declared.entity.Entity.{Entity}
use Rattle.mt_filter.specs.declared.filter.Filter.{Filter}
use Rattle.mt_chain.specs.declared.ask.StoreReply.{StoreReply}
use Rattle.mt_chain.specs.Asks.{FitsAsk}
use Rattle.mt_chain.specs.Table.{Table}
use Rattle.mt_history.specs.declared.entry.Entry.{Entry}
use Rattle.mt_history.specs.declared.model.Reply.TheVariants as told
use Rattle.mt_history.specs.Kept.{has_room}
use Rattle.mt_history.specs.Weight.{total_weight, need_of_page}
use Rattle.mt_history.specs.Window.{after_entry, table_at_end}
use Rattle.mt_history.specs.Replies.{Replies}
use Rattle.mt_history.specs.Legal.{IsTrueAtEnd}
use Rattle.mt_scan.specs.declared.unit.Unit.{Unit as PageUnit}
use Rattle.mt_scan.specs.declared.unit.Unit.TheVariants.{Scan, Gap}
use Rattle.mt_scan.specs.declared.unit.PageProgress.{PageProgress}
use Rattle.mt_scan.specs.declared.unit.PageProgress.TheVariants as page
use Rattle.mt_scan.specs.declared.saw.Half.{Half}
use Rattle.mt_scan.specs.Units.{IsSameFilter, entry_of, IsTrueUnit, IsNext, Delivers}
use Rattle.mt_scan.specs.Pages as pages
use Rattle.mt_scan.specs.Streams.{Step, Runs, Follow, page_after, GoesOn}
use Rattle.mt_scan.proofs.FitLaws.{few_rows}
use Rattle.mt_scan.proofs.NeedLaws.{unit_next, same_replies}
use Rattle.mt_world.specs.declared.actor.ClientCall.TheVariants as client
use Rattle.mt_world.specs.declared.actor.Actor.{Actor}
use Rattle.mt_world.specs.declared.actor.Actor.TheVariants.{Client}
use Rattle.mt_world.specs.declared.actor.Answer.{Answer}
use Rattle.mt_world.specs.declared.actor.Answer.TheVariants.{Written, Refused, Rows, Page, Moved, Cleaned, NotSealed, NotMigrated}
use Rattle.mt_world.specs.declared.actor.Progress.{Progress}
use Rattle.mt_world.specs.declared.actor.Progress.TheVariants.{More, Done}
use Rattle.mt_world.specs.declared.actor.TurnFault.{TurnFault}
use Rattle.mt_world.specs.declared.actor.TurnFault.TheVariants.{StoreFault, HistoryFull, NoMemory}
use Rattle.mt_world.specs.Worlds.{WorldState, ForPair, Tells, window_of, table_now, next_number, entry_of as entry_with}
use Rattle.mt_world.specs.Moves.{NewEntry, Move, PageMoves, page_move, unit_entry, page_of}
use Rattle.mt_world.specs.Logs.{one_if, number_of_next, number_after, entries_with}
use Rattle.mt_world.specs.Turns.{stage_of, RepliesAt, Turns, EitherRose}
use Rattle.mt_world.specs.WholeCalls.{Mark, MarkedTurn, last_turn, Finishes, end_of}
use Rattle.mt_world.specs.PageCalls.{with_one, entries_left, place_behind, ArePlaced, all_but_last, numbered, with_entries, AreStepEntries, entries_at_end, IsPageAnswer, PageAnswers}
use Rattle.mt_world.proofs.PairLaws.{at_pair, call_fits}
use Rattle.mt_world.proofs.EntryLaws.{window_stays, table_grows}
use Rattle.mt_world.proofs.TurnLaws.{moved}
use Rattle.mt_world.proofs.PageSteps.{same_more}
use Rattle.mt_world.proofs.PageEntries.{same_unit}
use Rattle.mt_world.proofs.PageFinish.{told_is, page_goes_on}
use Rattle.mt_world.proofs.FinishLaws.{rose_from, calls_grow, IsEntryOf, mark_is, last_answers, then_same}

-- ---- entries one after the other

own_next : (numbers : List (ℕ × ℕ)) (caller : ℕ) → number_of_next numbers caller caller ≡ next_number numbers caller + 1
own_next numbers caller = (let same : nat_eq caller caller ≡ true = grind (arith, nat_tests) in ap (λ b. next_number numbers caller + one_if b) same)

-- entries behind one more, or none
joined : (entry : Option NewEntry) (xs : List Entry) (k l : List (ℕ × ℕ)) (caller : ℕ) (es : List NewEntry) → next_number k caller ≡ number_after entry caller l caller
    → entries_with xs l caller entry ++ numbered caller (next_number k caller) es ≡ xs ++ numbered caller (next_number l caller) (with_one entry es)
joined None xs k l caller es same = ap (λ n. xs ++ numbered caller n es) same
joined (Some e) xs k l caller es same = append_assoc xs (entry_with l caller e.what ∷ []) (numbered caller (next_number k caller) es) ∙ ap (λ n. xs ++ entry_with l caller e.what ∷ numbered caller n es) (same ∙ own_next l caller)

alone : (entry : Option NewEntry) (xs : List Entry) (l : List (ℕ × ℕ)) (caller : ℕ) → entries_with xs l caller entry ≡ xs ++ numbered caller (next_number l caller) (with_one entry [])
alone None xs l caller = sym (append-nil xs)
alone (Some e) xs l caller = refl

end_then : (w v : WorldState) (caller : ℕ) (entry : Option NewEntry) → v.history.first ≡ w.history.first → v.history.entries ≡ entries_with w.history.entries w.numbers caller entry → end_of v ≡ place_behind entry (end_of w)
end_then w v caller entry first entries = ap (λ n. n + length v.history.entries) first ∙ ap (λ es. w.history.first + length es) entries ∙ by entry where
  by : (entry : Option NewEntry) → w.history.first + length (entries_with w.history.entries w.numbers caller entry) ≡ place_behind entry (w.history.first + length w.history.entries)
  by None = refl
  by (Some e) = (let longer : length (w.history.entries ++ entry_with w.numbers caller e.what ∷ []) ≡ length w.history.entries + 1 = length-append w.history.entries (entry_with w.numbers caller e.what ∷ []) in omega (arith, longer))

-- a unit's entry changes nothing
same_after : (table : Table) (kept : Option Filter) (unit : PageUnit) → after_entry table (entry_of kept unit) ≡ table
same_after table kept (Scan pk from upto) = refl
same_after table kept (Gap from to) = refl

-- what holds where both stores tell, and speaks of neither
from_told : (w : WorldState) (P : Type 0) → Tells w → ForPair w (λ p. P) → P
from_told w P tells h =
    let x = told_is w.old_store.told tells.old in
    let y = told_is w.new_store.told tells.new in
    at_pair w (λ p. P) x.0 y.0 x.1 y.1 h

-- what a unit's turn says of the table at its place, where both stores tell
pub unit_true : (w w' : WorldState) (caller : ℕ) (call : pages.Page) (r : Result Progress TurnFault) (a' : Actor) (kept : Option Filter) (unit : PageUnit) (rows : List Entity) → IsSameFilter kept call.filter
    → Turns w caller (Client (client.Page call)) r (Some (unit_entry kept unit rows)) w' a' → Tells w' → Delivers call.filter unit (table_now w) rows
unit_true w w' caller call r a' kept unit rows equal t tells = (
  by unit (from_told w' (IsTrueAtEnd (window_of w) (entry_of kept unit)) tells t.says),
  same_replies kept call.filter unit (table_now w) rows equal (from_told w' (Replies (entry_of kept unit) (table_now w) (told.Rows rows)) tells t.replies),
) where
  by : (u : PageUnit) → IsTrueAtEnd (window_of w) (entry_of kept u) → IsTrueUnit u (table_now w)
  by (Scan pk from upto) h = tt
  by (Gap from to) h = h

-- ---- a turn that goes on, and then the rest

all_turned : {A : Type 0} (P Q : A → Type 0) (xs : List A) → ((x : A) → P x → Q x) → AllByRecursion P xs → AllByRecursion Q xs
all_turned P Q [] f h = tt
all_turned P Q (x ∷ xs) f h = (f x h.0, all_turned P Q xs f h.1)

module _ (next : Mark) (marks : List Mark) (w v w' : WorldState) (caller : ℕ) (call : pages.Page) (b : Actor) (r : Result Answer TurnFault) where
  abbrev TurnOf : Option NewEntry → Type 0
  TurnOf entry = Turns w caller (Client (client.Page call)) (Ok More) entry v b

  abbrev Rest : pages.Page → Type 0
  Rest to = PageAnswers v caller to (next ∷ marks) r w'

  abbrev Whole : Option NewEntry → Type 0
  Whole entry = PageAnswers w caller call (record { place = end_of w; entry = entry } ∷ next ∷ marks) r w'

  full_then : (entry : Option NewEntry) (filter : Option Filter) → TurnOf entry → (es : List NewEntry) → filter ≡ call.filter
      → not (has_room (record v.history { entries = with_entries v caller es }) (need_of_page filter)) ≡ not (has_room (record w.history { entries = with_entries w caller (with_one entry es) }) (need_of_page call.filter))
  full_then entry filter t es same =
      ap (λ f. not (has_room (record v.history { entries = with_entries v caller es }) (need_of_page f))) same
      ∙ ap (λ xs. not (nat_lt (length xs) v.history.limit && nat_le (total_weight xs + need_of_page call.filter) (2 ^ 30)))
      (ap (λ xs. xs ++ numbered caller (next_number v.numbers caller) es) t.adds.entries ∙ joined entry w.history.entries v.numbers w.numbers caller es (t.adds.numbers caller))
      ∙ ap (λ n. not (nat_lt (length (with_entries w caller (with_one entry es))) n && nat_le (total_weight (with_entries w caller (with_one entry es)) + need_of_page call.filter) (2 ^ 30))) t.same.limit

  -- what comes of the steps, which are the page's
  record Comes (entry : Option NewEntry) : Type 0 where
    pub steps : List Step
    pub tables : AllByRecursion (λ (s : Step). s.table ≡ table_now w) steps
    pub goes : GoesOn call steps
    pub follow : Follow call.bounds call.place steps (page_after call steps).place
    pub runs : Tells w' → Runs call.bounds call.filter call.place steps (page_after call steps).place
    pub answered : IsPageAnswer (page_after call steps) r
    pub left : AreStepEntries call.filter steps (entries_at_end r) (with_one entry (entries_left (next ∷ marks)))
    pub replies : Tells w' → AllByRecursion (λ (e : NewEntry). Replies e.what (table_now w) e.reply) (with_one entry (entries_left (next ∷ marks)))

  then_page : (entry : Option NewEntry) (to : pages.Page) → TurnOf entry → Rest to → to.filter ≡ call.filter → Comes entry → Whole entry
  then_page entry to t rest filter comes =
      let k = moved (stage_of w) (stage_of v) (Client (client.Page call)) b (Ok More) entry t.moves in
      record {
        same = then_same w v w' t.same rest.same;
        retired = rest.retired ∙ t.retired;
        tells = λ tells. t.tells (rest.tells tells);
        steps = comes.steps;
        tables = comes.tables;
        goes = comes.goes;
        follow = comes.follow;
        runs = comes.runs;
        answered = comes.answered;
        left = comes.left;
        entries = rest.entries ∙ ap (λ xs. xs ++ numbered caller (next_number v.numbers caller) (entries_left (next ∷ marks))) t.adds.entries ∙ joined entry w.history.entries v.numbers w.numbers caller (entries_left (next ∷ marks)) (t.adds.numbers caller);
        placed = (refl, subst (λ n. ArePlaced n (next ∷ marks)) (end_then w v caller entry t.same.first t.adds.entries) rest.placed);
        replies = comes.replies;
        full = rest.full ∙ full_then entry to.filter t (entries_left (all_but_last (next ∷ marks))) filter;
        cause = λ is. elim (rest.cause is) as (λ _. EitherRose w w') [
          | inl rose ↦ inl (rose_from w.old_store.faults v.old_store.faults w'.old_store.faults k.old_faults rose)
          | inr rose ↦ inr (rose_from w.new_store.faults v.new_store.faults w'.new_store.faults k.new_faults rose)
        ];
        old_faults = (let x = k.old_faults in let y = rest.old_faults in omega (arith, x, y));
        new_faults = (let x = k.new_faults in let y = rest.new_faults in omega (arith, x, y));
        calls = (let x = calls_grow (stage_of w) (stage_of v) (Client (client.Page call)) b (Ok More) entry t.moves in let y = rest.calls in omega (arith, x, y));
      }

  tables_then : (steps : List Step) → table_now v ≡ table_now w → AllByRecursion (λ (s : Step). s.table ≡ table_now v) steps → AllByRecursion (λ (s : Step). s.table ≡ table_now w) steps
  tables_then steps table h = all_turned (λ (s : Step). s.table ≡ table_now v) (λ (s : Step). s.table ≡ table_now w) steps (λ s e. e ∙ table) h

  replies_then : (es : List NewEntry) → table_now v ≡ table_now w → AllByRecursion (λ (e : NewEntry). Replies e.what (table_now v) e.reply) es → AllByRecursion (λ (e : NewEntry). Replies e.what (table_now w) e.reply) es
  replies_then es table h = subst (λ t. AllByRecursion (λ (e : NewEntry). Replies e.what t e.reply) es) table h

  -- ---- within a unit

  goes_half : (half : Half) (steps : List Step) → GoesOn (pages.with_half call half) steps → GoesOn call steps
  goes_half half [] h = h
  goes_half half (s ∷ steps) h = h

  place_half : (half : Half) (steps : List Step) → (page_after (pages.with_half call half) steps).place ≡ (page_after call steps).place
  place_half half [] = refl
  place_half half (s ∷ steps) = refl

  answer_half : (half : Half) (r : Result Answer TurnFault) (steps : List Step) → IsPageAnswer (page_after (pages.with_half call half) steps) r → IsPageAnswer (page_after call steps) r
  answer_half half r (s ∷ steps) h = h
  answer_half half (Ok (Page whole)) [] h = h
  answer_half half (Ok (Written tags)) [] h = h
  answer_half half (Ok (Refused refusal)) [] h = h
  answer_half half (Ok (Rows rows)) [] h = h
  answer_half half (Ok Moved) [] h = h
  answer_half half (Ok Cleaned) [] h = h
  answer_half half (Ok NotSealed) [] h = h
  answer_half half (Ok (NotMigrated pk)) [] h = h
  answer_half half (Err fault) [] h = tt

  then_more : (half : Half) → TurnOf None → Rest (pages.with_half call half) → Whole None
  then_more half t rest = then_page None (pages.with_half call half) t rest refl (record {
    steps = rest.steps;
    tables = tables_then rest.steps table rest.tables;
    goes = goes_half half rest.steps rest.goes;
    follow = subst (Follow call.bounds call.place rest.steps) (place_half half rest.steps) rest.follow;
    runs = λ tells. subst (Runs call.bounds call.filter call.place rest.steps) (place_half half rest.steps) (rest.runs tells);
    answered = answer_half half r rest.steps rest.answered;
    left = rest.left;
    replies = λ tells. replies_then (entries_left (next ∷ marks)) table (rest.replies tells);
  }) where
    table : table_now v ≡ table_now w
    table = ap table_at_end (window_stays w v t.same t.adds.entries)

  -- ---- behind a unit

  then_unit : (kept : Option Filter) (unit : PageUnit) (rows : List Entity) → IsSameFilter kept call.filter → IsNext call.place unit → length rows ≤ call.room → TurnOf (Some (unit_entry kept unit rows)) → Rest (pages.after call unit rows) → Whole (Some (unit_entry kept unit rows))
  then_unit kept unit rows equal comes_next few t rest = then_page (Some (unit_entry kept unit rows)) (pages.after call unit rows) t rest refl (record {
    steps = record { unit = unit; table = table_now w; rows = rows } ∷ rest.steps;
    tables = (refl, tables_then rest.steps table rest.tables);
    goes = (t.fits.1, few, rest.goes);
    follow = (comes_next, rest.follow);
    runs = λ tells. (comes_next, unit_true w v caller call (Ok More) b kept unit rows equal t (rest.tells tells), rest.runs tells);
    answered = rest.answered;
    left = (((kept, equal, refl), refl), rest.left);
    replies = λ tells. (answers (rest.tells tells), replies_then (entries_left (next ∷ marks)) table (rest.replies tells));
  }) where
    table : table_now v ≡ table_now w
    table = table_grows w v (entry_with w.numbers caller (entry_of kept unit)) t.same t.adds.entries ∙ same_after (table_now w) kept unit

    answers : Tells v → Replies (entry_of kept unit) (table_now w) (told.Rows rows)
    answers tells = from_told v (Replies (entry_of kept unit) (table_now w) (told.Rows rows)) tells t.replies

  -- ---- by what the turn said

  then_by : (entry : Option NewEntry) (to : pages.Page) (kept : Option Filter) (rows : List Entity) (answer : StoreReply) (said : PageProgress) → More ≡ (page_move to kept rows said).progress → entry ≡ (page_move to kept rows said).entry → to.rows ≡ call.rows ++ rows → IsSameFilter kept call.filter
      → FitsAsk (pages.asks call).ask answer → pages.Absorbs call answer (Ok said) to → TurnOf entry → Rest to → Whole entry
  then_by entry to kept rows answer page.More e leaves added equal fit h t rest =
      let same = same_unit call to answer h in
      subst Whole (sym leaves) (then_more same.0 (subst TurnOf leaves t) (subst Rest same.1 rest))
  then_by entry to kept rows answer (page.Unit unit) e leaves added equal fit h t rest =
      let is : h.0 ≡ rows = same_more call.rows h.0 rows (sym (ap (λ (x : pages.Page). x.rows) h.2) ∙ added) in
      let makes = subst (λ es. pages.Makes call (pages.lead_of call.place call.half answer) unit es) is h.1 in
      let to_is : to ≡ pages.after call unit rows = h.2 ∙ ap (pages.after call unit) is in
      subst Whole (sym leaves) (then_unit kept unit rows equal (unit_next call t.fits.0 answer fit unit rows makes) (few_rows call (pages.lead_of call.place call.half answer) unit rows makes) (subst TurnOf leaves t) (subst Rest to_is rest))
  then_by entry to kept rows answer (page.Last unit) e leaves added equal fit h t rest = absurd cc

-- ---- the last turn

module _ (m : Mark) (w w' : WorldState) (caller : ℕ) (call : pages.Page) (a' : Actor) where
  abbrev Ends : Result Answer TurnFault → Type 0
  Ends r = MarkedTurn m w caller (Client (client.Page call)) (last_turn r) w' a'

  replies_one : (entry : Option NewEntry) → RepliesAt w entry w' → Tells w' → AllByRecursion (λ (e : NewEntry). Replies e.what (table_now w) e.reply) (with_one entry [])
  replies_one None h tells = tt
  replies_one (Some e) h tells = (from_told w' (Replies e.what (table_now w) e.reply) tells h, tt)

  -- what comes of the last unit, if there is one
  record LastComes (r : Result Answer TurnFault) : Type 0 where
    pub steps : List Step
    pub tables : AllByRecursion (λ (s : Step). s.table ≡ table_now w) steps
    pub goes : GoesOn call steps
    pub follow : Follow call.bounds call.place steps (page_after call steps).place
    pub runs : Tells w' → Runs call.bounds call.filter call.place steps (page_after call steps).place
    pub answered : IsPageAnswer (page_after call steps) r
    pub left : AreStepEntries call.filter steps (entries_at_end r) (with_one m.entry [])

  ends_page : (r : Result Answer TurnFault) → Ends r → IsEntryOf r m.entry m.entry → LastComes r → PageAnswers w caller call (m ∷ []) r w'
  ends_page r marked of comes =
      let c = last_answers m w w' caller (Client (client.Page call)) a' m.entry r refl marked of in
      record {
        same = c.same;
        retired = c.retired;
        tells = c.tells;
        steps = comes.steps;
        tables = comes.tables;
        goes = comes.goes;
        follow = comes.follow;
        runs = comes.runs;
        answered = comes.answered;
        left = comes.left;
        entries = c.entries ∙ alone m.entry w.history.entries w.numbers caller;
        placed = (marked.place, tt);
        replies = replies_one m.entry c.replies;
        full = c.full ∙ ap (λ xs. not (nat_lt (length xs) w.history.limit && nat_le (total_weight xs + need_of_page call.filter) (2 ^ 30))) (sym (append-nil w.history.entries));
        cause = c.cause;
        old_faults = c.old_faults;
        new_faults = c.new_faults;
        calls = c.calls;
      }

  no_step : (fault : TurnFault) → with_one m.entry [] ≡ entries_at_end (Err fault) → LastComes (Err fault)
  no_step fault left = record { steps = []; tables = tt; goes = tt; follow = refl; runs = λ tells. refl; answered = tt; left = left }

  last_by : (answer : Answer) (reply : StoreReply) (to : pages.Page) (kept : Option Filter) (rows : List Entity) (said : PageProgress) → Done answer ≡ (page_move to kept rows said).progress → m.entry ≡ (page_move to kept rows said).entry → to.rows ≡ call.rows ++ rows → IsSameFilter kept call.filter
      → FitsAsk (pages.asks call).ask reply → pages.Absorbs call reply (Ok said) to → Ends (Ok answer) → PageAnswers w caller call (m ∷ []) (Ok answer) w'
  last_by answer reply to kept rows page.More e leaves added equal fit h marked = absurd cc
  last_by answer reply to kept rows (page.Unit unit) e leaves added equal fit h marked = absurd cc
  last_by answer reply to kept rows (page.Last unit) e leaves added equal fit h marked = ends_page (Ok answer) marked (record { is = refl; answered = subst IsSome (sym leaves) refl }) (record {
    steps = record { unit = unit; table = table_now w; rows = rows } ∷ [];
    tables = (refl, tt);
    goes = (marked.turn.fits.1, few_rows call (pages.lead_of call.place call.half reply) unit rows makes, tt);
    follow = (unit_next call marked.turn.fits.0 reply fit unit rows makes, refl);
    runs = λ tells. (unit_next call marked.turn.fits.0 reply fit unit rows makes, unit_true w w' caller call (Ok (Done answer)) a' kept unit rows equal t tells, refl);
    answered = subst (λ a. IsPageAnswer (pages.after call unit rows) (Ok a)) (sym answer_is) (ap page_of to_is, sym (ap pages.is_over to_is) ∙ h.3);
    left = subst (λ o. AreStepEntries call.filter (record { unit = unit; table = table_now w; rows = rows } ∷ []) [] (with_one o [])) (sym leaves) (((kept, equal, refl), refl), refl);
  }) where
    is : h.0 ≡ rows
    is = same_more call.rows h.0 rows (sym (ap (λ (x : pages.Page). x.rows) h.2) ∙ added)

    makes : pages.Makes call (pages.lead_of call.place call.half reply) unit rows
    makes = subst (λ es. pages.Makes call (pages.lead_of call.place call.half reply) unit es) is h.1

    to_is : to ≡ pages.after call unit rows
    to_is = h.2 ∙ ap (pages.after call unit) is

    answer_is : answer ≡ Page (page_of to)
    answer_is = cc

    t : Turns w caller (Client (client.Page call)) (Ok (Done answer)) (Some (unit_entry kept unit rows)) w' a'
    t = subst (λ o. Turns w caller (Client (client.Page call)) (Ok (Done answer)) o w' a') leaves marked.turn

  page_ends : (r : Result Answer TurnFault) → Ends r → PageAnswers w caller call (m ∷ []) r w'
  page_ends (Ok answer) marked =
      let k = marked.turn.moves in
      let b : PageMoves call k.1 (record { progress = Done answer; entry = m.entry; after = a' }) = k.4 in
      last_by answer k.1 b.to b.filter b.rows b.said (ap (λ (x : Move). x.progress) b.is) (ap (λ (x : Move). x.entry) b.is) b.added b.equal
      (subst (λ x. FitsAsk x.ask k.1) k.2 (call_fits w.old_store w.new_store w'.old_store w'.new_store k.0.side k.0.ask k.1 k.3.on)) b.absorbs marked
  page_ends (Err StoreFault) marked = ends_page (Err StoreFault) marked (record { is = refl; answered = tt }) (no_step StoreFault (ap (λ o. with_one o []) marked.turn.moves.3))
  page_ends (Err HistoryFull) marked = ends_page (Err HistoryFull) marked (record { is = refl; answered = tt }) (no_step HistoryFull (ap (λ o. with_one o []) marked.turn.moves.1))
  page_ends (Err NoMemory) marked = ends_page (Err NoMemory) marked (record { is = refl; answered = tt }) (no_step NoMemory (ap (λ o. with_one o []) marked.turn.moves.1))

-- ---- a whole call

-- turns that end the call of a page: its entries are its units', in order, one a unit, and its answer the page behind them
pub page_answers : (marks : List Mark) (w w' : WorldState) (caller : ℕ) (call : pages.Page) (r : Result Answer TurnFault) → Finishes marks w caller (Client (client.Page call)) r w' → PageAnswers w caller call marks r w'
page_answers [] w w' caller call r f = absurd f
page_answers (m ∷ []) w w' caller call r f = page_ends m w w' caller call f.0 r f.1
page_answers (m ∷ next ∷ marks) w w' caller call r f =
    let g = page_goes_on w f.0 call m.entry f.1 f.2.turn.moves in
    let rest = page_answers (next ∷ marks) f.0 w' caller g.to r (subst (λ b. Finishes (next ∷ marks) f.0 caller b r w') g.after f.3) in
    let fit = subst (λ x. FitsAsk x.ask g.answer) g.asks (call_fits w.old_store w.new_store f.0.old_store f.0.new_store g.ask.side g.ask.ask g.answer g.one.on) in
    subst (λ x. PageAnswers w caller call (x ∷ next ∷ marks) r w') (sym (mark_is m (end_of w) m.entry f.2.place refl))
    (then_by next marks w f.0 w' caller call f.1 r m.entry g.to g.filter g.rows g.answer g.said g.more g.leaves g.added g.equal fit g.absorbs f.2.turn rest)
