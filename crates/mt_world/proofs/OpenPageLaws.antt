-- A page that is open, through turns of its own and of others.
use Rattle.std.proofs.Common.{◌≡◌, ◌∙◌, ℕ, zero, suc, ◌+◌, ◌≤◌, ◌<◌, true, false, List, [], ◌∷◌, ◌++◌, take, length, refl, sym, ap, subst, arith, append-nil, length-append, Option, Some, None, Result, Ok}
use Rattle.std.specs.List.{slice_get}
use Rattle.std.proofs.lemmas.List.{take-append-le, take_at}
use Rattle.mt_model.specs.declared.key.Key.{Key}
use Rattle.mt_model.specs.declared.entity.Entity.{Entity}
use Rattle.mt_filter.specs.declared.filter.Filter.{Filter}
use Rattle.mt_match.specs.declared.bounds.Bounds.{Bounds}
use Rattle.mt_chain.specs.declared.row.Stored.{Stored}
use Rattle.mt_chain.specs.declared.ask.StoreReply.{StoreReply}
use Rattle.mt_chain.specs.Asks.{FitsAsk}
use Rattle.mt_chain.specs.Table.{table_of, rows_of as as_rows}
use Rattle.mt_history.specs.declared.entry.Entry.{Entry}
use Rattle.mt_history.specs.Window.{Window, replay}
use Rattle.mt_scan.specs.declared.unit.Unit.{Unit as PageUnit}
use Rattle.mt_scan.specs.declared.unit.Place.{Place}
use Rattle.mt_scan.specs.declared.unit.Token.{Token}
use Rattle.mt_scan.specs.declared.unit.PageProgress.{PageProgress}
use Rattle.mt_scan.specs.declared.unit.PageProgress.TheVariants as page
use Rattle.mt_scan.specs.declared.saw.Half.{Half}
use Rattle.mt_scan.specs.Units.{IsSameFilter, IsEntryOf, IsNext, Delivers, after_unit}
use Rattle.mt_scan.specs.Pages as pages
use Rattle.mt_scan.specs.Streams.{Step, IsStable, Runs, page_after, GoesOn, IsWhole}
use Rattle.mt_scan.proofs.FitLaws.{few_rows}
use Rattle.mt_scan.proofs.NeedLaws.{unit_next}
use Rattle.mt_world.specs.declared.actor.ClientCall.TheVariants as client
use Rattle.mt_world.specs.declared.actor.Actor.{Actor}
use Rattle.mt_world.specs.declared.actor.Actor.TheVariants.{Client}
use Rattle.mt_world.specs.declared.actor.Answer.{Answer}
use Rattle.mt_world.specs.declared.actor.Answer.TheVariants.{Page}
use Rattle.mt_world.specs.declared.actor.Progress.{Progress}
use Rattle.mt_world.specs.declared.actor.Progress.TheVariants.{More, Done}
use Rattle.mt_world.specs.declared.actor.TurnFault.{TurnFault}
use Rattle.mt_world.specs.Worlds.{WorldState, Tells, window_of, table_now, entry_of as entry_with}
use Rattle.mt_world.specs.Moves.{NewEntry, Move, PageMoves, page_move, unit_entry, page_of}
use Rattle.mt_world.specs.Logs.{entries_with}
use Rattle.mt_world.specs.Turns.{IsSameWorld, Turns}
use Rattle.mt_world.specs.PageCalls.{with_one, AreStepEntries}
use Rattle.mt_world.specs.OpenPages.{IsEntered, AreEntered, IsOpen}
use Rattle.mt_world.proofs.PairLaws.{call_fits}
use Rattle.mt_world.proofs.PageSteps.{same_more}
use Rattle.mt_world.proofs.PageEntries.{same_unit}
use Rattle.mt_world.proofs.PageFinish.{page_goes_on}
use Rattle.mt_world.proofs.PageAnswerLaws.{unit_true}

-- ---- entries keep their places

within : (xs : List Entry) (n : ℕ) (e : Entry) → slice_get xs n ≡ Some e → n < length xs
within [] n e h = absurd (let x = h in cc)
within (x ∷ xs) zero e h = omega arith
within (x ∷ xs) (suc n) e h = (let lt = within xs n e h in omega (arith, lt))

still_there : (xs more : List Entry) (n : ℕ) (e : Entry) → slice_get xs n ≡ Some e → slice_get (xs ++ more) n ≡ Some e
still_there [] more n e h = absurd (let x = h in cc)
still_there (x ∷ xs) more zero e h = h
still_there (x ∷ xs) more (suc n) e h = still_there xs more n e h

last_there : (xs : List Entry) (e : Entry) → slice_get (xs ++ e ∷ []) (length xs) ≡ Some e
last_there [] e = refl
last_there (x ∷ xs) e = last_there xs e

entry_kept : (h k : Window) (more : List Entry) (caller : ℕ) (filter : Option Filter) (n : ℕ) (s : Step) → k.base ≡ h.base → k.entries ≡ h.entries ++ more → IsEntered h caller filter n s → IsEntered k caller filter n s
entry_kept h k more caller filter n s base entries i = record {
  entry = i.entry;
  there = ap (λ xs. slice_get xs n) entries ∙ still_there h.entries more n i.entry i.there;
  own = i.own;
  what = i.what;
  table = i.table ∙ ap (λ b. replay b (take n h.entries)) (sym base) ∙ ap (replay k.base) (sym (ap (take n) entries ∙ take-append-le n h.entries more (let lt = within h.entries n i.entry i.there in omega (arith, lt))));
}

entered_kept : (h k : Window) (more : List Entry) (caller : ℕ) (filter : Option Filter) (from to end : ℕ) (steps : List Step) → k.base ≡ h.base → k.entries ≡ h.entries ++ more → to ≤ end → AreEntered h caller filter from steps to → AreEntered k caller filter from steps end
entered_kept h k more caller filter from to end [] base entries le a = omega (arith, le, a)
entered_kept h k more caller filter from to end (s ∷ steps) base entries le a = (a.0, a.1, entry_kept h k more caller filter a.0 s base entries a.2, entered_kept h k more caller filter (a.0 + 1) to end steps base entries le a.3)

-- one more at the end
entered_more : (h k : Window) (e : Entry) (caller : ℕ) (filter : Option Filter) (from : ℕ) (steps : List Step) (s : Step) → k.base ≡ h.base → k.entries ≡ h.entries ++ e ∷ [] → e.caller ≡ caller → IsEntryOf s.unit filter e.what → s.table ≡ replay h.base h.entries
    → AreEntered h caller filter from steps (length h.entries) → AreEntered k caller filter from (steps ++ s ∷ []) (length k.entries)
entered_more h k e caller filter from [] s base entries own what table a = (
  length h.entries,
  a,
  record {
    entry = e;
    there = ap (λ xs. slice_get xs (length h.entries)) entries ∙ last_there h.entries e;
    own = own;
    what = what;
    table = table ∙ ap (λ b. replay b h.entries) (sym base) ∙ ap (replay k.base) (sym (ap (take (length h.entries)) entries ∙ take_at h.entries (e ∷ []) (length h.entries) refl));
  },
  (let longer : length k.entries ≡ length h.entries + 1 = ap length entries ∙ length-append h.entries (e ∷ []) in omega (arith, longer)),
)
entered_more h k e caller filter from (r ∷ steps) s base entries own what table a =
    (a.0, a.1, entry_kept h k (e ∷ []) caller filter a.0 r base entries a.2, entered_more h k e caller filter (a.0 + 1) steps s base entries own what table a.3)

ends_behind : (h : Window) (caller : ℕ) (filter : Option Filter) (from to : ℕ) (steps : List Step) → AreEntered h caller filter from steps to → from ≤ to
ends_behind h caller filter from to [] a = a
ends_behind h caller filter from to (s ∷ steps) a = (let rest = ends_behind h caller filter (a.0 + 1) to steps a.3 in let le = a.1 in omega (arith, rest, le))

-- a row that is the same at all places of the steps is the same at each step
pub stable_at : (h : Window) (caller : ℕ) (filter : Option Filter) (from to : ℕ) (steps : List Step) (key : Key) (row : Stored) → AreEntered h caller filter from steps to
    → ((n : ℕ) → from ≤ n → n < to → replay h.base (take n h.entries) key ≡ Some row) → IsStable key row steps
stable_at h caller filter from to [] key row a f = tt
stable_at h caller filter from to (s ∷ steps) key row a f =
    let rest = ends_behind h caller filter (a.0 + 1) to steps a.3 in
    let le = a.1 in
    (ap (λ t. t key) a.2.table ∙ f a.0 le (omega (arith, rest)), stable_at h caller filter (a.0 + 1) to steps key row a.3 (λ n low high. f n (omega (arith, le, low)) high))

-- ---- steps of a page

runs_more : (bounds : Bounds) (filter : Option Filter) (start place : Place) (steps : List Step) (s : Step) → Runs bounds filter start steps place → IsNext place s.unit → Delivers filter s.unit s.table s.rows → Runs bounds filter start (steps ++ s ∷ []) (after_unit bounds s.unit)
runs_more bounds filter start place [] s r next delivers = (subst (λ x. IsNext x s.unit) r next, delivers, refl)
runs_more bounds filter start place (t ∷ steps) s r next delivers = (r.0, r.1, runs_more bounds filter (after_unit bounds t.unit) place steps s r.2 next delivers)

goes_more : (start : pages.Page) (steps : List Step) (s : Step) → GoesOn start steps → pages.is_over (page_after start steps) ≡ false → length s.rows ≤ (page_after start steps).room → GoesOn start (steps ++ s ∷ [])
goes_more start [] s goes going few = (going, few, tt)
goes_more start (t ∷ steps) s goes going few = (goes.0, goes.1, goes_more (pages.after start t.unit t.rows) steps s goes.2 going few)

after_more : (start : pages.Page) (steps : List Step) (s : Step) → page_after start (steps ++ s ∷ []) ≡ pages.after (page_after start steps) s.unit s.rows
after_more start [] s = refl
after_more start (t ∷ steps) s = after_more (pages.after start t.unit t.rows) steps s

same_filter : (start : pages.Page) (steps : List Step) → (page_after start steps).filter ≡ start.filter
same_filter start [] = refl
same_filter start (s ∷ steps) = same_filter (pages.after start s.unit s.rows) steps

same_bounds : (start : pages.Page) (steps : List Step) → (page_after start steps).bounds ≡ start.bounds
same_bounds start [] = refl
same_bounds start (s ∷ steps) = same_bounds (pages.after start s.unit s.rows) steps

-- ---- turns of others

-- at its beginning it has no units
pub open_begins : (w : WorldState) (caller : ℕ) (call : pages.Page) → IsOpen w caller call (length w.history.entries) [] call
open_begins w caller call = record { came = refl; goes = tt; runs = λ tells. refl; entered = omega arith }

-- while others take turns its units stay where they are
pub open_beside : (w w' : WorldState) (caller other : ℕ) (start call : pages.Page) (from : ℕ) (steps : List Step) (b b' : Actor) (r : Result Progress TurnFault) (entry : Option NewEntry) → Turns w other b r entry w' b' → IsOpen w caller start from steps call → IsOpen w' caller start from steps call
open_beside w w' caller other start call from steps b b' r entry t o = record {
  came = o.came;
  goes = o.goes;
  runs = λ tells. o.runs (t.tells tells);
  entered = by entry t.adds.entries;
} where
  base : table_of (as_rows w'.base) ≡ table_of (as_rows w.base)
  base = ap (λ rows. table_of (as_rows rows)) t.same.base

  kept : (more : List Entry) → w'.history.entries ≡ w.history.entries ++ more → AreEntered (window_of w') caller start.filter from steps (length w'.history.entries)
  kept more entries = entered_kept (window_of w) (window_of w') more caller start.filter from (length w.history.entries) (length w'.history.entries) steps base entries
      (let longer : length w'.history.entries ≡ length w.history.entries + length more = ap length entries ∙ length-append w.history.entries more in omega (arith, longer)) o.entered

  by : (entry : Option NewEntry) → w'.history.entries ≡ entries_with w.history.entries w.numbers other entry → AreEntered (window_of w') caller start.filter from steps (length w'.history.entries)
  by None entries = kept [] (entries ∙ sym (append-nil w.history.entries))
  by (Some e) entries = kept (entry_with w.numbers other e.what ∷ []) entries

-- ---- turns of its own

-- the page with this half is one with its own
with_own : (page over : pages.Page) (half : Half) → page ≡ pages.with_half over half → page ≡ pages.with_half over page.half
with_own page over half e = e ∙ ap (pages.with_half over) (sym (ap (λ (x : pages.Page). x.half) e))

-- an open page after a turn of its own that goes on: at most one unit more, with its entry
pub record OpenTurn (w' : WorldState) (caller : ℕ) (start call : pages.Page) (from : ℕ) (steps : List Step) (entry : Option NewEntry) (a' : Actor) : Type 0 where
  pub to : pages.Page
  pub after : a' ≡ Client (client.Page to)
  pub more : List Step
  pub left : AreStepEntries call.filter more [] (with_one entry [])
  pub stays : IsOpen w' caller start from (steps ++ more) to

-- and after its last: the page is whole, and this is its answer
pub record OpenEnds (w' : WorldState) (caller : ℕ) (start : pages.Page) (from : ℕ) (steps : List Step) (answer : Answer) : Type 0 where
  pub goes : GoesOn start steps
  pub over : pages.is_over (page_after start steps) ≡ true
  pub runs : Tells w' → Runs start.bounds start.filter start.place steps (page_after start steps).place
  pub answered : answer ≡ Page (page_of (page_after start steps))
  pub entered : AreEntered (window_of w') caller start.filter from steps (length w'.history.entries)

module _ (w w' : WorldState) (caller : ℕ) (start call : pages.Page) (from : ℕ) (steps : List Step) (a' : Actor) (o : IsOpen w caller start from steps call) where
  base : IsSameWorld w w' → table_of (as_rows w'.base) ≡ table_of (as_rows w.base)
  base same = ap (λ rows. table_of (as_rows rows)) same.base

  filter_is : call.filter ≡ start.filter
  filter_is = ap (λ (x : pages.Page). x.filter) o.came ∙ same_filter start steps

  bounds_is : call.bounds ≡ start.bounds
  bounds_is = ap (λ (x : pages.Page). x.bounds) o.came ∙ same_bounds start steps

  abbrev step_of : PageUnit → List Entity → Step
  step_of unit rows = record { unit = unit; table = table_now w; rows = rows }

  -- a unit that is done
  module _ (r : Result Progress TurnFault) (kept : Option Filter) (unit : PageUnit) (rows : List Entity) (answer : StoreReply) (equal : IsSameFilter kept call.filter) (fit : FitsAsk (pages.asks call).ask answer)
      (makes : pages.Makes call (pages.lead_of call.place call.half answer) unit rows) (t : Turns w caller (Client (client.Page call)) r (Some (unit_entry kept unit rows)) w' a') where
    abbrev with_step : List Step
    with_step = steps ++ step_of unit rows ∷ []

    after_is : pages.after call unit rows ≡ page_after start with_step
    after_is = ap (λ (x : pages.Page). pages.after x unit rows) o.came ∙ sym (after_more start steps (step_of unit rows))

    goes_then : GoesOn start with_step
    goes_then = goes_more start steps (step_of unit rows) o.goes (sym (ap pages.is_over o.came) ∙ t.fits.1)
        (subst (λ (x : pages.Page). length rows ≤ x.room) o.came (few_rows call (pages.lead_of call.place call.half answer) unit rows makes))

    runs_then : Tells w' → Runs start.bounds start.filter start.place with_step (page_after start with_step).place
    runs_then tells = subst (Runs start.bounds start.filter start.place with_step) (sym (ap (λ b. after_unit b unit) bounds_is) ∙ ap (λ (x : pages.Page). x.place) after_is)
        (runs_more start.bounds start.filter start.place call.place steps (step_of unit rows) (o.runs (t.tells tells)) (unit_next call t.fits.0 answer fit unit rows makes)
        (subst (λ f. Delivers f unit (table_now w) rows) filter_is (unit_true w w' caller call r a' kept unit rows equal t tells)))

    entered_then : AreEntered (window_of w') caller start.filter from with_step (length w'.history.entries)
    entered_then = entered_more (window_of w) (window_of w') (entry_with w.numbers caller (unit_entry kept unit rows).what) caller start.filter from steps (step_of unit rows) (base t.same) t.adds.entries refl
        (kept, subst (IsSameFilter kept) filter_is equal, refl) refl o.entered

  more_turn : (entry : Option NewEntry) (to : pages.Page) (kept : Option Filter) (rows : List Entity) (answer : StoreReply) (said : PageProgress) → More ≡ (page_move to kept rows said).progress → entry ≡ (page_move to kept rows said).entry → to.rows ≡ call.rows ++ rows → IsSameFilter kept call.filter
      → FitsAsk (pages.asks call).ask answer → pages.Absorbs call answer (Ok said) to → a' ≡ Client (client.Page to) → Turns w caller (Client (client.Page call)) (Ok More) entry w' a' → OpenTurn w' caller start call from steps entry a'
  more_turn entry to kept rows answer page.More e leaves added equal fit h over t =
      let same = same_unit call to answer h in
      let t' = subst (λ x. Turns w caller (Client (client.Page call)) (Ok More) x w' a') leaves t in
      record {
        to = to;
        after = over;
        more = [];
        left = ap (λ x. with_one x []) leaves;
        stays = subst (λ ss. IsOpen w' caller start from ss to) (sym (append-nil steps)) (record {
          came = with_own to (page_after start steps) same.0 (same.1 ∙ ap (λ (x : pages.Page). pages.with_half x same.0) o.came);
          goes = o.goes;
          runs = λ tells. subst (Runs start.bounds start.filter start.place steps) (sym (ap (λ (x : pages.Page). x.place) same.1)) (o.runs (t.tells tells));
          entered = entered_kept (window_of w) (window_of w') [] caller start.filter from (length w.history.entries) (length w'.history.entries) steps (base t.same) (t'.adds.entries ∙ sym (append-nil w.history.entries))
              (let len : length w'.history.entries ≡ length w.history.entries = ap length t'.adds.entries in omega (arith, len)) o.entered;
        });
      }
  more_turn entry to kept rows answer (page.Unit unit) e leaves added equal fit h over t =
      let is : h.0 ≡ rows = same_more call.rows h.0 rows (sym (ap (λ (x : pages.Page). x.rows) h.2) ∙ added) in
      let makes = subst (λ es. pages.Makes call (pages.lead_of call.place call.half answer) unit es) is h.1 in
      let to_is : to ≡ pages.after call unit rows = h.2 ∙ ap (pages.after call unit) is in
      let t' = subst (λ x. Turns w caller (Client (client.Page call)) (Ok More) x w' a') leaves t in
      let whole : to ≡ page_after start (steps ++ step_of unit rows ∷ []) = to_is ∙ after_is (Ok More) kept unit rows answer equal fit makes t' in
      record {
        to = to;
        after = over;
        more = step_of unit rows ∷ [];
        left = subst (λ x. AreStepEntries call.filter (step_of unit rows ∷ []) [] (with_one x [])) (sym leaves) (((kept, equal, refl), refl), refl);
        stays = record {
          came = subst (λ (x : pages.Page). to ≡ pages.with_half x to.half) whole refl;
          goes = goes_then (Ok More) kept unit rows answer equal fit makes t';
          runs = λ tells. subst (Runs start.bounds start.filter start.place (steps ++ step_of unit rows ∷ [])) (sym (ap (λ (x : pages.Page). x.place) whole)) (runs_then (Ok More) kept unit rows answer equal fit makes t' tells);
          entered = entered_then (Ok More) kept unit rows answer equal fit makes t';
        };
      }
  more_turn entry to kept rows answer (page.Last unit) e leaves added equal fit h over t = absurd cc

  last_turn : (entry : Option NewEntry) (answer : Answer) (to : pages.Page) (kept : Option Filter) (rows : List Entity) (reply : StoreReply) (said : PageProgress) → Done answer ≡ (page_move to kept rows said).progress → entry ≡ (page_move to kept rows said).entry → to.rows ≡ call.rows ++ rows → IsSameFilter kept call.filter
      → FitsAsk (pages.asks call).ask reply → pages.Absorbs call reply (Ok said) to → Turns w caller (Client (client.Page call)) (Ok (Done answer)) entry w' a'
      → (s : Step) × AreStepEntries call.filter (s ∷ []) [] (with_one entry []) × OpenEnds w' caller start from (steps ++ s ∷ []) answer
  last_turn entry answer to kept rows reply page.More e leaves added equal fit h t = absurd cc
  last_turn entry answer to kept rows reply (page.Unit unit) e leaves added equal fit h t = absurd cc
  last_turn entry answer to kept rows reply (page.Last unit) e leaves added equal fit h t =
      let is : h.0 ≡ rows = same_more call.rows h.0 rows (sym (ap (λ (x : pages.Page). x.rows) h.2) ∙ added) in
      let makes = subst (λ es. pages.Makes call (pages.lead_of call.place call.half reply) unit es) is h.1 in
      let to_is : to ≡ pages.after call unit rows = h.2 ∙ ap (pages.after call unit) is in
      let t' = subst (λ x. Turns w caller (Client (client.Page call)) (Ok (Done answer)) x w' a') leaves t in
      let whole : to ≡ page_after start (steps ++ step_of unit rows ∷ []) = to_is ∙ after_is (Ok (Done answer)) kept unit rows reply equal fit makes t' in
      let answer_is : answer ≡ Page (page_of to) = cc in (
        step_of unit rows,
        subst (λ x. AreStepEntries call.filter (step_of unit rows ∷ []) [] (with_one x [])) (sym leaves) (((kept, equal, refl), refl), refl),
        record {
          goes = goes_then (Ok (Done answer)) kept unit rows reply equal fit makes t';
          over = sym (ap pages.is_over whole) ∙ h.3;
          runs = runs_then (Ok (Done answer)) kept unit rows reply equal fit makes t';
          answered = answer_is ∙ ap (λ x. Page (page_of x)) whole;
          entered = entered_then (Ok (Done answer)) kept unit rows reply equal fit makes t';
        },
      )

  pub open_turn : (entry : Option NewEntry) → Turns w caller (Client (client.Page call)) (Ok More) entry w' a' → OpenTurn w' caller start call from steps entry a'
  open_turn entry t =
      let g = page_goes_on w w' call entry a' t.moves in
      more_turn entry g.to g.filter g.rows g.answer g.said g.more g.leaves g.added g.equal (subst (λ x. FitsAsk x.ask g.answer) g.asks (call_fits w.old_store w.new_store w'.old_store w'.new_store g.ask.side g.ask.ask g.answer g.one.on)) g.absorbs g.after t

  pub open_ends : (entry : Option NewEntry) (answer : Answer) → Turns w caller (Client (client.Page call)) (Ok (Done answer)) entry w' a' → (s : Step) × AreStepEntries call.filter (s ∷ []) [] (with_one entry []) × OpenEnds w' caller start from (steps ++ s ∷ []) answer
  open_ends entry answer t =
      let k = t.moves in
      let b : PageMoves call k.1 (record { progress = Done answer; entry = entry; after = a' }) = k.4 in
      last_turn entry answer b.to b.filter b.rows k.1 b.said (ap (λ (x : Move). x.progress) b.is) (ap (λ (x : Move). x.entry) b.is) b.added b.equal
      (subst (λ x. FitsAsk x.ask k.1) k.2 (call_fits w.old_store w.new_store w'.old_store w'.new_store k.0.side k.0.ask k.1 k.3.on)) b.absorbs t

-- a page that ended is whole
pub open_whole : (w' : WorldState) (caller : ℕ) (filter : Option Filter) (bounds : Bounds) (top : ℕ) (token : Option Token) (from : ℕ) (steps : List Step) (answer : Answer) → OpenEnds w' caller (pages.begun filter bounds top token) from steps answer → Tells w' → IsWhole filter bounds top token steps
open_whole w' caller filter bounds top token from steps answer ends tells = record { runs = ends.runs tells; goes = ends.goes; over = ends.over }

-- the entries of one page, and of the next behind them
pub entered_join : (h : Window) (caller : ℕ) (filter : Option Filter) (from mid to : ℕ) (xs ys : List Step) → AreEntered h caller filter from xs mid → AreEntered h caller filter mid ys to → AreEntered h caller filter from (xs ++ ys) to
entered_join h caller filter from mid to [] ys a b = earlier ys b where
  earlier : (ys : List Step) → AreEntered h caller filter mid ys to → AreEntered h caller filter from ys to
  earlier [] b = omega (arith, a, b)
  earlier (s ∷ ys) b = (b.0, (let le = b.1 in omega (arith, a, le)), b.2, b.3)
entered_join h caller filter from mid to (s ∷ xs) ys a b = (a.0, a.1, a.2, entered_join h caller filter (a.0 + 1) mid to xs ys a.3 b)
