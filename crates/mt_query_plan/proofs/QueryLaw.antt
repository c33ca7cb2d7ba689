-- A step of a query, over two told stores that are a sound pair.
use Rattle.std.proofs.Common.{◌≡◌, ◌≢◌, ℕ, Bool, true, false, cond, ◌&&◌, List, [], ◌∷◌, refl, sym, ap, ◌∙◌, subst, inl, bytes_eq, Some, None, Option, Ok}
use Rattle.std.specs.Prelude.{option_map}
use Rattle.std.proofs.lemmas.Bool.{and_parts}
use Rattle.mt_model.specs.declared.key.Key.{Key}
use Rattle.mt_model.specs.declared.entity.Entity.{Entity}
use Rattle.mt_filter.specs.declared.filter.Filter.{Filter}
use Rattle.mt_chain.specs.declared.row.Stored.{Stored}
use Rattle.mt_chain.specs.declared.row.StoredRow.{StoredRow}
use Rattle.mt_chain.specs.declared.query.Found.{Found}
use Rattle.mt_chain.specs.declared.ask.StoreAsk.{StoreAsk}
use Rattle.mt_chain.specs.declared.ask.StoreReply.{StoreReply}
use Rattle.mt_chain.specs.declared.ask.StoreReply.TheVariants as reply
use Rattle.mt_chain.specs.Rows.{row_in, shown, is_from, is_upto, is_within, rows_within}
use Rattle.mt_chain.specs.StoreCall.{Contents, IsFound}
use Rattle.mt_chain.specs.Table.{IsListing}
use Rattle.mt_chain.proofs.KeyLaws.{text_true, text_differs}
use Rattle.mt_history.specs.Replies.{in_partition, is_matched, kept_if, selected}
use Rattle.mt_meta.specs.declared.marker.Phase.{Phase}
use Rattle.mt_meta.specs.declared.marker.Phase.TheVariants.{UseOld, PreferOld, PreferNew}
use Rattle.mt_meta.specs.declared.marker.NewPhase.{NewPhase}
use Rattle.mt_meta.specs.declared.marker.NewPhase.TheVariants.{Filling, UseNew}
use Rattle.mt_meta.specs.declared.fact.Fact.{Fact}
use Rattle.mt_meta.specs.Markers.{marker_key, old_phase_of, new_phase_of}
use Rattle.mt_meta.specs.Logical.{Pair, old_says, old_state, new_says, new_state, old_at, new_at, old_state_at, new_state_at, AtFilling, AtUseNew, shown_over, row_by, logical}
use Rattle.mt_meta.specs.Sound.{IsSound}
use Rattle.mt_meta.specs.Facts.{AllPlain, Grows, is_prefer_new, is_filling}
use Rattle.mt_meta.specs.Steps.{AllHold, as_row, logical_table, with_old, with_new, PairMeans}
use Rattle.mt_chain.proofs.RangeRows.{in_whole}
use Rattle.mt_meta.specs.declared.fact.Keys.TheVariants as keys
use Rattle.mt_meta.specs.ReadRows.{kept_row}
use Rattle.mt_meta.proofs.ByMarkers.{is_write_state, shows_old, shows_none, shows_fill, shows_new, shows_nothing}
use Rattle.mt_meta.proofs.ReadLaws.{kept_within, marker_read, turned_known, turned_row, closed_read, closed_none}
use Rattle.mt_meta.proofs.Growth.{grows_self}
use Rattle.mt_meta.proofs.Actors.{plain_apart}
use Rattle.mt_query_plan.specs.declared.place.AfterOld.{AfterOld}
use Rattle.mt_query_plan.specs.declared.place.AfterOld.TheVariants.{Turned, Closed, Moved}
use Rattle.mt_query_plan.specs.declared.place.Place.{Place}
use Rattle.mt_query_plan.specs.declared.place.Place.TheVariants.{ReadOld, ReadNew}
use Rattle.mt_query_plan.specs.declared.call.QueryProgress.{QueryProgress}
use Rattle.mt_query_plan.specs.declared.call.QueryProgress.TheVariants as said
use Rattle.mt_query_plan.specs.Ranges.{range_of, from_low, row_low, row_high}
use Rattle.mt_query_plan.specs.Answers.{read_table, IsAnswer}
use Rattle.mt_query_plan.specs.Queries.{Call, Lead, again, on, answered, asks, marker_says, saw_old, phase_says, saw_new, lead_of, Comes, Absorbs, place_facts}
use Rattle.mt_query_plan.specs.QuerySteps.{Does, QueryStep}
use Rattle.mt_query_plan.proofs.RangeLaws.{matched_within}

-- what a step is shown to be, whatever else its actor knows
record Stepped (pk : List ℕ) (test : Option Filter) (retired : Bool) (p : Pair) (progress : QueryProgress) (q : Pair) (to : Place) : Type 0 where
  pub sound : IsSound q
  pub grows : (own : List Fact) → Grows own p q
  pub knows : AllHold q retired (place_facts pk test to)
  pub does : Does pk test progress p q

module _ (pk : List ℕ) (test : Option Filter) (retired : Bool) (p : Pair) (sound : IsSound p) where
  abbrev old_rows : List StoredRow
  old_rows = rows_within p.old.rows pk (range_of test)

  abbrev new_rows : List StoredRow
  new_rows = rows_within p.new.rows pk (range_of test)

  -- ---- the rows that were read are those that clients see

  -- at each of their keys in the range
  abbrev Agrees : NewPhase → List StoredRow → List StoredRow → Type 0
  Agrees phase rows entries = (rk : List ℕ) → rk ≢ marker_key → is_within (range_of test) rk ≡ true
      → logical p pk rk ≡ shown_over phase (option_map kept_row (row_in rows rk)) (option_map kept_row (row_in entries rk))

  -- what lies outside the range is not matched
  outside : (key : Key) (o : Option Stored) → is_within (range_of test) key.rk ≡ false → kept_if (λ s. is_matched test key s.props) o ≡ None
  outside key None out = refl
  outside key (Some s) out = go (is_matched test key s.props) refl where
    go : (b : Bool) → is_matched test key s.props ≡ b → cond b (Some s) None ≡ None
    go false e = refl
    go true e = absurd (let x : true ≡ false = sym (matched_within test key s.props e) ∙ out in cc)

  same_row : (phase : NewPhase) (rows entries : List StoredRow) → Agrees phase rows entries → (key : Key) → pk ≡ key.pk → is_within (range_of test) key.rk ≡ true → read_table phase rows entries key ≡ logical_table p key
  same_row phase rows entries agrees key same within = go (bytes_eq key.rk marker_key) refl where
    go : (b : Bool) → bytes_eq key.rk marker_key ≡ b
        → cond b None (option_map as_row (shown_over phase (option_map kept_row (row_in rows key.rk)) (option_map kept_row (row_in entries key.rk)))) ≡ logical_table p key
    go true e = sym (ap (λ (b : Bool). option_map as_row (cond b None (row_by (old_state_at p key.pk) (new_state_at p key.pk) (old_at p key.pk key.rk) (new_at p key.pk key.rk)))) e)
    go false e = ap (option_map as_row) (sym (agrees key.rk (text_differs key.rk marker_key e) within) ∙ ap (λ k. logical p k key.rk) same)

  answer_is : (phase : NewPhase) (rows entries : List StoredRow) (answer : List Entity) → Agrees phase rows entries → IsAnswer pk test phase rows entries answer → IsListing answer (selected (in_partition pk) test (logical_table p))
  answer_is phase rows entries answer agrees is = record {
    rising = is.rising;
    rows = λ key. is.rows key ∙ go key (bytes_eq pk key.pk) refl;
  } where
    inside : (key : Key) → pk ≡ key.pk → (b : Bool) → is_within (range_of test) key.rk ≡ b
        → kept_if (λ s. is_matched test key s.props) (read_table phase rows entries key) ≡ kept_if (λ s. is_matched test key s.props) (logical_table p key)
    inside key same true e = ap (kept_if (λ s. is_matched test key s.props)) (same_row phase rows entries agrees key same e)
    inside key same false e = outside key (read_table phase rows entries key) e ∙ sym (outside key (logical_table p key) e)

    go : (key : Key) (b : Bool) → bytes_eq pk key.pk ≡ b
        → cond b (kept_if (λ s. is_matched test key s.props) (read_table phase rows entries key)) None ≡ cond b (kept_if (λ s. is_matched test key s.props) (logical_table p key)) None
    go key true e = inside key (text_true pk key.pk e) (is_within (range_of test) key.rk) refl
    go key false e = refl

  -- ---- where a read leads

  -- what holds where a read leads there
  abbrev IsLed : Lead → Type 0
  IsLed again = Unit {0}
  IsLed (on after) = AllHold p retired (place_facts pk test (ReadNew after))
  IsLed (answered phase rows entries) = Agrees phase rows entries

  begins_again : (to : Place) → to ≡ ReadOld → Stepped pk test retired p said.More p to
  begins_again to at = record { sound = sound; grows = λ own. grows_self own p sound; knows = subst (λ x. AllHold p retired (place_facts pk test x)) (sym at) tt; does = refl }

  led_law : (lead : Lead) (progress : QueryProgress) (to : Place) → IsLed lead → Comes pk test lead progress to → Stepped pk test retired p progress p to
  led_law again said.More to led comes = begins_again to comes
  led_law again (said.Rows answer) to led comes = absurd comes
  led_law (on after) said.More to led comes = record { sound = sound; grows = λ own. grows_self own p sound; knows = subst (λ x. AllHold p retired (place_facts pk test x)) (sym comes) led; does = refl }
  led_law (on after) (said.Rows answer) to led comes = absurd comes
  led_law (answered phase rows entries) said.More to led comes = absurd comes
  led_law (answered phase rows entries) (said.Rows answer) to led comes = record {
    sound = sound;
    grows = λ own. grows_self own p sound;
    knows = subst (λ x. AllHold p retired (place_facts pk test x)) (sym comes.0) tt;
    does = (refl, (answer, refl, answer_is phase rows entries answer led comes.1));
  }

  nothing_agrees : ((rk : List ℕ) → logical p pk rk ≡ None) → Agrees UseNew [] []
  nothing_agrees none rk other within = none rk

  -- of old
  rows_agree : is_write_state (old_state_at p pk) ≡ true → Agrees Filling old_rows []
  rows_agree writes rk other within =
      shows_old p pk rk sound writes other
      ∙ ap (λ row. shown_over Filling row None) (sym (kept_within p.old.rows pk (range_of test) rk within))

  turned_read : is_prefer_new (old_state_at p pk) ≡ true → AllHold p retired (place_facts pk test (ReadNew (Turned old_rows)))
  turned_read h = (
    turned_known p pk (keys.Within (from_low (row_low test)) (row_high test) []) old_rows sound h
        (λ rk part. sym (in_whole p.old.rows pk (range_of test) rk (ap (λ b. b && is_upto (row_high test) rk) part.0 ∙ part.1))),
    tt,
  )

  says_law : (phase : Option Phase) → old_state_at p pk ≡ old_says phase → IsLed (marker_says old_rows phase)
  says_law (Some UseOld) state = rows_agree (ap is_write_state state)
  says_law (Some PreferOld) state = rows_agree (ap is_write_state state)
  says_law (Some PreferNew) state = turned_read (ap is_prefer_new state)
  says_law None state = tt

  saw_law : (marker : Option Stored) (sealed : Bool) → old_at p pk marker_key ≡ marker → sealed ≡ p.old.sealed → IsLed (saw_old old_rows (option_map (shown marker_key) marker) sealed)
  saw_law (Some s) sealed there is = says_law (old_phase_of s.tag.store s.props) (ap old_state there)
  saw_law None false there is = nothing_agrees (λ rk. shows_none p pk rk sound there (sym is))
  saw_law None true there is = (closed_read p pk sound (sym is) there, tt)

  -- of new
  overlay_agrees : (rows : List StoredRow) → AllHold p retired (place_facts pk test (ReadNew (Turned rows))) → new_state_at p pk ≡ AtFilling → Agrees Filling rows new_rows
  overlay_agrees rows knows fills rk other within =
      let turned = knows.0 in
      let parts = and_parts (is_from (from_low (row_low test)) rk) (is_upto (row_high test) rk) within in
      let filling = ap is_filling fills in
      shows_fill p pk rk sound fills (turned.turned filling) other
      ∙ ap (λ row. shown_over Filling row (new_at p pk rk)) (turned_row p pk rk (keys.Within (from_low (row_low test)) (row_high test) []) rows turned filling other (parts.0, parts.1, refl))
      ∙ ap (shown_over Filling (option_map kept_row (row_in rows rk))) (sym (kept_within p.new.rows pk (range_of test) rk within))

  entries_agree : new_state_at p pk ≡ AtUseNew → Agrees UseNew [] new_rows
  entries_agree used rk other within =
      shows_new p pk rk sound used other
      ∙ ap (shown_over UseNew None) (sym (kept_within p.new.rows pk (range_of test) rk within))

  phase_law : (after : AfterOld) (phase : Option NewPhase) → AllHold p retired (place_facts pk test (ReadNew after)) → new_state_at p pk ≡ new_says phase → IsLed (phase_says after new_rows phase)
  phase_law (Turned rows) (Some Filling) knows state = overlay_agrees rows knows state
  phase_law Closed (Some Filling) knows state = tt
  phase_law Moved (Some Filling) knows state = tt
  phase_law (Turned rows) (Some UseNew) knows state = entries_agree state
  phase_law Closed (Some UseNew) knows state = entries_agree state
  phase_law Moved (Some UseNew) knows state = entries_agree state
  phase_law (Turned rows) None knows state = tt
  phase_law Closed None knows state = tt
  phase_law Moved None knows state = tt

  entries_law : (after : AfterOld) (marker : Option Stored) → AllHold p retired (place_facts pk test (ReadNew after)) → new_at p pk marker_key ≡ marker → IsLed (saw_new after new_rows (option_map (shown marker_key) marker))
  entries_law after (Some s) knows there = phase_law after (new_phase_of s.props) knows (ap new_state there)
  entries_law (Turned rows) None knows there = tt
  entries_law Closed None knows there = nothing_agrees (λ rk. shows_nothing p pk rk sound (closed_none p pk marker_key knows.0) there)
  entries_law Moved None knows there = tt

  abbrev Finds : Found → Contents → Type 0
  Finds found c = IsFound (record { pk = pk; named = marker_key ∷ []; range = Some (range_of test) }) found c

  old_law : (found : Found) → Finds found p.old → IsLed (lead_of ReadOld found)
  old_law found is = subst IsLed (sym (
      ap (λ rows. saw_old rows (row_in found.named marker_key) found.sealed) is.rows
      ∙ ap (λ named. saw_old old_rows (row_in named marker_key) found.sealed) is.named
      ∙ ap (λ m. saw_old old_rows m found.sealed) (marker_read p.old.rows pk)))
      (saw_law (old_at p pk marker_key) found.sealed refl is.sealed)

  new_law : (after : AfterOld) (found : Found) → AllHold p retired (place_facts pk test (ReadNew after)) → Finds found p.new → IsLed (lead_of (ReadNew after) found)
  new_law after found knows is = subst IsLed (sym (
      ap (λ rows. saw_new after rows (row_in found.named marker_key)) is.rows
      ∙ ap (λ named. saw_new after new_rows (row_in named marker_key)) is.named
      ∙ ap (saw_new after new_rows) (marker_read p.new.rows pk)))
      (entries_law after (new_at p pk marker_key) knows refl)

-- ---- a step

old_same : (p q : Pair) → q.old ≡ p.old → q ≡ with_old p q.old → q ≡ p
old_same p q same is = is ∙ ap (with_old p) same

new_same : (p q : Pair) → q.new ≡ p.new → q ≡ with_new p q.new → q ≡ p
new_same p q same is = is ∙ ap (with_new p) same

abbrev call_at : List ℕ → Option Filter → Place → Call
call_at pk test place = record { pk = pk; filter = test; place = place }

stepped : (pk : List ℕ) (test : Option Filter) (place to : Place) (a : StoreAsk) (r : StoreReply) (progress : QueryProgress) (p q : Pair) (retired : Bool)
    → IsSound p → AllHold p retired (place_facts pk test place) → a ≡ asks (call_at pk test place) → PairMeans a r p q → Absorbs (call_at pk test place) r (Ok progress) to
    → Stepped pk test retired p progress q to
stepped pk test ReadOld to a (reply.Found found) progress p q retired sound facts asked means absorbs =
    let m = subst (λ x. PairMeans x (reply.Found found) p q) asked means in
    subst (λ x. Stepped pk test retired p progress x to) (sym (old_same p q m.0.0 m.1)) (led_law pk test retired p sound (lead_of ReadOld found) progress to (old_law pk test retired p sound found m.0.1) absorbs)
stepped pk test ReadOld to a r progress p q retired sound facts asked means absorbs = absurd absorbs
stepped pk test (ReadNew after) to a (reply.Found found) progress p q retired sound facts asked means absorbs =
    let m = subst (λ x. PairMeans x (reply.Found found) p q) asked means in
    subst (λ x. Stepped pk test retired p progress x to) (sym (new_same p q m.0.0 m.1)) (led_law pk test retired p sound (lead_of (ReadNew after) found) progress to (new_law pk test retired p sound after found facts m.0.1) absorbs)
stepped pk test (ReadNew after) to a r progress p q retired sound facts asked means absorbs = absurd absorbs

-- what a place knows speaks of no epoch
place_plain : (pk : List ℕ) (test : Option Filter) (place : Place) → AllPlain (place_facts pk test place)
place_plain pk test ReadOld = tt
place_plain pk test (ReadNew (Turned rows)) = (tt, tt)
place_plain pk test (ReadNew Closed) = (tt, tt)
place_plain pk test (ReadNew Moved) = (tt, tt)

-- each step of a query is a step of an actor
pub query_law : (pk : List ℕ) (test : Option Filter) (place to : Place) (a : StoreAsk) (r : StoreReply) (progress : QueryProgress) (p q : Pair) (retired : Bool)
    → IsSound p → AllHold p retired (place_facts pk test place) → a ≡ asks (call_at pk test place) → PairMeans a r p q → Absorbs (call_at pk test place) r (Ok progress) to
    → QueryStep pk test place to retired progress p q
query_law pk test place to a r progress p q retired sound facts asked means absorbs =
    let step = stepped pk test place to a r progress p q retired sound facts asked means absorbs in
    record {
      sound = step.sound;
      grows = step.grows (place_facts pk test place);
      knows = step.knows;
      apart = λ f holds was. plain_apart f (place_facts pk test to) (place_plain pk test to);
      stays = λ was. was;
      retires = λ was. inl was;
      does = step.does;
    }
