-- Steps of a query that no other actor comes between: it reads old, and new at most once.
use Rattle.std.proofs.Common.{◌≡◌, ℕ, ◌<◌, ◌≤◌, Bool, true, false, List, [], ◌∷◌, refl, sym, ap, subst, ◌∙◌, arith, Some, None, Option, Ok}
use Rattle.std.specs.Prelude.{option_map}
use Rattle.mt_filter.specs.declared.filter.Filter.{Filter}
use Rattle.mt_chain.specs.declared.row.Stored.{Stored}
use Rattle.mt_chain.specs.declared.row.StoredRow.{StoredRow}
use Rattle.mt_chain.specs.declared.query.Found.{Found}
use Rattle.mt_chain.specs.declared.ask.StoreAsk.{StoreAsk}
use Rattle.mt_chain.specs.declared.ask.StoreReply.{StoreReply}
use Rattle.mt_chain.specs.declared.ask.StoreReply.TheVariants as reply
use Rattle.mt_chain.specs.Rows.{row_in, shown}
use Rattle.mt_chain.specs.StoreCall.{Contents, IsFound}
use Rattle.mt_meta.specs.declared.marker.Phase.{Phase}
use Rattle.mt_meta.specs.declared.marker.Phase.TheVariants.{UseOld, PreferOld, PreferNew}
use Rattle.mt_meta.specs.declared.marker.NewPhase.{NewPhase}
use Rattle.mt_meta.specs.declared.marker.NewPhase.TheVariants.{Filling, UseNew}
use Rattle.mt_meta.specs.Markers.{marker_key, old_phase_of, new_phase_of}
use Rattle.mt_meta.specs.Logical.{Pair, OldState, NewState, NoOld, AtPreferNew, BadOld, NoNew, AtFilling, AtUseNew, BadNew, old_says, new_says, old_state, new_state, old_at, new_at, old_state_at, new_state_at}
use Rattle.mt_meta.specs.Sound.{IsSound}
use Rattle.mt_meta.specs.Modes.{Mode, Empty, AtOld, Prepared, Copying, Overlaid, Settled, NewOnly, Broken, mode}
use Rattle.mt_meta.specs.Steps.{with_old, with_new, PairMeans}
use Rattle.mt_meta.proofs.ModeLaws.{IsWhole, old_in, new_in, whole, says}
use Rattle.mt_meta.proofs.ReadLaws.{marker_read}
use Rattle.mt_query_plan.specs.declared.place.AfterOld.{AfterOld}
use Rattle.mt_query_plan.specs.declared.place.AfterOld.TheVariants.{Turned, Closed, Moved}
use Rattle.mt_query_plan.specs.declared.place.Place.{Place}
use Rattle.mt_query_plan.specs.declared.place.Place.TheVariants.{ReadOld, ReadNew}
use Rattle.mt_query_plan.specs.declared.call.QueryProgress.TheVariants.{More}
use Rattle.mt_query_plan.specs.Ranges.{range_of}
use Rattle.mt_query_plan.specs.Queries.{Lead, again, on, answered, asks, marker_says, saw_old, phase_says, saw_new, lead_of, Comes, Absorbs}
use Rattle.mt_query_plan.specs.Alone.{AfterStands, StandsOn, turns_before}

-- ---- the markers of a sound pair

-- which of them a sound pair has together
pub record IsPair (o : OldState) (n : NewState) : Type 0 where
  pub old : o ≡ BadOld → ⊥
  pub new : n ≡ BadNew → ⊥
  pub prefer_new : o ≡ AtPreferNew → n ≡ NoNew → ⊥
  pub no_old : o ≡ NoOld → n ≡ AtFilling → ⊥

mode_pair : (m : Mode) → IsWhole m → IsPair (old_in m) (new_in m)
mode_pair Empty w = record { old = λ e. cc; new = λ e. cc; prefer_new = λ e f. cc; no_old = λ e f. cc }
mode_pair AtOld w = record { old = λ e. cc; new = λ e. cc; prefer_new = λ e f. cc; no_old = λ e f. cc }
mode_pair Prepared w = record { old = λ e. cc; new = λ e. cc; prefer_new = λ e f. cc; no_old = λ e f. cc }
mode_pair Copying w = record { old = λ e. cc; new = λ e. cc; prefer_new = λ e f. cc; no_old = λ e f. cc }
mode_pair Overlaid w = record { old = λ e. cc; new = λ e. cc; prefer_new = λ e f. cc; no_old = λ e f. cc }
mode_pair Settled w = record { old = λ e. cc; new = λ e. cc; prefer_new = λ e f. cc; no_old = λ e f. cc }
mode_pair NewOnly w = record { old = λ e. cc; new = λ e. cc; prefer_new = λ e f. cc; no_old = λ e f. cc }
mode_pair Broken w = absurd w

pair_at : (p : Pair) (pk : List ℕ) → IsSound p → IsPair (old_state_at p pk) (new_state_at p pk)
pair_at p pk s =
    (let is = says p s pk in
    subst (λ o. IsPair o (new_state_at p pk)) (sym is.old) (subst (IsPair (old_in (mode p pk))) (sym is.new) (mode_pair (mode p pk) (whole p s pk))))

-- ---- where a read leads

module _ (pk : List ℕ) (p : Pair) (sound : IsSound p) where
  -- never to the beginning, and to new only where the markers say so
  abbrev LeadStands : ℕ → Lead → Type 0
  LeadStands n again = ⊥
  LeadStands n (on after) = (n < 1) × AfterStands p pk after
  LeadStands n (answered phase rows entries) = Unit {0}

  says_stands : (rows : List StoredRow) (phase : Option Phase) → old_state_at p pk ≡ old_says phase → LeadStands 0 (marker_says rows phase)
  says_stands rows (Some UseOld) state = tt
  says_stands rows (Some PreferOld) state = tt
  says_stands rows (Some PreferNew) state = (omega arith, state)
  says_stands rows None state = (pair_at p pk sound).old state

  saw_stands : (rows : List StoredRow) (marker : Option Stored) (sealed : Bool) → old_at p pk marker_key ≡ marker → LeadStands 0 (saw_old rows (option_map (shown marker_key) marker) sealed)
  saw_stands rows (Some s) sealed there = says_stands rows (old_phase_of s.tag.store s.props) (ap old_state there)
  saw_stands rows None false there = tt
  saw_stands rows None true there = (omega arith, ap old_state there)

  phase_stands : (after : AfterOld) (entries : List StoredRow) (phase : Option NewPhase) → AfterStands p pk after → new_state_at p pk ≡ new_says phase → LeadStands 1 (phase_says after entries phase)
  phase_stands (Turned rows) entries (Some Filling) stands state = tt
  phase_stands Closed entries (Some Filling) stands state = (pair_at p pk sound).no_old stands state
  phase_stands Moved entries (Some Filling) stands state = (let x : AtFilling ≡ AtUseNew = sym state ∙ stands in absurd cc)
  phase_stands (Turned rows) entries (Some UseNew) stands state = tt
  phase_stands Closed entries (Some UseNew) stands state = tt
  phase_stands Moved entries (Some UseNew) stands state = tt
  phase_stands (Turned rows) entries None stands state = (pair_at p pk sound).new state
  phase_stands Closed entries None stands state = (pair_at p pk sound).new state
  phase_stands Moved entries None stands state = (pair_at p pk sound).new state

  entries_stand : (after : AfterOld) (entries : List StoredRow) (marker : Option Stored) → AfterStands p pk after → new_at p pk marker_key ≡ marker → LeadStands 1 (saw_new after entries (option_map (shown marker_key) marker))
  entries_stand after entries (Some s) stands there = phase_stands after entries (new_phase_of s.props) stands (ap new_state there)
  entries_stand (Turned rows) entries None stands there = (pair_at p pk sound).prefer_new stands (ap new_state there)
  entries_stand Closed entries None stands there = tt
  entries_stand Moved entries None stands there = (let x : NoNew ≡ AtUseNew = sym (ap new_state there) ∙ stands in absurd cc)

  stands_to : (test : Option Filter) (n : ℕ) (lead : Lead) (to : Place) → LeadStands n lead → Comes pk test lead More to → (n < turns_before to) × StandsOn p pk to
  stands_to test n again to stands comes = absurd stands
  stands_to test n (on after) to stands comes = subst (λ x. (n < turns_before x) × StandsOn p pk x) (sym comes) stands
  stands_to test n (answered phase rows entries) to stands comes = absurd comes

  abbrev Finds : Option Filter → Found → Contents → Type 0
  Finds test found c = IsFound (record { pk = pk; named = marker_key ∷ []; range = Some (range_of test) }) found c

  old_stands : (test : Option Filter) (found : Found) → Finds test found p.old → LeadStands 0 (lead_of ReadOld found)
  old_stands test found is = subst (LeadStands 0) (sym (ap (λ named. saw_old found.rows (row_in named marker_key) found.sealed) is.named ∙ ap (λ m. saw_old found.rows m found.sealed) (marker_read p.old.rows pk)))
      (saw_stands found.rows (old_at p pk marker_key) found.sealed refl)

  new_stands : (test : Option Filter) (after : AfterOld) (found : Found) → AfterStands p pk after → Finds test found p.new → LeadStands 1 (lead_of (ReadNew after) found)
  new_stands test after found stands is = subst (LeadStands 1) (sym (ap (λ named. saw_new after found.rows (row_in named marker_key)) is.named ∙ ap (saw_new after found.rows) (marker_read p.new.rows pk)))
      (entries_stand after found.rows (new_at p pk marker_key) stands refl)

-- ---- a step

-- a query that goes on is at a later place, and stands there
pub step_stands : (pk : List ℕ) (test : Option Filter) (place to : Place) (a : StoreAsk) (r : StoreReply) (p q : Pair)
    → IsSound p → StandsOn p pk place → a ≡ asks (record { pk = pk; filter = test; place = place }) → PairMeans a r p q → Absorbs (record { pk = pk; filter = test; place = place }) r (Ok More) to
    → (turns_before place < turns_before to) × StandsOn q pk to
step_stands pk test ReadOld to a (reply.Found found) p q sound stands asked means absorbs =
    let m = subst (λ x. PairMeans x (reply.Found found) p q) asked means in
    subst (λ x. (0 < turns_before to) × StandsOn x pk to) (sym (m.1 ∙ ap (with_old p) m.0.0))
    (stands_to pk p sound test 0 (lead_of ReadOld found) to (old_stands pk p sound test found m.0.1) absorbs)
step_stands pk test ReadOld to a r p q sound stands asked means absorbs = absurd absorbs
step_stands pk test (ReadNew after) to a (reply.Found found) p q sound stands asked means absorbs =
    let m = subst (λ x. PairMeans x (reply.Found found) p q) asked means in
    subst (λ x. (1 < turns_before to) × StandsOn x pk to) (sym (m.1 ∙ ap (with_new p) m.0.0))
    (stands_to pk p sound test 1 (lead_of (ReadNew after) found) to (new_stands pk p sound test after found stands m.0.1) absorbs)
step_stands pk test (ReadNew after) to a r p q sound stands asked means absorbs = absurd absorbs

pub few_before : (place : Place) → turns_before place ≤ 1
few_before ReadOld = omega arith
few_before (ReadNew after) = omega arith
