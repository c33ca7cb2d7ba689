-- What a client's write in the new store does to a sound pair.
use Rattle.std.proofs.Common.{◌≡◌, ◌≢◌, ◌⊎◌, ℕ, ◌+◌, ◌≤◌, true, List, [], ◌∷◌, Option, Some, None, refl, sym, ap, ◌∙◌, subst, arith, inl, inr, if◌then◌else◌}
use Rattle.std.specs.Prelude.{is_some}
use Rattle.mt_model.specs.declared.key.KeyPart.TheVariants.{Partition}
use Rattle.mt_model.specs.declared.tag.Tag.{Tag}
use Rattle.mt_model.specs.declared.value.Prop.{Prop}
use Rattle.mt_model.specs.Key.{part_fault, key_fault}
use Rattle.mt_chain.specs.declared.row.Stored.{Stored}
use Rattle.mt_chain.specs.declared.row.StoredRow.{StoredRow}
use Rattle.mt_chain.specs.declared.row.Put.{Put}
use Rattle.mt_chain.specs.declared.row.Put.TheVariants.{Check, Insert, Replace, Delete}
use Rattle.mt_chain.specs.Rows.{row_at}
use Rattle.mt_chain.specs.Puts.{unmet_from, next_tag}
use Rattle.mt_chain.specs.StoreCall.{Contents, Done, judge}
use Rattle.mt_chain.proofs.KeyLaws.{text_false}
use Rattle.mt_chain.proofs.PutLaws.{left_by, row_after, all_puts, Each, each_held}
use Rattle.mt_chain.proofs.JudgeLaws.{contents_after, was_done}
use Rattle.mt_meta.specs.declared.marker.NewPhase.{NewPhase}
use Rattle.mt_meta.specs.declared.marker.NewPhase.TheVariants.{Filling, UseNew}
use Rattle.mt_meta.specs.declared.mark.Mark.TheVariants.{Live, Copy, Tomb}
use Rattle.mt_meta.specs.Markers.{marker_key, marker_props, new_kind, new_phase_of}
use Rattle.mt_meta.specs.Marks.{mark_of, stored}
use Rattle.mt_meta.specs.Logical.{Pair, NoOld, AtFilling, AtUseNew, new_says, old_state, new_state, old_at, new_at, old_state_at, new_state_at, from_new, shown_over, logical}
use Rattle.mt_meta.specs.Sound.{IsNewMarker, IsEntry, NoTomb, IsKept, IsSound}
use Rattle.mt_meta.specs.Modes.{Mode, Empty, AtOld, Prepared, Copying, Overlaid, Settled, NewOnly, Broken, mode_of, mode, rank, FitsMode}
use Rattle.mt_meta.specs.declared.fact.Keys.{Keys}
use Rattle.mt_meta.specs.declared.fact.Fact.{Fact}
use Rattle.mt_meta.specs.Facts.{KnowsRow, KnowsTurned, EntryStays, is_filling, is_prefer_new}
use Rattle.mt_meta.specs.Steps.{with_new, StepIn}
use Rattle.mt_meta.proofs.MarkLaws.{live_reads}
use Rattle.mt_meta.proofs.Rules.{new_read, key_cases, to_modes}
use Rattle.mt_meta.proofs.ByMarkers.{filling_mode, use_new_low, shows_fill, shows_new, shows_nothing, empty_mode}
use Rattle.mt_meta.proofs.ModeLaws.{IsWhole, whole}
use Rattle.mt_meta.proofs.Growth.{stays_self}
use Rattle.mt_meta.proofs.StorePuts.{moves_puts, Leaves, touched, IsSeen, seen, no_row, the_row}
use Rattle.mt_meta.proofs.Parts.{FormsAt, KeptAt, kept_on, new_step}
use Rattle.mt_batch_plan.proofs.ClientPuts.{LeavesAs, IsPutOf, marker_stays, IsOneOf, left_props, one_of}
use Rattle.mt_batch_plan.specs.Bases.{marker_birth_new}

-- what a client leaves as an entry: a live row, and while new fills also a tombstone
abbrev pub IsLeft : NewPhase → List Prop → Type 0
IsLeft Filling ps = (ps ≡ stored Live ps) ⊎ (ps ≡ stored Tomb ps)
IsLeft UseNew ps = ps ≡ stored Live ps

-- it deletes no entry while new fills
abbrev pub MayDelete : NewPhase → Type 0
MayDelete Filling = ⊥
MayDelete UseNew = Unit {0}

abbrev pub IsNewPut : List ℕ → NewPhase → Put → Type 0
IsNewPut pk phase put = IsPutOf pk (IsLeft phase) (MayDelete phase) put

-- a write of one partition of new, where clients see this of its entries
pub record NewWrite (p : Pair) (part : List ℕ) (phase : NewPhase) (rest : List Put) (n : ℕ) (q : Pair) : Type 0 where
  pub step : (own : List Fact) → StepIn own p q part
  pub was : (rk : List ℕ) → rk ≢ marker_key → logical p part rk ≡ shown_over phase (old_at p part rk) (new_at p part rk)
  pub now : (rk : List ℕ) → rk ≢ marker_key → logical q part rk ≡ shown_over phase (old_at p part rk) (row_after p.new_number n rest rk (new_at p part rk))

-- ---- what a client leaves

tomb_reads : (ps : List Prop) → mark_of (stored Tomb ps) ≡ Some Tomb
tomb_reads ps = refl

live_is : (ps : List Prop) → ps ≡ stored Live ps → mark_of ps ≡ Some Live
live_is ps h = ap mark_of h ∙ live_reads ps

tomb_is : (ps : List Prop) → ps ≡ stored Tomb ps → mark_of ps ≡ Some Tomb
tomb_is ps h = ap mark_of h ∙ tomb_reads ps

-- it is an entry
left_entry : (phase : NewPhase) (ps : List Prop) → IsLeft phase ps → IsEntry ps
left_entry Filling ps (inl h) = (Live, tt, h)
left_entry Filling ps (inr h) = (Tomb, tt, h)
left_entry UseNew ps h = (Live, tt, h)

-- no copy
left_no_copy : (phase : NewPhase) (ps : List Prop) (tag : Tag) → IsLeft phase ps → mark_of ps ≡ Some (Copy tag) → ⊥
left_no_copy Filling ps tag (inl h) e = (let x = sym (live_is ps h) ∙ e in cc)
left_no_copy Filling ps tag (inr h) e = (let x = sym (tomb_is ps h) ∙ e in cc)
left_no_copy UseNew ps tag h e = (let x = sym (live_is ps h) ∙ e in cc)

-- and once new is used alone no tombstone
left_no_tomb : (ps : List Prop) → IsLeft UseNew ps → mark_of ps ≢ Some Tomb
left_no_tomb ps h e = (let x = sym (live_is ps h) ∙ e in cc)

-- ---- puts of a client

-- while new fills an entry stays one
left_there : (put : Put) (after : Option Stored) → LeavesAs (IsLeft Filling) (MayDelete Filling) put → Leaves put after → is_some after ≡ true
left_there (Check rk tag) after h l = absurd l
left_there (Insert rk props) after h l = ap is_some l.1
left_there (Replace rk props tag) after h l = ap is_some l.1
left_there (Delete rk tag) after h l = absurd h

entry_stays : (pk : List ℕ) (store n : ℕ) (rest : List Put) (rk : List ℕ) (entry : Option Stored) → Each (IsNewPut pk Filling) rest → EntryStays entry (row_after store n rest rk entry)
entry_stays pk store n rest rk entry h = elim (touched (IsNewPut pk Filling) store n rest rk entry h) as (λ _. EntryStays entry (row_after store n rest rk entry)) [
  | inl same ↦ subst (EntryStays entry) (sym same) (stays_self entry)
  | inr w ↦ record {
    there = λ x. left_there w.0 (row_after store n rest rk entry) w.1.leaves w.3;
    copies = λ e tag is copy. absurd (left_no_copy Filling e.props tag (left_props (IsLeft Filling) (MayDelete Filling) w.0 (row_after store n rest rk entry) e w.1.leaves w.3 is) copy);
  }
]

-- once new is used alone they leave no tombstone
no_tomb : (x : Option Stored) → ((r : Stored) → x ≡ Some r → mark_of r.props ≢ Some Tomb) → NoTomb x
no_tomb None h = tt
no_tomb (Some r) h = h r refl

not_tomb : (x : Option Stored) (r : Stored) → NoTomb x → x ≡ Some r → mark_of r.props ≢ Some Tomb
not_tomb None r h is = absurd cc
not_tomb (Some s) r h is = subst (λ (y : Stored). mark_of y.props ≢ Some Tomb) (the_row s r is) h

no_tomb_after : (pk : List ℕ) (store n : ℕ) (rest : List Put) (rk : List ℕ) (entry : Option Stored) → Each (IsNewPut pk UseNew) rest → NoTomb entry → NoTomb (row_after store n rest rk entry)
no_tomb_after pk store n rest rk entry h none = no_tomb (row_after store n rest rk entry) (λ r is. go r (one_of pk (IsLeft UseNew) (MayDelete UseNew) store n rest rk entry r h is)) where
  go : (r : Stored) → IsOneOf pk (IsLeft UseNew) rk entry r → mark_of r.props ≢ Some Tomb
  go r (inl was) = not_tomb entry r none was
  go r (inr left) = left_no_tomb r.props left.0

-- what a partition of new has to have after them, at clients' keys
module _ (p : Pair) (pk : List ℕ) (phase : NewPhase) (rest : List Put) (n : ℕ) (c : Contents) (s : IsSound p) (good : Each (IsNewPut pk phase) rest)
    (row_now : (rk : List ℕ) → rk ≢ marker_key → row_at c.rows pk rk ≡ row_after p.new_number n rest rk (new_at p pk rk)) where
  entry_of : (rk : List ℕ) (row : Stored) → rk ≢ marker_key → row_at c.rows pk rk ≡ Some row → IsOneOf pk (IsLeft phase) rk (new_at p pk rk) row
  entry_of rk row other is = one_of pk (IsLeft phase) (MayDelete phase) p.new_number n rest rk (new_at p pk rk) row good (sym (row_now rk other) ∙ is)

  entry_forms : (rk : List ℕ) (row : Stored) → rk ≢ marker_key → row_at c.rows pk rk ≡ Some row → IsEntry row.props × (key_fault pk rk ≡ None)
  entry_forms rk row other is = elim (entry_of rk row other is) as (λ _. IsEntry row.props × (key_fault pk rk ≡ None)) [
    | inl was ↦ s.forms.1.data_rows pk rk row other was
    | inr fresh ↦ (left_entry phase row.props fresh.0, fresh.1)
  ]

  entry_kept : (rk : List ℕ) (row : Stored) (tag : Tag) → rk ≢ marker_key → row_at c.rows pk rk ≡ Some row → mark_of row.props ≡ Some (Copy tag) → IsKept p p.new_number tag
  entry_kept rk row tag other is copy = elim (entry_of rk row other is) as (λ _. IsKept p p.new_number tag) [
    | inl was ↦ s.tags.3 pk rk row tag was copy
    | inr fresh ↦ absurd (left_no_copy phase row.props tag fresh.0 copy)
  ]

-- a kept tag stays one, whatever new is
still_kept : (p : Pair) (c : Contents) (tag : Tag) → IsKept p p.new_number tag → IsKept (with_new p c) p.new_number tag
still_kept p c tag h = kept_on p p.new_number tag p.old c (omega arith) h

-- ---- where new is used alone

-- an entry fits that is no tombstone where the one before was none
late_fits : (m : Mode) → IsWhole m → 5 ≤ rank m → (row entry entry' : Option Stored) → (NoTomb entry → NoTomb entry') → FitsMode m row entry → FitsMode m row entry'
late_fits Empty w low row entry entry' f h = absurd (omega arith)
late_fits AtOld w low row entry entry' f h = absurd (omega arith)
late_fits Prepared w low row entry entry' f h = absurd (omega arith)
late_fits Copying w low row entry entry' f h = absurd (omega arith)
late_fits Overlaid w low row entry entry' f h = absurd (omega arith)
late_fits Settled w low row entry entry' f h = tt
late_fits NewOnly w low row entry entry' f h = (h.0, f h.1)
late_fits Broken w low row entry entry' f h = absurd w

-- ---- a client writes under the marker that it read

module _ (p : Pair) (pk : List ℕ) (phase : NewPhase) (props : List Prop) (tag : Tag) (rest : List Put) (s : IsSound p) (knows : KnowsRow p.new pk marker_key props tag)
    (reads : new_phase_of props ≡ Some phase) (good : Each (IsNewPut pk phase) rest) (met : unmet_from 0 p.new.rows pk (Check marker_key tag ∷ rest) ≡ None) where
  abbrev contents_written : Contents
  contents_written = contents_after p.new_number p.new pk (Check marker_key tag ∷ rest)

  abbrev pair_written : Pair
  pair_written = with_new p contents_written

  at_marker : IsSeen (new_at p pk marker_key) props tag
  at_marker = seen p.new pk marker_key props tag knows (each_held 0 p.new.rows pk (Check marker_key tag ∷ rest) met).0

  pub checked_state : new_state_at p pk ≡ new_says (Some phase)
  checked_state = ap new_state at_marker.is ∙ ap (λ (ps : List Prop). new_says (new_phase_of ps)) at_marker.props ∙ ap new_says reads

  row_written : (rk : List ℕ) → new_at pair_written pk rk ≡ row_after p.new_number p.new.counter rest rk (new_at p pk rk)
  row_written rk = all_puts p.new_number p.new.counter pk rest p.new.rows rk

  marker_same : new_at pair_written pk marker_key ≡ new_at p pk marker_key
  marker_same = row_written marker_key ∙ marker_stays pk (IsLeft phase) (MayDelete phase) p.new_number p.new.counter rest (new_at p pk marker_key) good

  state_written : new_state_at pair_written pk ≡ new_says (Some phase)
  state_written = ap new_state marker_same ∙ checked_state

  mode_same : mode pair_written pk ≡ mode p pk
  mode_same = ap (λ x. mode_of (old_state_at p pk) (new_state x) p.old.sealed) marker_same

  forms_written : FormsAt IsNewMarker IsEntry contents_written pk
  forms_written = record {
    marker = λ row is. s.forms.1.markers pk row (sym marker_same ∙ is);
    data_rows = entry_forms p pk phase rest p.new.counter contents_written s good (λ rk other. row_written rk);
  }

  kept_written : KeptAt pair_written p.new_number contents_written pk
  kept_written rk row t is copy = elim (key_cases rk) as (λ _. IsKept pair_written p.new_number t) [
    | inl e ↦ still_kept p contents_written t (s.tags.3 pk marker_key row t (sym marker_same ∙ ap (new_at pair_written pk) (sym e) ∙ is) copy)
    | inr other ↦ still_kept p contents_written t (entry_kept p pk phase rest p.new.counter contents_written s good (λ k o. row_written k) rk row t other is copy)
  ]

-- a client writes while new fills
module _ (p : Pair) (pk : List ℕ) (props : List Prop) (tag : Tag) (part : Keys) (rows : List StoredRow) (rest : List Put) (s : IsSound p) (knows : KnowsRow p.new pk marker_key props tag)
    (turned : KnowsTurned p pk part rows) (reads : new_phase_of props ≡ Some Filling) (good : Each (IsNewPut pk Filling) rest)
    (met : unmet_from 0 p.new.rows pk (Check marker_key tag ∷ rest) ≡ None) where
  abbrev pair_filled : Pair
  pair_filled = pair_written p pk Filling props tag rest s knows reads good met

  fills : new_state_at p pk ≡ AtFilling
  fills = checked_state p pk Filling props tag rest s knows reads good met

  is_turned : is_prefer_new (old_state_at p pk) ≡ true
  is_turned = turned.turned (ap is_filling fills)

  over : mode p pk ≡ Overlaid
  over = filling_mode p pk s fills is_turned

  row_filled : (rk : List ℕ) → new_at pair_filled pk rk ≡ row_after p.new_number p.new.counter rest rk (new_at p pk rk)
  row_filled rk = row_written p pk Filling props tag rest s knows reads good met rk

  step_filled : (own : List Fact) → StepIn own p pair_filled pk
  step_filled own = new_step own p pk (contents_written p pk Filling props tag rest s knows reads good met) Overlaid Overlaid s
      (moves_puts p.new_number pk (Check marker_key tag ∷ rest) p.new)
      over (mode_same p pk Filling props tag rest s knows reads good met ∙ over) (omega arith)
      (forms_written p pk Filling props tag rest s knows reads good met) (kept_written p pk Filling props tag rest s knows reads good met)
      (λ rk other. tt)
      (λ a b w there le apart rk other. subst (EntryStays (new_at p pk rk)) (sym (row_filled rk)) (entry_stays pk p.new_number p.new.counter rest rk (new_at p pk rk) good))
      (λ low. absurd (omega (arith, low)))

  fill_write : NewWrite p pk Filling rest p.new.counter pair_filled
  fill_write = record {
    step = step_filled;
    was = λ rk other. shows_fill p pk rk s fills is_turned other;
    now = λ rk other. shows_fill pair_filled pk rk (step_filled []).sound (state_written p pk Filling props tag rest s knows reads good met) is_turned other ∙ ap (shown_over Filling (old_at p pk rk)) (row_filled rk);
  }

pub client_fill : (p : Pair) (pk : List ℕ) (props : List Prop) (tag : Tag) (part : Keys) (rows : List StoredRow) (rest : List Put) (c : Contents) (tags : List Tag)
    → IsSound p → KnowsRow p.new pk marker_key props tag → KnowsTurned p pk part rows → new_phase_of props ≡ Some Filling
    → Each (IsNewPut pk Filling) rest → judge p.new_number p.new pk (Check marker_key tag ∷ rest) ≡ Done c tags
    → NewWrite p pk Filling rest p.new.counter (with_new p c)
client_fill p pk props tag part rows rest c tags s knows turned reads good done =
    let d = was_done p.new_number p.new pk (Check marker_key tag ∷ rest) c tags done in
    subst (λ x. NewWrite p pk Filling rest p.new.counter (with_new p x)) (sym d.contents) (fill_write p pk props tag part rows rest s knows turned reads good d.met)

-- a client writes once new is used alone
module _ (p : Pair) (pk : List ℕ) (props : List Prop) (tag : Tag) (rest : List Put) (s : IsSound p) (knows : KnowsRow p.new pk marker_key props tag)
    (reads : new_phase_of props ≡ Some UseNew) (good : Each (IsNewPut pk UseNew) rest) (met : unmet_from 0 p.new.rows pk (Check marker_key tag ∷ rest) ≡ None) where
  abbrev pair_used : Pair
  pair_used = pair_written p pk UseNew props tag rest s knows reads good met

  used : new_state_at p pk ≡ AtUseNew
  used = checked_state p pk UseNew props tag rest s knows reads good met

  low_used : 5 ≤ rank (mode p pk)
  low_used = use_new_low p pk s used

  row_used : (rk : List ℕ) → new_at pair_used pk rk ≡ row_after p.new_number p.new.counter rest rk (new_at p pk rk)
  row_used rk = row_written p pk UseNew props tag rest s knows reads good met rk

  tombs_used : (rk : List ℕ) → NoTomb (new_at p pk rk) → NoTomb (new_at pair_used pk rk)
  tombs_used rk h = subst NoTomb (sym (row_used rk)) (no_tomb_after pk p.new_number p.new.counter rest rk (new_at p pk rk) good h)

  step_used : (own : List Fact) → StepIn own p pair_used pk
  step_used own = new_step own p pk (contents_written p pk UseNew props tag rest s knows reads good met) (mode p pk) (mode p pk) s
      (moves_puts p.new_number pk (Check marker_key tag ∷ rest) p.new)
      refl (mode_same p pk UseNew props tag rest s knows reads good met) (omega arith)
      (forms_written p pk UseNew props tag rest s knows reads good met) (kept_written p pk UseNew props tag rest s knows reads good met)
      (λ rk other. late_fits (mode p pk) (whole p s pk) low_used (old_at p pk rk) (new_at p pk rk) (new_at pair_used pk rk) (tombs_used rk) ((to_modes p s).keys pk rk other))
      (λ a b w there le apart rk other. absurd (let e : rank (mode p pk) ≡ 4 = ap rank a in let low = low_used in omega (arith, e, low)))
      (λ low rk other. tombs_used rk)

  used_write : NewWrite p pk UseNew rest p.new.counter pair_used
  used_write = record {
    step = step_used;
    was = λ rk other. shows_new p pk rk s used other;
    now = λ rk other. shows_new pair_used pk rk (step_used []).sound (state_written p pk UseNew props tag rest s knows reads good met) other ∙ ap (shown_over UseNew (old_at p pk rk)) (row_used rk);
  }

pub client_new : (p : Pair) (pk : List ℕ) (props : List Prop) (tag : Tag) (rest : List Put) (c : Contents) (tags : List Tag)
    → IsSound p → KnowsRow p.new pk marker_key props tag → new_phase_of props ≡ Some UseNew
    → Each (IsNewPut pk UseNew) rest → judge p.new_number p.new pk (Check marker_key tag ∷ rest) ≡ Done c tags
    → NewWrite p pk UseNew rest p.new.counter (with_new p c)
client_new p pk props tag rest c tags s knows reads good done =
    let d = was_done p.new_number p.new pk (Check marker_key tag ∷ rest) c tags done in
    subst (λ x. NewWrite p pk UseNew rest p.new.counter (with_new p x)) (sym d.contents) (used_write p pk props tag rest s knows reads good d.met)

-- ---- a client bears a partition in new

module _ (p : Pair) (pk : List ℕ) (rest : List Put) (s : IsSound p) (part : part_fault Partition pk ≡ None) (sealed : p.old.sealed ≡ true) (none : (rk : List ℕ) → old_at p pk rk ≡ None)
    (good : Each (IsNewPut pk UseNew) rest) (met : unmet_from 0 p.new.rows pk (marker_birth_new ∷ rest) ≡ None) where
  abbrev contents_born : Contents
  contents_born = contents_after p.new_number p.new pk (marker_birth_new ∷ rest)

  abbrev pair_born : Pair
  pair_born = with_new p contents_born

  no_marker : new_at p pk marker_key ≡ None
  no_marker = no_row (new_at p pk marker_key) (each_held 0 p.new.rows pk (marker_birth_new ∷ rest) met).0

  was_empty : mode p pk ≡ Empty
  was_empty = empty_mode p pk (none marker_key) no_marker

  no_entry : (rk : List ℕ) → rk ≢ marker_key → new_at p pk rk ≡ None
  no_entry rk other = (subst (λ m. FitsMode m (old_at p pk rk) (new_at p pk rk)) was_empty ((to_modes p s).keys pk rk other)).1

  row_born : (rk : List ℕ) → rk ≢ marker_key → new_at pair_born pk rk ≡ row_after p.new_number (p.new.counter + 1) rest rk (new_at p pk rk)
  row_born rk other =
      all_puts p.new_number p.new.counter pk (marker_birth_new ∷ rest) p.new.rows rk
      ∙ ap (λ b. row_after p.new_number (p.new.counter + 1) rest rk (if b then left_by p.new_number p.new.counter marker_birth_new (new_at p pk rk) else new_at p pk rk)) (text_false marker_key rk (λ e. other (sym e)))

  marker_born : new_at pair_born pk marker_key ≡ Some (record { props = marker_props (new_kind UseNew); tag = next_tag p.new_number p.new.counter })
  marker_born =
      all_puts p.new_number p.new.counter pk (marker_birth_new ∷ rest) p.new.rows marker_key
      ∙ marker_stays pk (IsLeft UseNew) (MayDelete UseNew) p.new_number (p.new.counter + 1) rest (left_by p.new_number p.new.counter marker_birth_new (new_at p pk marker_key)) good

  state_born : new_state_at pair_born pk ≡ AtUseNew
  state_born = ap new_state marker_born ∙ ap new_says (new_read UseNew)

  mode_born : mode pair_born pk ≡ NewOnly
  mode_born = ap (λ x. mode_of (old_state x) (new_state_at pair_born pk) p.old.sealed) (none marker_key) ∙ ap (λ x. mode_of NoOld x p.old.sealed) state_born ∙ ap (mode_of NoOld AtUseNew) sealed

  props_born : (row : Stored) → new_at pair_born pk marker_key ≡ Some row → row.props ≡ marker_props (new_kind UseNew)
  props_born row is = ap (λ (x : Stored). x.props) (sym (the_row _ row (sym marker_born ∙ is)))

  forms_born : FormsAt IsNewMarker IsEntry contents_born pk
  forms_born = record {
    marker = λ row is. ((UseNew, props_born row is), part);
    data_rows = entry_forms p pk UseNew rest (p.new.counter + 1) contents_born s good row_born;
  }

  kept_born : KeptAt pair_born p.new_number contents_born pk
  kept_born rk row t is copy = elim (key_cases rk) as (λ _. IsKept pair_born p.new_number t) [
    | inl e ↦ absurd (let unmarked_row : mark_of row.props ≡ None = ap mark_of (props_born row (ap (new_at pair_born pk) (sym e) ∙ is)) in let x = sym unmarked_row ∙ copy in cc)
    | inr other ↦ still_kept p contents_born t (entry_kept p pk UseNew rest (p.new.counter + 1) contents_born s good row_born rk row t other is copy)
  ]

  tombs_born : (rk : List ℕ) → rk ≢ marker_key → NoTomb (new_at pair_born pk rk)
  tombs_born rk other = subst NoTomb (sym (row_born rk other)) (no_tomb_after pk p.new_number (p.new.counter + 1) rest rk (new_at p pk rk) good (subst NoTomb (sym (no_entry rk other)) tt))

  step_born : (own : List Fact) → StepIn own p pair_born pk
  step_born own = new_step own p pk contents_born Empty NewOnly s (moves_puts p.new_number pk (marker_birth_new ∷ rest) p.new) was_empty mode_born (omega arith)
      forms_born kept_born (λ rk other. (none rk, tombs_born rk other))
      (λ a b w there le apart rk other. absurd (let e : 0 ≡ 4 = ap rank a in omega (arith, e)))
      (λ low. absurd (omega (arith, low)))

  birth_write : NewWrite p pk UseNew rest (p.new.counter + 1) pair_born
  birth_write = record {
    step = step_born;
    was = λ rk other. shows_nothing p pk rk s (none marker_key) no_marker ∙ ap from_new (sym (no_entry rk other));
    now = λ rk other. shows_new pair_born pk rk (step_born []).sound state_born other ∙ ap from_new (row_born rk other);
  }

pub birth_new : (p : Pair) (pk : List ℕ) (rest : List Put) (c : Contents) (tags : List Tag)
    → IsSound p → part_fault Partition pk ≡ None → p.old.sealed ≡ true → ((rk : List ℕ) → old_at p pk rk ≡ None) → Each (IsNewPut pk UseNew) rest
    → judge p.new_number p.new pk (marker_birth_new ∷ rest) ≡ Done c tags
    → NewWrite p pk UseNew rest (p.new.counter + 1) (with_new p c)
birth_new p pk rest c tags s part sealed none good done =
    let d = was_done p.new_number p.new pk (marker_birth_new ∷ rest) c tags done in
    subst (λ x. NewWrite p pk UseNew rest (p.new.counter + 1) (with_new p x)) (sym d.contents) (birth_write p pk rest s part sealed none good d.met)
