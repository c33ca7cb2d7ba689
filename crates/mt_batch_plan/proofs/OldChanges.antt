-- What a client's write in the old store does to a sound pair.
use Rattle.std.proofs.Common.{◌≡◌, ◌≢◌, ℕ, ◌+◌, ◌≤◌, Bool, true, false, List, [], ◌∷◌, Option, Some, None, refl, sym, ap, ◌∙◌, subst, arith, inl, inr, if◌then◌else◌}
use Rattle.std.specs.Prelude.{filter}
use Rattle.mt_model.specs.declared.key.KeyPart.TheVariants.{Partition}
use Rattle.mt_model.specs.declared.tag.Tag.{Tag}
use Rattle.mt_model.specs.declared.value.Prop.{Prop}
use Rattle.mt_model.specs.Key.{part_fault, key_fault}
use Rattle.mt_model.specs.Props.{is_visible}
use Rattle.mt_chain.specs.declared.row.Stored.{Stored}
use Rattle.mt_chain.specs.declared.row.Put.{Put}
use Rattle.mt_chain.specs.declared.row.Put.TheVariants.{Check}
use Rattle.mt_chain.specs.Rows.{row_at}
use Rattle.mt_chain.specs.Puts.{unmet_from, next_tag}
use Rattle.mt_chain.specs.StoreCall.{Contents, Done, is_sealed_off, judge}
use Rattle.mt_chain.proofs.KeyLaws.{text_false}
use Rattle.mt_chain.proofs.RowLaws.{row_of_partition}
use Rattle.mt_chain.proofs.PutLaws.{left_by, row_after, all_puts, counter_rises, Each, each_held}
use Rattle.mt_chain.proofs.JudgeLaws.{contents_after, was_done, allowed_sealed}
use Rattle.mt_meta.specs.declared.marker.Phase.{Phase}
use Rattle.mt_meta.specs.declared.marker.Phase.TheVariants.{UseOld, PreferOld, PreferNew}
use Rattle.mt_meta.specs.declared.mark.Mark.TheVariants.{Copy}
use Rattle.mt_meta.specs.Markers.{marker_key, marker_props, old_kind, old_phase_of}
use Rattle.mt_meta.specs.Marks.{mark_of}
use Rattle.mt_meta.specs.Logical.{Pair, AtUseOld, NoNew, old_says, old_state, old_at, new_at, old_state_at, new_state_at, from_old, logical}
use Rattle.mt_meta.specs.Sound.{IsOldMarker, IsOldRow, IsKept, IsSound}
use Rattle.mt_meta.specs.Modes.{Empty, AtOld, mode_of, mode, rank, FitsMode}
use Rattle.mt_meta.specs.declared.fact.Fact.{Fact}
use Rattle.mt_meta.specs.Facts.{KnowsRow}
use Rattle.mt_meta.specs.Steps.{with_old, StepIn}
use Rattle.mt_meta.proofs.MarkLaws.{client_unmarked}
use Rattle.mt_meta.proofs.Rules.{old_read, key_cases, to_modes}
use Rattle.mt_meta.proofs.ByMarkers.{is_write_state, ranks_at, shows_old, shows_none}
use Rattle.mt_meta.proofs.ModeLaws.{new_in, says, early_fits, unsealed_empty}
use Rattle.mt_meta.proofs.Growth.{no_rows}
use Rattle.mt_meta.proofs.StorePuts.{moves_puts, IsSeen, seen, no_row, the_row}
use Rattle.mt_meta.proofs.Parts.{FormsAt, KeptAt, kept_on, old_early}
use Rattle.mt_batch_plan.proofs.ClientPuts.{IsPutOf, marker_stays, IsOneOf, one_of}
use Rattle.mt_batch_plan.specs.Bases.{marker_birth, is_write_phase}

-- a client's properties have nothing hidden
abbrev pub IsVisible : List Prop → Type 0
IsVisible ps = filter is_visible ps ≡ ps

abbrev pub IsClientPut : List ℕ → Put → Type 0
IsClientPut pk put = IsPutOf pk IsVisible (Unit {0}) put

-- a write of one partition of old
pub record OldWrite (p : Pair) (part : List ℕ) (rest : List Put) (n : ℕ) (q : Pair) : Type 0 where
  pub step : (own : List Fact) → StepIn own p q part
  pub was : (rk : List ℕ) → rk ≢ marker_key → logical p part rk ≡ from_old (old_at p part rk)
  pub now : (rk : List ℕ) → rk ≢ marker_key → logical q part rk ≡ from_old (row_after p.old_number n rest rk (old_at p part rk))

-- ---- puts of a client

-- what a partition of old has to have after them, at clients' keys
module _ (p : Pair) (pk : List ℕ) (rest : List Put) (n : ℕ) (c : Contents) (s : IsSound p) (good : Each (IsClientPut pk) rest)
    (row_now : (rk : List ℕ) → rk ≢ marker_key → row_at c.rows pk rk ≡ row_after p.old_number n rest rk (old_at p pk rk)) where
  left : (rk : List ℕ) (row : Stored) → rk ≢ marker_key → row_at c.rows pk rk ≡ Some row → IsOneOf pk IsVisible rk (old_at p pk rk) row
  left rk row other is = one_of pk IsVisible (Unit {0}) p.old_number n rest rk (old_at p pk rk) row good (sym (row_now rk other) ∙ is)

  client_forms : (rk : List ℕ) (row : Stored) → rk ≢ marker_key → row_at c.rows pk rk ≡ Some row → IsOldRow p.old_number row.props × (key_fault pk rk ≡ None)
  client_forms rk row other is = elim (left rk row other is) as (λ _. IsOldRow p.old_number row.props × (key_fault pk rk ≡ None)) [
    | inl was ↦ s.forms.0.data_rows pk rk row other was
    | inr fresh ↦ (inl fresh.0, fresh.1)
  ]

  client_kept : p.old.counter ≤ c.counter → (rk : List ℕ) (row : Stored) (tag : Tag) → rk ≢ marker_key → row_at c.rows pk rk ≡ Some row → mark_of row.props ≡ Some (Copy tag)
      → IsKept (with_old p c) p.old_number tag
  client_kept le rk row tag other is copy = elim (left rk row other is) as (λ _. IsKept (with_old p c) p.old_number tag) [
    | inl was ↦ kept_on p p.old_number tag c p.new le (s.tags.2 pk rk row tag was copy)
    | inr fresh ↦ absurd (let e = sym (client_unmarked row.props fresh.0) ∙ copy in cc)
  ]

-- ---- where clients write old, they see its rows

write_says : (phase : Option Phase) → is_write_state (old_says phase) ≡ is_write_phase phase
write_says None = refl
write_says (Some UseOld) = refl
write_says (Some PreferOld) = refl
write_says (Some PreferNew) = refl

-- ---- a client writes under the marker that it read

module _ (p : Pair) (pk : List ℕ) (props : List Prop) (tag : Tag) (rest : List Put) (s : IsSound p) (knows : KnowsRow p.old pk marker_key props tag)
    (writes : is_write_phase (old_phase_of tag.store props) ≡ true) (good : Each (IsClientPut pk) rest) (met : unmet_from 0 p.old.rows pk (Check marker_key tag ∷ rest) ≡ None) where
  abbrev contents_written : Contents
  contents_written = contents_after p.old_number p.old pk (Check marker_key tag ∷ rest)

  abbrev pair_written : Pair
  pair_written = with_old p contents_written

  at_marker : IsSeen (old_at p pk marker_key) props tag
  at_marker = seen p.old pk marker_key props tag knows (each_held 0 p.old.rows pk (Check marker_key tag ∷ rest) met).0

  state : old_state_at p pk ≡ old_says (old_phase_of tag.store props)
  state = ap old_state at_marker.is ∙ ap (λ (t : Tag). old_says (old_phase_of t.store at_marker.row.props)) at_marker.tag ∙ ap (λ (ps : List Prop). old_says (old_phase_of tag.store ps)) at_marker.props

  may_write : is_write_state (old_state_at p pk) ≡ true
  may_write = ap is_write_state state ∙ write_says (old_phase_of tag.store props) ∙ writes

  ranks : (1 ≤ rank (mode p pk)) × (rank (mode p pk) ≤ 3)
  ranks = ranks_at p pk s may_write

  row_written : (rk : List ℕ) → old_at pair_written pk rk ≡ row_after p.old_number p.old.counter rest rk (old_at p pk rk)
  row_written rk = all_puts p.old_number p.old.counter pk rest p.old.rows rk

  marker_same : old_at pair_written pk marker_key ≡ old_at p pk marker_key
  marker_same = row_written marker_key ∙ marker_stays pk IsVisible (Unit {0}) p.old_number p.old.counter rest (old_at p pk marker_key) good

  state_same : old_state_at pair_written pk ≡ old_state_at p pk
  state_same = ap old_state marker_same

  mode_same : mode pair_written pk ≡ mode p pk
  mode_same = ap (λ x. mode_of x (new_state_at p pk) p.old.sealed) state_same

  rises : p.old.counter ≤ contents_written.counter
  rises = (counter_rises p.old.counter rest).0

  forms_written : FormsAt (IsOldMarker p.old_number) (IsOldRow p.old_number) contents_written pk
  forms_written = record {
    marker = λ row is. s.forms.0.markers pk row (sym marker_same ∙ is);
    data_rows = client_forms p pk rest p.old.counter contents_written s good (λ rk other. row_written rk);
  }

  kept_written : KeptAt pair_written p.old_number contents_written pk
  kept_written rk row t is copy = elim (key_cases rk) as (λ _. IsKept pair_written p.old_number t) [
    | inl e ↦ kept_on p p.old_number t contents_written p.new rises (s.tags.2 pk marker_key row t (sym marker_same ∙ ap (old_at pair_written pk) (sym e) ∙ is) copy)
    | inr other ↦ client_kept p pk rest p.old.counter contents_written s good (λ k o. row_written k) rises rk row t other is copy
  ]

  step_written : (own : List Fact) → StepIn own p pair_written pk
  step_written own = old_early own p pk contents_written (mode p pk) (mode p pk) s (moves_puts p.old_number pk (Check marker_key tag ∷ rest) p.old) refl mode_same (omega arith) ranks.1
      forms_written kept_written
      (λ rk other. early_fits (mode p pk) ranks.0 ranks.1 (old_at p pk rk) (old_at pair_written pk rk) (new_at p pk rk) ((to_modes p s).keys pk rk other))
      (λ is none. let e = sym none ∙ at_marker.is in cc)

  client_write : OldWrite p pk rest p.old.counter pair_written
  client_write = record {
    step = step_written;
    was = λ rk other. shows_old p pk rk s may_write other;
    now = λ rk other. shows_old pair_written pk rk (step_written []).sound (ap is_write_state state_same ∙ may_write) other ∙ ap from_old (row_written rk);
  }

pub client_old : (p : Pair) (pk : List ℕ) (props : List Prop) (tag : Tag) (rest : List Put) (c : Contents) (tags : List Tag)
    → IsSound p → KnowsRow p.old pk marker_key props tag → is_write_phase (old_phase_of tag.store props) ≡ true
    → Each (IsClientPut pk) rest → judge p.old_number p.old pk (Check marker_key tag ∷ rest) ≡ Done c tags
    → OldWrite p pk rest p.old.counter (with_old p c)
client_old p pk props tag rest c tags s knows writes good done =
    let d = was_done p.old_number p.old pk (Check marker_key tag ∷ rest) c tags done in
    subst (λ x. OldWrite p pk rest p.old.counter (with_old p x)) (sym d.contents) (client_write p pk props tag rest s knows writes good d.met)

-- ---- a client bears a partition

module _ (p : Pair) (pk : List ℕ) (rest : List Put) (s : IsSound p) (part : part_fault Partition pk ≡ None) (good : Each (IsClientPut pk) rest)
    (allowed : is_sealed_off p.old pk ≡ false) (met : unmet_from 0 p.old.rows pk (marker_birth ∷ rest) ≡ None) where
  abbrev contents_born : Contents
  contents_born = contents_after p.old_number p.old pk (marker_birth ∷ rest)

  abbrev pair_born : Pair
  pair_born = with_old p contents_born

  no_marker : old_at p pk marker_key ≡ None
  no_marker = no_row (old_at p pk marker_key) (each_held 0 p.old.rows pk (marker_birth ∷ rest) met).0

  not_sealed : p.old.sealed ≡ false
  not_sealed = by_seal p.old.sealed refl where
    by_seal : (b : Bool) → p.old.sealed ≡ b → b ≡ false
    by_seal false e = refl
    by_seal true e = absurd (let found = row_of_partition p.old.rows pk (allowed_sealed p.old pk allowed e) in let none = sym (no_rows p s pk no_marker found.0) ∙ found.2 in cc)

  was_empty : mode p pk ≡ Empty
  was_empty = unsealed_empty p pk s (ap old_state no_marker) not_sealed

  no_new : new_state_at p pk ≡ NoNew
  no_new = (says p s pk).new ∙ ap new_in was_empty

  row_born : (rk : List ℕ) → rk ≢ marker_key → old_at pair_born pk rk ≡ row_after p.old_number (p.old.counter + 1) rest rk (old_at p pk rk)
  row_born rk other =
      all_puts p.old_number p.old.counter pk (marker_birth ∷ rest) p.old.rows rk
      ∙ ap (λ b. row_after p.old_number (p.old.counter + 1) rest rk (if b then left_by p.old_number p.old.counter marker_birth (old_at p pk rk) else old_at p pk rk)) (text_false marker_key rk (λ e. other (sym e)))

  marker_born : old_at pair_born pk marker_key ≡ Some (record { props = marker_props (old_kind UseOld); tag = next_tag p.old_number p.old.counter })
  marker_born =
      all_puts p.old_number p.old.counter pk (marker_birth ∷ rest) p.old.rows marker_key
      ∙ marker_stays pk IsVisible (Unit {0}) p.old_number (p.old.counter + 1) rest (left_by p.old_number p.old.counter marker_birth (old_at p pk marker_key)) good

  state_born : old_state_at pair_born pk ≡ AtUseOld
  state_born = ap old_state marker_born ∙ ap old_says (old_read p.old_number UseOld)

  mode_born : mode pair_born pk ≡ AtOld
  mode_born = ap (λ x. mode_of x (new_state_at p pk) p.old.sealed) state_born ∙ ap (λ x. mode_of AtUseOld x p.old.sealed) no_new

  rises_born : p.old.counter ≤ contents_born.counter
  rises_born = (counter_rises p.old.counter (marker_birth ∷ rest)).0

  props_born : (row : Stored) → old_at pair_born pk marker_key ≡ Some row → row.props ≡ marker_props (old_kind UseOld)
  props_born row is = ap (λ (x : Stored). x.props) (sym (the_row _ row (sym marker_born ∙ is)))

  forms_born : FormsAt (IsOldMarker p.old_number) (IsOldRow p.old_number) contents_born pk
  forms_born = record {
    marker = λ row is. (inl (UseOld, props_born row is), part);
    data_rows = client_forms p pk rest (p.old.counter + 1) contents_born s good row_born;
  }

  kept_born : KeptAt pair_born p.old_number contents_born pk
  kept_born rk row t is copy = elim (key_cases rk) as (λ _. IsKept pair_born p.old_number t) [
    | inl e ↦ absurd (let unmarked_row : mark_of row.props ≡ None = ap mark_of (props_born row (ap (old_at pair_born pk) (sym e) ∙ is)) in let x = sym unmarked_row ∙ copy in cc)
    | inr other ↦ client_kept p pk rest (p.old.counter + 1) contents_born s good row_born rises_born rk row t other is copy
  ]

  no_entry : (rk : List ℕ) → rk ≢ marker_key → new_at p pk rk ≡ None
  no_entry rk other = (subst (λ m. FitsMode m (old_at p pk rk) (new_at p pk rk)) was_empty ((to_modes p s).keys pk rk other)).1

  step_born : (own : List Fact) → StepIn own p pair_born pk
  step_born own = old_early own p pk contents_born Empty AtOld s (moves_puts p.old_number pk (marker_birth ∷ rest) p.old) was_empty mode_born (omega arith) (omega arith)
      forms_born kept_born no_entry (λ is none. let e = sym not_sealed ∙ is in cc)

  birth_write : OldWrite p pk rest (p.old.counter + 1) pair_born
  birth_write = record {
    step = step_born;
    was = λ rk other. shows_none p pk rk s no_marker not_sealed ∙ ap from_old (sym (no_rows p s pk no_marker rk));
    now = λ rk other. shows_old pair_born pk rk (step_born []).sound (ap is_write_state state_born) other ∙ ap from_old (row_born rk other);
  }

pub birth_old : (p : Pair) (pk : List ℕ) (rest : List Put) (c : Contents) (tags : List Tag)
    → IsSound p → part_fault Partition pk ≡ None → Each (IsClientPut pk) rest
    → judge p.old_number p.old pk (marker_birth ∷ rest) ≡ Done c tags
    → OldWrite p pk rest (p.old.counter + 1) (with_old p c)
birth_old p pk rest c tags s part good done =
    let d = was_done p.old_number p.old pk (marker_birth ∷ rest) c tags done in
    subst (λ x. OldWrite p pk rest (p.old.counter + 1) (with_old p x)) (sym d.contents) (birth_write p pk rest s part good d.allowed d.met)
