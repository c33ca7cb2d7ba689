-- The phases that two markers show, and what they make of the rows at a key.
use Rattle.std.proofs.Common.{◌≡◌, ◌≢◌, true, cond, Option, Some, None, refl, sym, ap, subst, ◌∙◌}
use Rattle.std.specs.Prelude.{bytes_eq}
use Rattle.mt_model.specs.declared.key.Key.{Key}
use Rattle.mt_chain.specs.declared.row.Stored.{Stored}
use Rattle.mt_chain.proofs.KeyLaws.{text_false, text_same}
use Rattle.mt_meta.specs.declared.marker.Phase.{Phase}
use Rattle.mt_meta.specs.declared.marker.Phase.TheVariants.{UseOld, PreferOld, PreferNew}
use Rattle.mt_meta.specs.declared.marker.NewPhase.{NewPhase}
use Rattle.mt_meta.specs.declared.marker.NewPhase.TheVariants.{Filling, UseNew}
use Rattle.mt_meta.specs.Markers.{marker_key}
use Rattle.mt_meta.specs.Logical.{Pair, OldState, NoOld, AtUseOld, AtPreferOld, AtPreferNew, BadOld, NewState, NoNew, AtFilling, AtUseNew, BadNew, old_says, new_says, old_at, new_at, old_state_at, new_state_at, row_by}
use Rattle.mt_open.specs.Table.{old_phase_in, new_phase_in, row_by_phases, entity_by, entity_at}

pub old_said : (x : Option Phase) → old_phase_in (old_says x) ≡ x
old_said None = refl
old_said (Some UseOld) = refl
old_said (Some PreferOld) = refl
old_said (Some PreferNew) = refl

pub new_said : (x : Option NewPhase) → new_phase_in (new_says x) ≡ x
new_said None = refl
new_said (Some Filling) = refl
new_said (Some UseNew) = refl

pub by_states : (o : OldState) (n : NewState) (row entry : Option Stored) → row_by_phases (old_phase_in o) (new_phase_in n) row entry ≡ row_by o n row entry
by_states NoOld NoNew row entry = refl
by_states NoOld AtFilling row entry = refl
by_states NoOld AtUseNew row entry = refl
by_states NoOld BadNew row entry = refl
by_states AtUseOld n row entry = refl
by_states AtPreferOld n row entry = refl
by_states AtPreferNew NoNew row entry = refl
by_states AtPreferNew AtFilling row entry = refl
by_states AtPreferNew AtUseNew row entry = refl
by_states AtPreferNew BadNew row entry = refl
by_states BadOld NoNew row entry = refl
by_states BadOld AtFilling row entry = refl
by_states BadOld AtUseNew row entry = refl
by_states BadOld BadNew row entry = refl

-- at the marker's key clients see none
pub none_at_marker : (p : Pair) (key : Key) → key.rk ≡ marker_key → entity_at p key ≡ None
none_at_marker p key e =
    let here : bytes_eq key.rk marker_key ≡ true = subst (λ rk. bytes_eq rk marker_key ≡ true) (sym e) (text_same marker_key) in
    ap (λ b. entity_by key (cond b None (row_by (old_state_at p key.pk) (new_state_at p key.pk) (old_at p key.pk key.rk) (new_at p key.pk key.rk)))) here

-- at any other key they see what the two phases make of the rows
pub seen_elsewhere : (p : Pair) (key : Key) → key.rk ≢ marker_key
    → entity_at p key ≡ entity_by key (row_by_phases (old_phase_in (old_state_at p key.pk)) (new_phase_in (new_state_at p key.pk)) (old_at p key.pk key.rk) (new_at p key.pk key.rk))
seen_elsewhere p key ne =
    ap (λ b. entity_by key (cond b None (row_by (old_state_at p key.pk) (new_state_at p key.pk) (old_at p key.pk key.rk) (new_at p key.pk key.rk)))) (text_false key.rk marker_key ne)
    ∙ ap (entity_by key) (sym (by_states (old_state_at p key.pk) (new_state_at p key.pk) (old_at p key.pk key.rk) (new_at p key.pk key.rk)))
