-- The overlay chooses what the logical table shows, and a sound pair shows a row by the mode of its partition.
use Rattle.std.proofs.Common.{◌≡◌, ◌≢◌, ℕ, Bool, true, false, cond, List, Option, Some, None, refl, ◌∙◌, ap}
use Rattle.std.specs.Prelude.{option_map}
use Rattle.mt_model.specs.declared.tag.Tag.{Tag}
use Rattle.mt_chain.specs.declared.row.Stored.{Stored}
use Rattle.mt_chain.specs.Rows.{shown}
use Rattle.mt_chain.proofs.KeyLaws.{text_false}
use Rattle.mt_meta.specs.declared.mark.Mark.{Mark}
use Rattle.mt_meta.specs.declared.mark.Mark.TheVariants.{Live, Copy, Tomb}
use Rattle.mt_meta.specs.declared.marker.NewPhase.TheVariants.{Filling, UseNew}
use Rattle.mt_meta.specs.Markers.{marker_key}
use Rattle.mt_meta.specs.Marks.{mark_of, seen_tag}
use Rattle.mt_meta.specs.Overlay.{old_with, old_choice, filling_choice, new_choice, overlay}
use Rattle.mt_meta.specs.Logical.{Pair, OldState, NoOld, AtUseOld, AtPreferOld, AtPreferNew, BadOld, NewState, NoNew, AtFilling, AtUseNew, BadNew, shown_with, from_old, from_new, new_by, filling_by, from_both, chosen, row_by, logical, old_at, new_at, old_state_at, new_state_at}
use Rattle.mt_meta.specs.Sound.{IsSound}
use Rattle.mt_meta.specs.Modes.{mode_of, mode, FitsMode, shown_in}
use Rattle.mt_meta.proofs.Rules.{to_modes}

old_with_shows : (tag : Option Tag) (row : Stored) (entry : Option Stored) → chosen (old_with tag) (Some row) entry ≡ shown_with row.props tag
old_with_shows None row entry = refl
old_with_shows (Some tag) row entry = refl

old_shows : (rk : List ℕ) (old entry : Option Stored) → chosen (old_choice (option_map (shown rk) old)) old entry ≡ from_old old
old_shows rk None entry = refl
old_shows rk (Some row) entry = old_with_shows (seen_tag row.props row.tag) row entry

filling_shows : (mark : Option Mark) (rk : List ℕ) (old : Option Stored) (entry : Stored)
    → chosen (filling_choice mark entry.tag (old_choice (option_map (shown rk) old))) old (Some entry) ≡ filling_by mark entry (from_old old)
filling_shows None rk old entry = refl
filling_shows (Some Live) rk old entry = refl
filling_shows (Some (Copy kept)) rk old entry = old_shows rk old (Some entry)
filling_shows (Some Tomb) rk old entry = refl

new_shows : (mark : Option Mark) (old : Option Stored) (entry : Stored) → chosen (new_choice mark entry.tag) old (Some entry) ≡ new_by mark entry
new_shows None old entry = refl
new_shows (Some Live) old entry = refl
new_shows (Some (Copy kept)) old entry = refl
new_shows (Some Tomb) old entry = refl

pub both_shows : (rk : List ℕ) (old new : Option Stored)
    → chosen (overlay Filling (option_map (shown rk) old) (option_map (shown rk) new)) old new ≡ from_both old new
both_shows rk old None = old_shows rk old None
both_shows rk old (Some entry) = filling_shows (mark_of entry.props) rk old entry

pub use_new_shows : (rk : List ℕ) (old new : Option Stored)
    → chosen (overlay UseNew (option_map (shown rk) old) (option_map (shown rk) new)) old new ≡ from_new new
use_new_shows rk old None = refl
use_new_shows rk old (Some entry) = new_shows (mark_of entry.props) old entry

row_in : (o : OldState) (n : NewState) (b : Bool) (row entry : Option Stored) → FitsMode (mode_of o n b) row entry
    → row_by o n row entry ≡ shown_in (mode_of o n b) row entry
row_in NoOld NoNew false row entry h = refl
row_in NoOld NoNew true row entry h = refl
row_in NoOld AtFilling false row entry h = absurd h
row_in NoOld AtFilling true row entry h = absurd h
row_in NoOld AtUseNew false row entry h = absurd h
row_in NoOld AtUseNew true row entry h = refl
row_in NoOld BadNew false row entry h = absurd h
row_in NoOld BadNew true row entry h = absurd h
row_in AtUseOld NoNew false row entry h = refl
row_in AtUseOld NoNew true row entry h = refl
row_in AtUseOld AtFilling false row entry h = absurd h
row_in AtUseOld AtFilling true row entry h = absurd h
row_in AtUseOld AtUseNew false row entry h = absurd h
row_in AtUseOld AtUseNew true row entry h = absurd h
row_in AtUseOld BadNew false row entry h = absurd h
row_in AtUseOld BadNew true row entry h = absurd h
row_in AtPreferOld NoNew false row entry h = refl
row_in AtPreferOld NoNew true row entry h = refl
row_in AtPreferOld AtFilling false row entry h = refl
row_in AtPreferOld AtFilling true row entry h = refl
row_in AtPreferOld AtUseNew false row entry h = absurd h
row_in AtPreferOld AtUseNew true row entry h = absurd h
row_in AtPreferOld BadNew false row entry h = absurd h
row_in AtPreferOld BadNew true row entry h = absurd h
row_in AtPreferNew NoNew false row entry h = absurd h
row_in AtPreferNew NoNew true row entry h = absurd h
row_in AtPreferNew AtFilling false row entry h = refl
row_in AtPreferNew AtFilling true row entry h = refl
row_in AtPreferNew AtUseNew false row entry h = refl
row_in AtPreferNew AtUseNew true row entry h = refl
row_in AtPreferNew BadNew false row entry h = absurd h
row_in AtPreferNew BadNew true row entry h = absurd h
row_in BadOld NoNew false row entry h = absurd h
row_in BadOld NoNew true row entry h = absurd h
row_in BadOld AtFilling false row entry h = absurd h
row_in BadOld AtFilling true row entry h = absurd h
row_in BadOld AtUseNew false row entry h = absurd h
row_in BadOld AtUseNew true row entry h = absurd h
row_in BadOld BadNew false row entry h = absurd h
row_in BadOld BadNew true row entry h = absurd h

pub logical_in : (p : Pair) (pk rk : List ℕ) → rk ≢ marker_key → IsSound p → logical p pk rk ≡ shown_in (mode p pk) (old_at p pk rk) (new_at p pk rk)
logical_in p pk rk other h =
    let shows = row_by (old_state_at p pk) (new_state_at p pk) (old_at p pk rk) (new_at p pk rk) in
    let open_key : logical p pk rk ≡ shows = ap (λ (b : Bool). cond b None shows) (text_false rk marker_key other) in
    open_key ∙ row_in (old_state_at p pk) (new_state_at p pk) p.old.sealed (old_at p pk rk) (new_at p pk rk) ((to_modes p h).keys pk rk other)
