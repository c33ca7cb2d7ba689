-- What clients see of a partition of a sound pair, by its markers, and by rows that were read.
use Rattle.std.proofs.Common.{◌≡◌, ◌≢◌, ℕ, Bool, true, false, ◌≤◌, List, [], Option, Some, None, refl, sym, ap, ◌∙◌, arith, inl, inr}
use Rattle.std.specs.Prelude.{option_map}
use Rattle.mt_model.specs.declared.tag.Tag.{Tag}
use Rattle.mt_chain.specs.declared.row.Stored.{Stored}
use Rattle.mt_chain.specs.declared.row.StoredRow.{StoredRow}
use Rattle.mt_meta.specs.declared.marker.NewPhase.{NewPhase}
use Rattle.mt_meta.specs.declared.showing.Choice.{Choice}
use Rattle.mt_meta.specs.declared.marker.NewPhase.TheVariants.{Filling, UseNew}
use Rattle.mt_meta.specs.Markers.{marker_key}
use Rattle.mt_meta.specs.Logical.{Pair, Shown, OldState, NoOld, AtUseOld, AtPreferOld, AtPreferNew, BadOld, NoNew, AtFilling, AtUseNew, shown_as, from_old, from_new, shown_over, chosen, old_state, new_state, old_at, new_at, old_state_at, new_state_at, logical}
use Rattle.mt_meta.specs.Overlay.{overlay}
use Rattle.mt_meta.specs.ReadRows.{kept_row}
use Rattle.mt_meta.specs.Sound.{IsSound}
use Rattle.mt_meta.specs.Modes.{Mode, Empty, AtOld, Prepared, Copying, Overlaid, Settled, NewOnly, Broken, mode_of, mode, rank, shown_in}
use Rattle.mt_meta.specs.Facts.{is_prefer_new, is_filling, is_use_new}
use Rattle.mt_meta.proofs.Rules.{key_cases}
use Rattle.mt_meta.proofs.ShownLaws.{both_shows, use_new_shows, logical_in}
use Rattle.mt_meta.proofs.ModeLaws.{IsWhole, old_in, whole, says, early_shows, unsealed_empty, is_overlaid, filling_ranks, prefer_new_ranks, rank_from, use_new_rank}

-- a marker of old that lets clients write there
abbrev pub is_write_state : OldState → Bool
is_write_state NoOld = false
is_write_state AtUseOld = true
is_write_state AtPreferOld = true
is_write_state AtPreferNew = false
is_write_state BadOld = false

write_ranks : (m : Mode) → IsWhole m → is_write_state (old_in m) ≡ true → (1 ≤ rank m) × (rank m ≤ 3)
write_ranks Empty w h = absurd cc
write_ranks AtOld w h = (omega arith, omega arith)
write_ranks Prepared w h = (omega arith, omega arith)
write_ranks Copying w h = (omega arith, omega arith)
write_ranks Overlaid w h = absurd cc
write_ranks Settled w h = absurd cc
write_ranks NewOnly w h = absurd cc
write_ranks Broken w h = absurd w

pub ranks_at : (p : Pair) (pk : List ℕ) → IsSound p → is_write_state (old_state_at p pk) ≡ true → (1 ≤ rank (mode p pk)) × (rank (mode p pk) ≤ 3)
ranks_at p pk s h = write_ranks (mode p pk) (whole p s pk) (ap is_write_state (sym (says p s pk).old) ∙ h)

pub shows_old : (p : Pair) (pk rk : List ℕ) → IsSound p → is_write_state (old_state_at p pk) ≡ true → rk ≢ marker_key → logical p pk rk ≡ from_old (old_at p pk rk)
shows_old p pk rk s h other =
    let r = ranks_at p pk s h in
    logical_in p pk rk other s ∙ early_shows (mode p pk) r.0 r.1 (old_at p pk rk) (new_at p pk rk)

-- without a marker, and where old is not sealed, they see nothing
pub shows_none : (p : Pair) (pk rk : List ℕ) → IsSound p → old_at p pk marker_key ≡ None → p.old.sealed ≡ false → logical p pk rk ≡ None
shows_none p pk rk s none open_old = elim (key_cases rk) as (λ _. logical p pk rk ≡ None) [
  | inl e ↦ ap (logical p pk) e
  | inr other ↦ logical_in p pk rk other s ∙ ap (λ m. shown_in m (old_at p pk rk) (new_at p pk rk)) (unsealed_empty p pk s (ap old_state none) open_old)
]

-- old is turned and new fills: they see the entries over old's rows
pub filling_mode : (p : Pair) (pk : List ℕ) → IsSound p → new_state_at p pk ≡ AtFilling → is_prefer_new (old_state_at p pk) ≡ true → mode p pk ≡ Overlaid
filling_mode p pk s fills turned = is_overlaid (mode p pk) (prefer_new_ranks p pk s turned).0 (filling_ranks p pk s (ap is_filling fills)).1

pub shows_fill : (p : Pair) (pk rk : List ℕ) → IsSound p → new_state_at p pk ≡ AtFilling → is_prefer_new (old_state_at p pk) ≡ true → rk ≢ marker_key
    → logical p pk rk ≡ shown_over Filling (old_at p pk rk) (new_at p pk rk)
shows_fill p pk rk s fills turned other = logical_in p pk rk other s ∙ ap (λ m. shown_in m (old_at p pk rk) (new_at p pk rk)) (filling_mode p pk s fills turned)

-- new is used alone: they see its entries
late_shows : (m : Mode) → IsWhole m → 5 ≤ rank m → (row entry : Option Stored) → shown_in m row entry ≡ from_new entry
late_shows Empty w low row entry = absurd (omega arith)
late_shows AtOld w low row entry = absurd (omega arith)
late_shows Prepared w low row entry = absurd (omega arith)
late_shows Copying w low row entry = absurd (omega arith)
late_shows Overlaid w low row entry = absurd (omega arith)
late_shows Settled w low row entry = refl
late_shows NewOnly w low row entry = refl
late_shows Broken w low row entry = absurd w

pub use_new_low : (p : Pair) (pk : List ℕ) → IsSound p → new_state_at p pk ≡ AtUseNew → 5 ≤ rank (mode p pk)
use_new_low p pk s used = rank_from (λ o n. is_use_new n) 5 use_new_rank p pk s (ap is_use_new used)

pub shows_new : (p : Pair) (pk rk : List ℕ) → IsSound p → new_state_at p pk ≡ AtUseNew → rk ≢ marker_key
    → logical p pk rk ≡ shown_over UseNew (old_at p pk rk) (new_at p pk rk)
shows_new p pk rk s used other = logical_in p pk rk other s ∙ late_shows (mode p pk) (whole p s pk) (use_new_low p pk s used) (old_at p pk rk) (new_at p pk rk)

-- no marker in either: they see nothing
nothing_mode : (b : Bool) → mode_of NoOld NoNew b ≡ Empty
nothing_mode false = refl
nothing_mode true = refl

pub empty_mode : (p : Pair) (pk : List ℕ) → old_at p pk marker_key ≡ None → new_at p pk marker_key ≡ None → mode p pk ≡ Empty
empty_mode p pk none nothing =
    ap (λ x. mode_of (old_state x) (new_state_at p pk) p.old.sealed) none
    ∙ ap (λ x. mode_of NoOld (new_state x) p.old.sealed) nothing
    ∙ nothing_mode p.old.sealed

pub shows_nothing : (p : Pair) (pk rk : List ℕ) → IsSound p → old_at p pk marker_key ≡ None → new_at p pk marker_key ≡ None → logical p pk rk ≡ None
shows_nothing p pk rk s none nothing = elim (key_cases rk) as (λ _. logical p pk rk ≡ None) [
  | inl e ↦ ap (logical p pk) e
  | inr other ↦ logical_in p pk rk other s ∙ ap (λ m. shown_in m (old_at p pk rk) (new_at p pk rk)) (empty_mode p pk none nothing)
]

-- ---- by rows that were read

-- the row that the overlay chooses among those read is the one that clients see
overlay_shows : (phase : NewPhase) (row entry : Option StoredRow) → chosen (overlay phase row entry) (option_map kept_row row) (option_map kept_row entry) ≡ shown_over phase (option_map kept_row row) (option_map kept_row entry)
overlay_shows Filling None None = both_shows [] None None
overlay_shows Filling None (Some e) = both_shows [] None (Some (kept_row e))
overlay_shows Filling (Some r) None = both_shows [] (Some (kept_row r)) None
overlay_shows Filling (Some r) (Some e) = both_shows [] (Some (kept_row r)) (Some (kept_row e))
overlay_shows UseNew None None = use_new_shows [] None None
overlay_shows UseNew None (Some e) = use_new_shows [] None (Some (kept_row e))
overlay_shows UseNew (Some r) None = use_new_shows [] (Some (kept_row r)) None
overlay_shows UseNew (Some r) (Some e) = use_new_shows [] (Some (kept_row r)) (Some (kept_row e))

pub choice_shows : (phase : NewPhase) (row entry : Option StoredRow) (c : Choice) → overlay phase row entry ≡ c → chosen c (option_map kept_row row) (option_map kept_row entry) ≡ shown_over phase (option_map kept_row row) (option_map kept_row entry)
choice_shows phase row entry c is = ap (λ x. chosen x (option_map kept_row row) (option_map kept_row entry)) (sym is) ∙ overlay_shows phase row entry

-- what is made of a row with a tag
pub tag_shows : {A : Type 0} (f : Shown → A) (row : Option StoredRow) (tag : Tag) → option_map (λ (r : StoredRow). f (shown_as r.props tag)) row ≡ option_map f (option_map (λ (r : Stored). shown_as r.props tag) (option_map kept_row row))
tag_shows f None tag = refl
tag_shows f (Some r) tag = refl
