-- The laws of the definitions, in their own words.
use Rattle.std.proofs.Common.{◌≡◌, ◌≢◌, ℕ, Bool, true, List, [], Option, refl}
use Rattle.std.specs.Prelude.{◌↔◌, filter, option_map}
use Rattle.mt_model.specs.declared.tag.Tag.{Tag}
use Rattle.mt_model.specs.declared.value.Prop.{Prop}
use Rattle.mt_model.specs.Props.{is_visible}
use Rattle.mt_chain.specs.declared.row.Stored.{Stored}
use Rattle.mt_chain.specs.Rows.{shown}
use Rattle.mt_meta.specs.declared.marker.NewPhase.TheVariants.{Filling, UseNew}
use Rattle.mt_meta.specs.declared.mark.Mark.TheVariants.{Live, Copy, Tomb}
use Rattle.mt_meta.specs.declared.fact.Fact.{Fact}
use Rattle.mt_meta.specs.Markers.{marker_key}
use Rattle.mt_meta.specs.Marks.{stored}
use Rattle.mt_meta.specs.Overlay.{overlay}
use Rattle.mt_meta.specs.Logical.{Pair, logical, old_at, new_at, from_both, from_new, chosen}
use Rattle.mt_meta.specs.Sound.{IsSound}
use Rattle.mt_meta.specs.Modes.{IsSoundByModes, mode, shown_in}
use Rattle.mt_meta.specs.Facts.{Holds, Apart, ApartFrom, Grows}
use Rattle.mt_meta.proofs.Rules.{to_modes, from_modes}
use Rattle.mt_meta.proofs.MarkLaws.{live_visible, copy_visible}
use Rattle.mt_meta.proofs.ShownLaws.{both_shows, use_new_shows, logical_in}
use Rattle.mt_meta.proofs.Growth.{fact_kept}
use Rattle.mt_meta.proofs.Actors.{apart_symmetric}

-- the eight rules of a sound pair are the rules by the mode of each partition
pub rules_are_modes : (p : Pair) → (IsSound p ↔ IsSoundByModes p)
rules_are_modes p = (to_modes p, from_modes p)

-- what the overlay chooses is what the logical table shows while new fills
pub overlay_is_logical : (rk : List ℕ) (old new : Option Stored) → chosen (overlay Filling (option_map (shown rk) old) (option_map (shown rk) new)) old new ≡ from_both old new
overlay_is_logical = both_shows

-- and once new is used alone
pub overlay_is_logical_alone : (rk : List ℕ) (old new : Option Stored) → chosen (overlay UseNew (option_map (shown rk) old) (option_map (shown rk) new)) old new ≡ from_new new
overlay_is_logical_alone = use_new_shows

-- in a sound pair the mode of a partition tells what clients see at each of their keys
pub logical_by_mode : (p : Pair) (pk rk : List ℕ) → rk ≢ marker_key → IsSound p → logical p pk rk ≡ shown_in (mode p pk) (old_at p pk rk) (new_at p pk rk)
logical_by_mode = logical_in

-- what an actor knows is so after a step of another, where the step keeps what every step is to keep and the two do not share an epoch
pub facts_are_kept : (own : List Fact) (p q : Pair) (before after : Bool) → IsSound p → IsSound q → Grows own p q → (before ≡ true → after ≡ true)
    → (f : Fact) → Holds p before f → ApartFrom f own → Holds q after f
facts_are_kept = fact_kept

-- a fact is apart from another where that is apart from it
pub apartness_is_mutual : (f g : Fact) → Apart f g → Apart g f
apartness_is_mutual = apart_symmetric

-- clients see the same properties of a live row as of what it is made of
pub live_shows_the_same : (ps : List Prop) → filter is_visible (stored Live ps) ≡ filter is_visible ps
live_shows_the_same = live_visible

-- of a copy too
pub copy_shows_the_same : (tag : Tag) (ps : List Prop) → filter is_visible (stored (Copy tag) ps) ≡ filter is_visible ps
copy_shows_the_same = copy_visible

-- and none of a tombstone
pub tomb_shows_none : (ps : List Prop) → filter is_visible (stored Tomb ps) ≡ []
tomb_shows_none ps = refl
