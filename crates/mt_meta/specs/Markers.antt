-- The marker of a partition, in the old store and in the new one.
use Rattle.std.specs.Prelude.{ℕ, nat_lt, ◌&&◌, bytes_eq, List, [], ◌∷◌, codes, Option, Some, None, if◌then◌else◌}
use Rattle.mt_model.specs.declared.name.Hidden.TheVariants.{Kind, Tag}
use Rattle.mt_model.specs.declared.value.Prop.{Prop}
use Rattle.mt_model.specs.Props.{hidden_text, hidden_prop}
use Rattle.mt_meta.specs.declared.marker.Phase.{Phase}
use Rattle.mt_meta.specs.declared.marker.Phase.TheVariants.{UseOld, PreferOld, PreferNew}
use Rattle.mt_meta.specs.declared.marker.NewPhase.{NewPhase}
use Rattle.mt_meta.specs.declared.marker.NewPhase.TheVariants.{Filling, UseNew}

-- the row key of a marker, U+0001, which no client's key has
abbrev pub marker_key : List ℕ
marker_key = 1 ∷ []

-- what `$kind` says in the marker of the old store
abbrev pub old_kind : Phase → List ℕ
old_kind UseOld = codes "use-old"
old_kind PreferOld = codes "prefer-old"
old_kind PreferNew = codes "prefer-new"

-- what `$kind` says in the marker of the new store
abbrev pub new_kind : NewPhase → List ℕ
new_kind Filling = codes "filling"
new_kind UseNew = codes "use-new"

-- a marker has `$kind` alone
abbrev pub marker_props : List ℕ → List Prop
marker_props kind = hidden_prop Kind kind ∷ []

-- the phase of that name
abbrev pub old_named : List ℕ → Option Phase
old_named text =
    if bytes_eq text (old_kind UseOld) then Some UseOld
    else (if bytes_eq text (old_kind PreferOld) then Some PreferOld
    else (if bytes_eq text (old_kind PreferNew) then Some PreferNew else None))

abbrev pub new_named : List ℕ → Option NewPhase
new_named text =
    if bytes_eq text (new_kind Filling) then Some Filling
    else (if bytes_eq text (new_kind UseNew) then Some UseNew else None)

-- a store above 0 was the new one of an earlier migration: there `use-new` counts as UseOld
abbrev pub old_named_in : ℕ → List ℕ → Option Phase
old_named_in store text = if nat_lt 0 store && bytes_eq text (new_kind UseNew) then Some UseOld else old_named text

-- by the texts of `$kind` and `$tag`: a marker has a kind and no kept tag
abbrev pub old_phase_in : ℕ → Option (List ℕ) → Option (List ℕ) → Option Phase
old_phase_in store (Some kind) None = old_named_in store kind
old_phase_in store _ _ = None

abbrev pub new_phase_in : Option (List ℕ) → Option (List ℕ) → Option NewPhase
new_phase_in (Some kind) None = new_named kind
new_phase_in _ _ = None

-- the phase that a marker of the old store shows, whose number is that of the row's tag
abbrev pub old_phase_of : ℕ → List Prop → Option Phase
old_phase_of store ps = old_phase_in store (hidden_text ps Kind) (hidden_text ps Tag)

-- the phase that a marker of the new store shows
abbrev pub new_phase_of : List Prop → Option NewPhase
new_phase_of ps = new_phase_in (hidden_text ps Kind) (hidden_text ps Tag)
