-- Where a name stands in a list of properties, or would stand.
use Rattle.std.specs.Prelude.{ℕ, ◌≡◌, ◌<◌, ◌≤◌, List, length}
use Rattle.std.specs.List.{HoldsAt}
use Rattle.std.specs.List.Sorted.{IsPartitionPoint}
use Rattle.std.specs.Ordering.{nat_cmp}
use Rattle.std.specs.declared.cmp.Ordering.TheVariants.{Less, Equal, Greater}
use Rattle.std.specs.Cmp.Lexicographic.{slice_cmp}
use Rattle.mt_model.specs.declared.value.Prop.{Prop}

-- the property at place i has the name
abbrev pub StandsAt : List Prop → List ℕ → ℕ → Type 0
StandsAt ps name i = (i < length ps) × HoldsAt (λ p. slice_cmp nat_cmp p.name name ≡ Equal) ps i

-- the name is above those before place i, and below those from it on
abbrev pub IsGapFor : List Prop → List ℕ → ℕ → Type 0
IsGapFor ps name i =
    (i ≤ length ps) × IsPartitionPoint (λ p. slice_cmp nat_cmp p.name name ≡ Less) (λ p. slice_cmp nat_cmp p.name name ≡ Greater) ps i
