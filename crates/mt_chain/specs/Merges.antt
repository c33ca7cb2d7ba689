-- What stays of properties when others are put over them.
use Rattle.std.specs.Prelude.{ℕ, Bool, not, ◌&&◌, bytes_eq, List, if◌then◌else◌}
use Rattle.std.specs.List.{list_any}
use Rattle.mt_model.specs.declared.value.Prop.{Prop}
use Rattle.mt_model.specs.Props.{is_visible, visible_prop_size}

-- some property has that name
abbrev pub has_name : List ℕ → List Prop → Bool
has_name name props = list_any (λ p. bytes_eq p.name name) props

-- clients see the property, and none that is put over it has its name
abbrev pub is_seen_beside : List Prop → Prop → Bool
is_seen_beside over p = is_visible p && not (has_name p.name over)

-- the bytes that it counts then
abbrev pub size_beside : List Prop → Prop → ℕ
size_beside over p = if has_name p.name over then 0 else visible_prop_size p
