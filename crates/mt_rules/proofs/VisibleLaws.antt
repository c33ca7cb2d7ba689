-- The visible ones of some properties.
use Rattle.std.proofs.Common.{◌≡◌, true, false, cond, not, ◌||◌, List, [], ◌∷◌, filter, refl, ap, ◌∙◌}
use Rattle.std.specs.List.{list_any}
use Rattle.mt_model.specs.declared.value.Prop.{Prop}
use Rattle.mt_model.specs.Name.{is_hidden}
use Rattle.mt_model.specs.Props.{is_visible}

pub none_hidden : (ps : List Prop) → list_any (λ p. is_hidden p.name) (filter is_visible ps) ≡ false
none_hidden [] = refl
none_hidden (p ∷ ps) =
    elim (is_hidden p.name) as (λ b. is_hidden p.name ≡ b → list_any (λ q. is_hidden q.name) (cond (not b) (p ∷ filter is_visible ps) (filter is_visible ps)) ≡ false) [
      | true ↦ λ e. none_hidden ps
      | false ↦ λ e. ap (λ b. b || list_any (λ q. is_hidden q.name) (filter is_visible ps)) e ∙ none_hidden ps
    ] refl
