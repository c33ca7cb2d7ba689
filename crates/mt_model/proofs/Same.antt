-- What `==` decides, for crates above: equality.
use Rattle.std.proofs.Common.{◌≡◌, List, refl, rules}
use Rattle.std.specs.Bool.{Decides}
use Rattle.std.specs.Cmp.Lexicographic.{pointwise}
use Rattle.std.proofs.lemmas.Slice.Eq.{slice_eq-Decides}
use Rattle.mt_model.specs.declared.value.Prop.{Prop}
use Rattle.mt_model.specs.declared.entity.Entity.{Entity}
use Rattle.mt_model.specs.contracts.value.PropPartialEq.TheImpl as prop_eq
use Rattle.mt_model.specs.contracts.entity.EntityPartialEq.TheImpl as entity_eq

pub prop_decides : (a b : Prop) → Decides ((prop_eq.ghosts).eq a b) (a ≡ b)
prop_decides a b = search rules

pub props_decide : (ps qs : List Prop) → Decides (pointwise (prop_eq.ghosts).eq ps qs) (ps ≡ qs)
props_decide ps qs = slice_eq-Decides prop_decides ps qs (pointwise (prop_eq.ghosts).eq ps qs) refl

pub entity_decides : (a b : Entity) → Decides ((entity_eq.ghosts).eq a b) (a ≡ b)
entity_decides a b = search (rules, props_decide)

pub entities_decide : (es fs : List Entity) → Decides (pointwise (entity_eq.ghosts).eq es fs) (es ≡ fs)
entities_decide es fs = slice_eq-Decides entity_decides es fs (pointwise (entity_eq.ghosts).eq es fs) refl
