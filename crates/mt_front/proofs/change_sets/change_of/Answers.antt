use Rattle.std.proofs.Common.{refl, inr, subst}
use Rattle.mt_front.specs.Routes.{SpellsNothing}
use Rattle.mt_front.proofs.change_sets.change_of.Goals as goal

pub returns-in-None-clause-asks : goal.returns-in-None-clause-asks
returns-in-None-clause-asks c = inr (subst SpellsNothing c.as_str-2.ensures (rw c.in-None.is at c.in_ok-spelled.ensures), refl)
