use Rattle.std.proofs.Common.{refl, inr, subst}
use Rattle.mt_front.specs.Routes.{SpellsNothing}
use Rattle.mt_front.proofs.asks.asked_by.Goals as goal

pub returns : goal.returns
returns c = inr (subst SpellsNothing c.as_str-2.ensures (rw c.in-None.is at c.in_ok-spelled.ensures), refl)
