use Rattle.mt_match.proofs.Texts.{copied_low}
use Rattle.mt_match.proofs.bounds.low_end.Goals as goal

pub returns-in-Some : goal.returns-in-Some
returns-in-Some c = copied_low c.copy.result c.in-Some.text.now _ c.copy.ensures c.in-Some.ensures
