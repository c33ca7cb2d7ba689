use Rattle.std.proofs.Common.{sym, subst}
use Rattle.mt_turn.specs.Windows.{HasSeen}
use Rattle.mt_turn.proofs.Theorems.{has_seen_as_much}
use Rattle.mt_turn.proofs.tests.meet.Goals as goal

pub returns-clause-seen : goal.returns-clause-seen
returns-clause-seen c = let met = c.meet.ensures.later in subst (λ v. HasSeen v.seen c.args.reader.now.least) (sym met.2) (has_seen_as_much _ _ _ met.0 _ met.1 c.requires.seen)
