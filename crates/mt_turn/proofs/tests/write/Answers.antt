use Rattle.std.proofs.Common.{rules, sym, subst}
use Rattle.mt_turn.specs.Windows.{HasSeen}
use Rattle.mt_turn.proofs.Theorems.{has_seen_last}
use Rattle.mt_turn.proofs.tests.write.Goals as goal

pub returns-clause-seen : goal.returns-clause-seen
returns-clause-seen g c = subst (λ v. HasSeen v.seen c.reader-reader.result.least) (sym c.give.ensures.view) (has_seen_last _ _ _ (search rules))
