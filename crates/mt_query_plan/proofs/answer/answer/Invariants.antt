use Rattle.std.proofs.Common.{◌+◌, length}
use Rattle.mt_query_plan.proofs.WalkLaws.{Walked}
use Rattle.mt_query_plan.proofs.answer.answer.Given as goal

abbrev pub invariant-loop-rk : goal.invariant-loop-rk
invariant-loop-rk l = Walked l.pk l.filter l.phase l.rows l.entries l.found.items l.old l.new

abbrev pub decreases-loop-rk : goal.decreases-loop-rk
decreases-loop-rk l = length l.old + length l.new
