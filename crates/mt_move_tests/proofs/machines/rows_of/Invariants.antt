use Rattle.std.proofs.Common.{◌≡◌}
use Rattle.mt_move_tests.proofs.machines.rows_of.Given as goal

abbrev pub invariant-loop-n : goal.invariant-loop-n
invariant-loop-n l = l.old.store ≡ 0
