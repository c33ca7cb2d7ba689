use Rattle.mt_clean.specs.Cleanings.{GoesOn}
use Rattle.mt_world_tests.proofs.cleanings.ends.Given as goal

abbrev pub invariant-loop-calls : goal.invariant-loop-calls
invariant-loop-calls l = GoesOn l.cleaner
