use Rattle.mt_clean.specs.Cleanings.{GoesOn}
use Rattle.mt_world_tests.proofs.cleanings.steps.Given as goal

abbrev pub invariant-loop : goal.invariant-loop
invariant-loop l = GoesOn l.cleaner
