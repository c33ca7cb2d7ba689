use Rattle.mt_migrate.specs.Moves.{GoesOn}
use Rattle.mt_world_tests.proofs.migrations.run.Given as goal

abbrev pub invariant-loop-calls : goal.invariant-loop-calls
invariant-loop-calls l = GoesOn l.migrator
