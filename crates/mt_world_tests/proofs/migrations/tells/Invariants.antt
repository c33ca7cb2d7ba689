use Rattle.mt_migrate.specs.Moves.{GoesOn}
use Rattle.mt_world_tests.proofs.migrations.tells.Given as goal

abbrev pub invariant-loop : goal.invariant-loop
invariant-loop l = GoesOn l.migrator
