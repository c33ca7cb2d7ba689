use Rattle.mt_world.proofs.MigratorLaws.{begin_knows}
use Rattle.mt_world.proofs.actor.Actor.migrator.Goals as goal

pub returns-clause-knows : goal.returns-clause-knows
returns-clause-knows c = λ w. begin_knows w c.new.result c.new.ensures
