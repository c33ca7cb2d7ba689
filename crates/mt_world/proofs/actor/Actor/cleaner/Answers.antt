use Rattle.mt_world.proofs.CleanerLaws.{cleaner_begins}
use Rattle.mt_world.proofs.actor.Actor.cleaner.Goals as goal

pub returns-clause-knows : goal.returns-clause-knows
returns-clause-knows c = λ w. cleaner_begins w c.new.result c.new.ensures
