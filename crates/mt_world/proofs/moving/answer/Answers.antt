use Rattle.std.proofs.Common.{subst, Ok}
use Rattle.mt_migrate.specs.Moves.{Absorbs}
use Rattle.mt_world.proofs.MigratorLaws.{migrator_more, migrator_done, migrator_waits}
use Rattle.mt_world.proofs.moving.answer.Goals as goal

pub returns-in-Ok-More : goal.returns-in-Ok-More
returns-in-Ok-More c =
    migrator_more c.args.migrator.now c.absorb.new.self c.args.reply
    (subst (λ s. Absorbs c.args.migrator.now c.args.reply (Ok s) c.absorb.new.self) c.in-Ok-More.field-0-is c.in-Ok-More.ensures.moves)

pub returns-in-Ok-Done : goal.returns-in-Ok-Done
returns-in-Ok-Done c =
    migrator_done c.args.migrator.now c.absorb.new.self c.args.reply
    (subst (λ s. Absorbs c.args.migrator.now c.args.reply (Ok s) c.absorb.new.self) c.in-Ok-Done.field-0-is c.in-Ok-Done.ensures.moves)

pub returns-in-Err : goal.returns-in-Err
returns-in-Err c = migrator_waits c.args.migrator.now c.absorb.new.self c.args.reply _ c.in-Err.ensures.moves
