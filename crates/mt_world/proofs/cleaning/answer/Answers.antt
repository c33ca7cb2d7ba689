use Rattle.std.proofs.Common.{subst, Ok}
use Rattle.mt_clean.specs.declared.cleaner.CleanProgress.TheVariants as clean
use Rattle.mt_clean.specs.Cleanings.{Absorbs}
use Rattle.mt_world.proofs.CleanerLaws.{cleaner_says, cleaner_waits}
use Rattle.mt_world.proofs.cleaning.answer.Goals as goal

pub returns-in-Ok-More : goal.returns-in-Ok-More
returns-in-Ok-More c =
    cleaner_says c.args.cleaner.now c.absorb.new.self c.args.reply clean.More
    (subst (λ s. Absorbs c.args.cleaner.now c.args.reply (Ok s) c.absorb.new.self) c.in-Ok-More.field-0-is c.in-Ok-More.ensures.moves)

pub returns-in-Ok-Done : goal.returns-in-Ok-Done
returns-in-Ok-Done c =
    cleaner_says c.args.cleaner.now c.absorb.new.self c.args.reply clean.Done
    (subst (λ s. Absorbs c.args.cleaner.now c.args.reply (Ok s) c.absorb.new.self) c.in-Ok-Done.field-0-is c.in-Ok-Done.ensures.moves)

pub returns-in-Ok-NotSealed : goal.returns-in-Ok-NotSealed
returns-in-Ok-NotSealed c =
    cleaner_says c.args.cleaner.now c.absorb.new.self c.args.reply clean.NotSealed
    (subst (λ s. Absorbs c.args.cleaner.now c.args.reply (Ok s) c.absorb.new.self) c.in-Ok-NotSealed.field-0-is c.in-Ok-NotSealed.ensures.moves)

pub returns-in-Ok-NotMigrated : goal.returns-in-Ok-NotMigrated
returns-in-Ok-NotMigrated c =
    cleaner_says c.args.cleaner.now c.absorb.new.self c.args.reply (clean.NotMigrated c.in-Ok-NotMigrated.pk)
    (subst (λ s. Absorbs c.args.cleaner.now c.args.reply (Ok s) c.absorb.new.self) c.in-Ok-NotMigrated.field-0-is c.in-Ok-NotMigrated.ensures.moves)

pub returns-in-Err : goal.returns-in-Err
returns-in-Err c = cleaner_waits c.args.cleaner.now c.absorb.new.self c.args.reply _ c.in-Err.ensures.moves
