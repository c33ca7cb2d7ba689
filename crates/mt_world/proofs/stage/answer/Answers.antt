use Rattle.std.proofs.Common.{arith, sym, ap, subst, ◌∙◌, length, Ok}
use Rattle.mt_batch_plan.specs.Calls.{Absorbs}
use Rattle.mt_world.proofs.StageLaws.{written_at_write, batch_answered, written_move, refused_move, batch_goes_on, batch_forgets}
use Rattle.mt_world.proofs.stage.answer.Goals as goal

pub copy_tags-copy-requires-clause-room : goal.copy_tags-copy-requires-clause-room
copy_tags-copy-requires-clause-room c =
    let h = written_at_write c.args.call.batch c.args.call.place c.absorb.new.self.place c.args.reply c.in-Ok-Written.tags
    (subst (λ s. Absorbs c.args.call.batch c.args.call.place c.args.reply (Ok s) c.absorb.new.self.place) c.in-Ok-Written.field-0-is c.in-Ok-Written.ensures.moves) in
    let each = h.1 in
    let room = c.requires.room h.0 in
    omega (arith, each, room)

pub push-requires-clause-tagged : goal.push-requires-clause-tagged
push-requires-clause-tagged c =
    ap length c.copy_tags-copy.ensures
    ∙ (written_at_write c.args.call.batch c.args.call.place c.absorb.new.self.place c.args.reply c.in-Ok-Written.tags
    (subst (λ s. Absorbs c.args.call.batch c.args.call.place c.args.reply (Ok s) c.absorb.new.self.place) c.in-Ok-Written.field-0-is c.in-Ok-Written.ensures.moves)).1
    ∙ sym (ap length (c.into_batch.ensures ∙ c.absorb.ensures.batch))

pub returns-in-Ok-Written : goal.returns-in-Ok-Written
returns-in-Ok-Written c =
    batch_answered c.args.call c.absorb.new.self c.args.reply c.args.log.now c.push.new.self c.args.caller c.in-Ok-Written.field-0 _ _
    c.absorb.ensures.batch c.in-Ok-Written.ensures.moves
    (written_move c.absorb.new.self c.in-Ok-Written.field-0 c.in-Ok-Written.tags c.copy_tags-copy.result c.into_batch.result c.in-Ok-Written.field-0-is c.copy_tags-copy.ensures c.into_batch.ensures)
    c.push.ensures.history c.push.ensures.numbers c.push.ensures.faults

pub returns-in-Ok-Refused : goal.returns-in-Ok-Refused
returns-in-Ok-Refused c =
    batch_answered c.args.call c.absorb.new.self c.args.reply c.args.log.now c.push-in-Ok-Refused.new.self c.args.caller c.in-Ok-Refused.field-0 _ _
    c.absorb.ensures.batch c.in-Ok-Refused.ensures.moves
    (refused_move c.absorb.new.self c.in-Ok-Refused.field-0 c.in-Ok-Refused.refusal c.into_batch-in-Ok-Refused.result c.in-Ok-Refused.field-0-is c.into_batch-in-Ok-Refused.ensures)
    c.push-in-Ok-Refused.ensures.history c.push-in-Ok-Refused.ensures.numbers c.push-in-Ok-Refused.ensures.faults

pub returns-in-Ok-More : goal.returns-in-Ok-More
returns-in-Ok-More c =
    batch_goes_on c.args.call c.absorb.new.self c.args.reply c.args.log.now c.args.caller c.absorb.ensures.batch
    (subst (λ s. Absorbs c.args.call.batch c.args.call.place c.args.reply (Ok s) c.absorb.new.self.place) c.in-Ok-More.field-0-is c.in-Ok-More.ensures.moves)

pub returns-in-Err : goal.returns-in-Err
returns-in-Err c =
    batch_forgets c.args.call c.requires.fits.0 c.args.reply _ c.absorb.new.self.place c.args.log.now c.args.caller c.requires.fits.1 c.in-Err.ensures.moves
