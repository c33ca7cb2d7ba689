use Rattle.std.proofs.Common.{subst, Ok}
use Rattle.mt_scan.specs.Units.{IsEntryOf}
use Rattle.mt_scan.specs.Pages.{Absorbs}
use Rattle.mt_world.proofs.PageEntries.{page_goes_on, page_forgets, unit_done, last_done, entry_light, unit_answered, last_answered}
use Rattle.mt_world.proofs.page.answer.Goals as goal

pub push-requires-clause-room : goal.push-requires-clause-room
push-requires-clause-room c =
    entry_light c.args.call c.absorb.new.self c.args.reply c.in-Ok-Unit.unit c.in-Ok.what c.args.log.now.history c.requires.valid c.requires.fits
    (unit_done c.args.call c.absorb.new.self c.args.reply c.in-Ok-Unit.unit (subst (λ s. Absorbs c.args.call c.args.reply (Ok s) c.absorb.new.self) c.in-Ok-Unit.field-0-is c.in-Ok-Unit.ensures))
    (subst (λ f. IsEntryOf c.in-Ok-Unit.unit f c.in-Ok.what) c.filter.ensures c.in-Ok.ensures) c.requires.light

pub push-requires-in-Ok-Last-clause-room : goal.push-requires-in-Ok-Last-clause-room
push-requires-in-Ok-Last-clause-room c =
    entry_light c.args.call c.absorb.new.self c.args.reply c.in-Ok-Last.unit c.in-Ok-into_entry.last c.args.log.now.history c.requires.valid c.requires.fits
    (last_done c.args.call c.absorb.new.self c.args.reply c.in-Ok-Last.unit (subst (λ s. Absorbs c.args.call c.args.reply (Ok s) c.absorb.new.self) c.in-Ok-Last.field-0-is c.in-Ok-Last.ensures))
    (subst (λ f. IsEntryOf c.in-Ok-Last.unit f c.in-Ok-into_entry.last) c.filter-in-Ok-Last.ensures c.in-Ok-into_entry.ensures) c.requires.light

pub returns-in-Err : goal.returns-in-Err
returns-in-Err c = page_forgets c.args.call c.args.reply c.args.log.now c.args.caller c.requires.fits

pub returns-in_default-into_entry : goal.returns-in_default-into_entry
returns-in_default-into_entry c = page_forgets c.args.call c.args.reply c.args.log.now c.args.caller c.requires.fits

pub returns-in-Ok-More : goal.returns-in-Ok-More
returns-in-Ok-More c =
    page_goes_on c.args.call c.absorb.new.self c.args.reply c.args.log.now c.args.caller
    (subst (λ s. Absorbs c.args.call c.args.reply (Ok s) c.absorb.new.self) c.in-Ok-More.field-0-is c.in-Ok-More.ensures)

pub returns-in-Ok : goal.returns-in-Ok
returns-in-Ok c =
    unit_answered c.args.call c.absorb.new.self c.args.reply c.args.log.now c.push.new.self c.args.caller c.in-Ok-Unit.unit c.in-Ok.what
    (subst (λ f. IsEntryOf c.in-Ok-Unit.unit f c.in-Ok.what) c.filter.ensures c.in-Ok.ensures) c.push.ensures.history c.push.ensures.numbers c.push.ensures.faults
    (subst (λ s. Absorbs c.args.call c.args.reply (Ok s) c.absorb.new.self) c.in-Ok-Unit.field-0-is c.in-Ok-Unit.ensures)

pub returns-in-Ok-into_entry : goal.returns-in-Ok-into_entry
returns-in-Ok-into_entry c =
    last_answered c.args.call c.absorb.new.self c.args.reply c.args.log.now c.push-in-Ok-Last.new.self c.args.caller c.in-Ok-Last.unit c.in-Ok-into_entry.last
    (subst (λ f. IsEntryOf c.in-Ok-Last.unit f c.in-Ok-into_entry.last) c.filter-in-Ok-Last.ensures c.in-Ok-into_entry.ensures) c.push-in-Ok-Last.ensures.history c.push-in-Ok-Last.ensures.numbers c.push-in-Ok-Last.ensures.faults
    c.into_page.result c.into_page.ensures.rows c.into_page.ensures.token
    (subst (λ s. Absorbs c.args.call c.args.reply (Ok s) c.absorb.new.self) c.in-Ok-Last.field-0-is c.in-Ok-Last.ensures)
