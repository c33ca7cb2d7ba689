use Rattle.std.proofs.Common.{[], sym, subst}
use Rattle.std.proofs.lemmas.Result.{err_from_is_err_and}
use Rattle.mt_world.specs.declared.actor.Answer.TheVariants as answer
use Rattle.mt_front.specs.declared.connection.Outcome.TheVariants as outcome
use Rattle.mt_front.specs.Turns.{BrokeOff}
use Rattle.mt_front.proofs.CameLaws.{nothing_broke}
use Rattle.mt_front.proofs.CallLaws.{tried_as, tried_in_vain, never_answered}
use Rattle.mt_front.proofs.connection.try_request.Goals as goal

pub returns-in_err-call : goal.returns-in_err-call
returns-in_err-call g c =
    let p = err_from_is_err_and c.from_residual.result c.from_residual.ensures.1 in
    rw p.1 ([], subst (BrokeOff 0 c.args.world.now []) (sym c.call_of.ensures.same) (nothing_broke 0 c.args.world.now))

pub returns-in-Ok-Written : goal.returns-in-Ok-Written
returns-in-Ok-Written g c = tried_as 0 c.args.world.now c.call_of.new.self c.finish.new.self c.args.request c.in_ok-call.call (outcome.Done c.in-Ok-Written.tags) c.in_ok-call.ensures.same c.in_ok-call.ensures.call (rw c.in-Ok-Written.field-0-is at c.in-Ok-Written.ensures)

pub returns-in-Ok-Refused : goal.returns-in-Ok-Refused
returns-in-Ok-Refused g c = tried_as 0 c.args.world.now c.call_of.new.self c.finish.new.self c.args.request c.in_ok-call.call (outcome.Refused c.in-Ok-Refused.refusal) c.in_ok-call.ensures.same c.in_ok-call.ensures.call (rw c.in-Ok-Refused.field-0-is at c.in-Ok-Refused.ensures)

pub returns-in-Ok-Rows : goal.returns-in-Ok-Rows
returns-in-Ok-Rows g c = tried_as 0 c.args.world.now c.call_of.new.self c.finish.new.self c.args.request c.in_ok-call.call (outcome.Found c.in-Ok-Rows.rows) c.in_ok-call.ensures.same c.in_ok-call.ensures.call (rw c.in-Ok-Rows.field-0-is at c.in-Ok-Rows.ensures)

pub returns-in-Err-StoreFault : goal.returns-in-Err-StoreFault
returns-in-Err-StoreFault g c = tried_as 0 c.args.world.now c.call_of.new.self c.finish.new.self c.args.request c.in_ok-call.call outcome.Fault c.in_ok-call.ensures.same c.in_ok-call.ensures.call (rw c.in-Err-StoreFault.field-0-is at c.in-Err-StoreFault.ensures)

pub returns-in-Err-HistoryFull : goal.returns-in-Err-HistoryFull
returns-in-Err-HistoryFull g c = tried_as 0 c.args.world.now c.call_of.new.self c.finish.new.self c.args.request c.in_ok-call.call outcome.Full c.in_ok-call.ensures.same c.in_ok-call.ensures.call (rw c.in-Err-HistoryFull.field-0-is at c.in-Err-HistoryFull.ensures)

pub returns-in-Err-NoMemory : goal.returns-in-Err-NoMemory
returns-in-Err-NoMemory g c = tried_in_vain 0 c.args.world.now c.call_of.new.self c.finish.new.self c.args.request c.in_ok-call.call c.in_ok-call.ensures.same c.in_ok-call.ensures.call (rw c.in-Err-NoMemory.field-0-is at c.in-Err-NoMemory.ensures)

pub returns-in-Ok-Page : goal.returns-in-Ok-Page
returns-in-Ok-Page g c = tried_as 0 c.args.world.now c.call_of.new.self c.finish.new.self c.args.request c.in_ok-call.call (outcome.Paged c.in-Ok-Page.page) c.in_ok-call.ensures.same c.in_ok-call.ensures.call (rw c.in-Ok-Page.field-0-is at c.in-Ok-Page.ensures)

pub unreachable-requires : goal.unreachable-requires
unreachable-requires g c = never_answered 0 c.call_of.new.self c.finish.new.self c.args.request c.in_ok-call.call answer.Moved tt c.in_ok-call.ensures.call (rw c.in-Ok-Moved.field-0-is at c.in-Ok-Moved.ensures)

pub unreachable-requires-in-Ok-Cleaned : goal.unreachable-requires-in-Ok-Cleaned
unreachable-requires-in-Ok-Cleaned g c = never_answered 0 c.call_of.new.self c.finish.new.self c.args.request c.in_ok-call.call answer.Cleaned tt c.in_ok-call.ensures.call (rw c.in-Ok-Cleaned.field-0-is at c.in-Ok-Cleaned.ensures)

pub unreachable-requires-in-Ok-NotSealed : goal.unreachable-requires-in-Ok-NotSealed
unreachable-requires-in-Ok-NotSealed g c = never_answered 0 c.call_of.new.self c.finish.new.self c.args.request c.in_ok-call.call answer.NotSealed tt c.in_ok-call.ensures.call (rw c.in-Ok-NotSealed.field-0-is at c.in-Ok-NotSealed.ensures)

pub unreachable-requires-in-Ok-NotMigrated : goal.unreachable-requires-in-Ok-NotMigrated
unreachable-requires-in-Ok-NotMigrated g c = never_answered 0 c.call_of.new.self c.finish.new.self c.args.request c.in_ok-call.call (answer.NotMigrated c.in-Ok-NotMigrated.field-0-0) tt c.in_ok-call.ensures.call (rw c.in-Ok-NotMigrated.field-0-is at c.in-Ok-NotMigrated.ensures)
