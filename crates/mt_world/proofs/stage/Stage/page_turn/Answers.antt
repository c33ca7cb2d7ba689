use Rattle.std.proofs.Common.{ap, ◌∙◌}
use Rattle.std.proofs.lemmas.Result.{err_from_is_err_and}
use Rattle.mt_history.specs.Kept.{has_room}
use Rattle.mt_history.specs.Weight.{need_of_page}
use Rattle.mt_world.specs.declared.actor.ClientCall.TheVariants as client
use Rattle.mt_world.specs.declared.actor.Actor.TheVariants.{Client}
use Rattle.mt_world.specs.Steps.{said_by, left_by}
use Rattle.mt_world.proofs.StageLaws.{has_room_at, room_capped, answered_takes, unanswered_takes}
use Rattle.mt_world.proofs.stage.Stage.page_turn.Goals as goal

pub returns-in_err-reply : goal.returns-in_err-reply
returns-in_err-reply g c =
    let p = err_from_is_err_and c.from_residual.result c.from_residual.ensures.1 in
    let room = has_room_at _ _ _ _ c.room_for.result c.if-not-room_for.false c.room_for.ensures c.history.ensures (ap (has_room c.self.inside.log.history) c.need-need.ensures.value ∙ room_capped c.self.inside.log.history (need_of_page c.args.call.filter)) in
    rw (p.1, p.2, ← c.self.view_is)
    (unanswered_takes _ c.ask_store.new.self c.args.caller (Client (client.Page c.args.call)) c.in-Ok.ask c.prepare.new.log _
    (record { fits = (c.need-need.ensures.valid, c.requires); room = room; reserves = c.prepare.ensures.same; asks = c.in-Ok.ensures.asks })
    c.in_err-reply.ensures)

pub returns : goal.returns
returns g c =
    let room = has_room_at _ _ _ _ c.room_for.result c.if-not-room_for.false c.room_for.ensures c.history.ensures (ap (has_room c.self.inside.log.history) c.need-need.ensures.value ∙ room_capped c.self.inside.log.history (need_of_page c.args.call.filter)) in
    rw (← c.self.view_is)
    (answered_takes _ c.ask_store.new.self _ c.args.caller (Client (client.Page c.args.call)) (left_by c.answer.result) c.in-Ok.ask c.in_ok-reply.reply c.prepare.new.log c.answer.new.log (said_by c.answer.result)
    (record { fits = (c.need-need.ensures.valid, c.requires); room = room; reserves = c.prepare.ensures.same; asks = c.in-Ok.ensures.asks })
    c.in_ok-reply.ensures c.self-2.view_is c.answer.ensures)
