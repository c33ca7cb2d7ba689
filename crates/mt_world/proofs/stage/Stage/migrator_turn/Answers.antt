use Rattle.std.proofs.Common.{refl, sym, ap}
use Rattle.std.proofs.lemmas.Result.{err_from_is_err_and}
use Rattle.mt_history.specs.Weight.{need_of_move}
use Rattle.mt_world.specs.declared.actor.Actor.TheVariants.{Migrator}
use Rattle.mt_world.specs.Turns.{Stage}
use Rattle.mt_world.proofs.StageLaws.{has_room_at, silent, answered_takes, unanswered_takes}
use Rattle.mt_world.proofs.stage.Stage.migrator_turn.Goals as goal

pub returns-in_err-reply : goal.returns-in_err-reply
returns-in_err-reply g c =
    let p = err_from_is_err_and c.from_residual.result c.from_residual.ensures.1 in
    let room = has_room_at _ _ need_of_move need_of_move c.has_move_room.result c.if-not-has_move_room.false c.has_move_room.ensures (ap (λ (s : Stage). s.log.history) (sym c.self.view_is)) refl in
    rw (p.1, p.2, ← c.self.view_is)
    (unanswered_takes _ c.ask_store.new.self c.args.caller (Migrator c.args.migrator.now) c.in-Ok.ask c.prepare.new.log _
    (record { fits = c.is_done.ensures.valid; room = room; reserves = c.prepare.ensures.same; asks = c.in-Ok.ensures.asks })
    c.in_err-reply.ensures)

pub returns : goal.returns
returns g c =
    let room = has_room_at _ _ need_of_move need_of_move c.has_move_room.result c.if-not-has_move_room.false c.has_move_room.ensures (ap (λ (s : Stage). s.log.history) (sym c.self.view_is)) refl in
    rw (← c.self.view_is)
    (answered_takes _ c.ask_store.new.self c.ask_store.new.self c.args.caller (Migrator c.args.migrator.now) (Migrator c.answer.new.migrator) c.in-Ok.ask c.in_ok-reply.reply c.prepare.new.log c.ask_store.new.self.log c.answer.result
    (record { fits = c.is_done.ensures.valid; room = room; reserves = c.prepare.ensures.same; asks = c.in-Ok.ensures.asks })
    c.in_ok-reply.ensures refl (silent _ _ _ _ _ _ c.answer.ensures))
