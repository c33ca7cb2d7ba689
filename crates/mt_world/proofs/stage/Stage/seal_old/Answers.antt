use Rattle.std.proofs.Common.{refl, sym, ap, Ok}
use Rattle.std.proofs.lemmas.Result.{err_from_is_err_and}
use Rattle.mt_history.specs.Weight.{need_of_move}
use Rattle.mt_migrate.specs.declared.state.State.TheVariants as at
use Rattle.mt_world.specs.declared.actor.Actor.TheVariants.{Migrator}
use Rattle.mt_world.specs.Sealing.{seal_ask, seal_left}
use Rattle.mt_world.specs.Turns.{Stage}
use Rattle.mt_world.proofs.StageLaws.{has_room_at, silent, answered_takes, unanswered_takes}
use Rattle.mt_world.proofs.SealLaws.{seal_answered}
use Rattle.mt_world.proofs.stage.Stage.seal_old.Goals as goal

pub returns-in_err-ask_store : goal.returns-in_err-ask_store
returns-in_err-ask_store g c =
    let p = err_from_is_err_and c.from_residual.result c.from_residual.ensures.1 in
    let room = has_room_at _ _ need_of_move need_of_move c.has_move_room.result c.if-not-has_move_room.false c.has_move_room.ensures (ap (λ (s : Stage). s.log.history) (sym c.self.view_is)) refl in
    rw (p.1, p.2, ← c.self.view_is)
    (unanswered_takes _ c.ask_store.new.self c.args.caller (Migrator at.SealOld) seal_ask c.reserve.new.self _
    (record { fits = tt; room = room; reserves = c.reserve.ensures.same; asks = refl })
    c.in_err-ask_store.ensures)

pub returns : goal.returns
returns g c =
    let room = has_room_at _ _ need_of_move need_of_move c.has_move_room.result c.if-not-has_move_room.false c.has_move_room.ensures (ap (λ (s : Stage). s.log.history) (sym c.self.view_is)) refl in
    rw (← c.self.view_is)
    (answered_takes _ c.ask_store.new.self c.ask_store.new.self c.args.caller (Migrator at.SealOld) (seal_left (Ok tt)) seal_ask c.in_ok-ask_store.field-0 c.reserve.new.self c.ask_store.new.self.log _
    (record { fits = tt; room = room; reserves = c.reserve.ensures.same; asks = refl })
    c.in_ok-ask_store.ensures refl (silent _ _ _ _ _ _ (seal_answered c.in_ok-ask_store.field-0 c.in_ok-ask_store.ensures.0.on.0.shows.1)))
