use Rattle.std.proofs.Common.{subst, Ok, Err}
use Rattle.std.proofs.lemmas.Result.{err_from_is_err_and}
use Rattle.mt_world.specs.Turns.{Turned}
use Rattle.mt_world.proofs.FinishLaws.{went_none, went_more, went_ends, can_go_on, fewer_left}
use Rattle.mt_world.proofs.world.World.end_call.Goals as goal

pub returns-in_err-turn : goal.returns-in_err-turn
returns-in_err-turn g c =
    let p = err_from_is_err_and c.from_residual.result c.from_residual.ensures.1 in
    rw (p.1, p.2) (went_ends _ _ _ _ _ _ c.turn.new.actor (Err _) c.in_err-turn.ensures.turns.0 c.loop-answer.invariant.2 c.in_err-turn.ensures.turns.1)

pub loop-answer-smaller : goal.loop-answer-smaller
loop-answer-smaller g c =
    let t = subst (λ x. Turned c.loop-answer.self c.args.caller c.loop-answer.actor (Ok x) c.turn.new.self c.turn.new.actor) c.in-More.is c.in_ok-turn.ensures.turns in
    fewer_left c.loop-answer.self c.turn.new.self c.args.caller c.loop-answer.actor c.turn.new.actor t.0 t.1

pub loop-answer-preserved : goal.loop-answer-preserved
loop-answer-preserved g c =
    let t = subst (λ x. Turned c.loop-answer.self c.args.caller c.loop-answer.actor (Ok x) c.turn.new.self c.turn.new.actor) c.in-More.is c.in_ok-turn.ensures.turns in (
      can_go_on c.loop-answer.self c.turn.new.self c.args.caller c.loop-answer.actor c.turn.new.actor t.0 c.loop-answer.invariant.0 t.1,
      t.1.knows,
      went_more _ c.loop-answer.self c.turn.new.self _ _ c.loop-answer.actor c.turn.new.actor t.0 c.turn.ensures.world c.loop-answer.invariant.2 t.1,
    )

pub returns-in-Done : goal.returns-in-Done
returns-in-Done g c =
    let t = subst (λ x. Turned c.loop-answer.self c.args.caller c.loop-answer.actor (Ok x) c.turn.new.self c.turn.new.actor) c.in-Done.is c.in_ok-turn.ensures.turns in
    went_ends _ _ _ _ _ _ c.turn.new.actor (Ok c.in-Done.answer) t.0 c.loop-answer.invariant.2 t.1

pub loop-answer-init : goal.loop-answer-init
loop-answer-init g c = (c.requires.ready, c.requires.knows, went_none _ _ _)
