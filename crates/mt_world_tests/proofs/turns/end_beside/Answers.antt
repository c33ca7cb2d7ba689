use Rattle.std.proofs.Common.{Ok, subst}
use Rattle.mt_world.specs.Turns.{Turned}
use Rattle.mt_world.proofs.FinishLaws.{can_go_on}
use Rattle.mt_world_tests.proofs.Beside.{known_beside, client_on}
use Rattle.mt_world_tests.proofs.turns.end_beside.Goals as goal

pub returns-in_err-text-in-Ok-Done-clause-beside : goal.returns-in_err-text-in-Ok-Done-clause-beside
returns-in_err-text-in-Ok-Done-clause-beside c = known_beside c.loop-turns.world c.turn.new.self c.args.caller c.loop-turns.actor c.turn.new.actor c.args.other.now c.turn.result c.loop-turns.invariant.3 c.turn.ensures.turns c.loop-turns.invariant.2

pub returns-in_err-format-in-Ok-Done-clause-beside : goal.returns-in_err-format-in-Ok-Done-clause-beside
returns-in_err-format-in-Ok-Done-clause-beside c = known_beside c.loop-turns.world c.turn.new.self c.args.caller c.loop-turns.actor c.turn.new.actor c.args.other.now c.turn.result c.loop-turns.invariant.3 c.turn.ensures.turns c.loop-turns.invariant.2

pub returns-in-Ok-Done-clause-beside : goal.returns-in-Ok-Done-clause-beside
returns-in-Ok-Done-clause-beside c = known_beside c.loop-turns.world c.turn.new.self c.args.caller c.loop-turns.actor c.turn.new.actor c.args.other.now c.turn.result c.loop-turns.invariant.3 c.turn.ensures.turns c.loop-turns.invariant.2

pub returns-in-Err-clause-beside : goal.returns-in-Err-clause-beside
returns-in-Err-clause-beside c = known_beside c.loop-turns.world c.turn.new.self c.args.caller c.loop-turns.actor c.turn.new.actor c.args.other.now c.turn.result c.loop-turns.invariant.3 c.turn.ensures.turns c.loop-turns.invariant.2

pub loop-turns-preserved : goal.loop-turns-preserved
loop-turns-preserved c =
    let t = subst (λ x. Turned c.loop-turns.world c.args.caller c.loop-turns.actor (Ok x) c.turn.new.self c.turn.new.actor) c.in-Ok-More.field-0-is c.in-Ok-More.ensures.turns in (
      can_go_on c.loop-turns.world c.turn.new.self c.args.caller c.loop-turns.actor c.turn.new.actor t.0 c.loop-turns.invariant.0 t.1,
      t.1.knows,
      known_beside c.loop-turns.world c.turn.new.self c.args.caller c.loop-turns.actor c.turn.new.actor c.args.other.now c.turn.result c.loop-turns.invariant.3 c.turn.ensures.turns c.loop-turns.invariant.2,
      client_on c.loop-turns.world c.turn.new.self c.args.caller c.loop-turns.actor c.turn.new.actor c.turn.result c.loop-turns.invariant.3 c.turn.ensures.turns,
    )
