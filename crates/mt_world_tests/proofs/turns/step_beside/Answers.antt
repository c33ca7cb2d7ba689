use Rattle.std.proofs.Common.{Ok, subst}
use Rattle.mt_world.specs.Turns.{Turned}
use Rattle.mt_world.proofs.FinishLaws.{can_go_on}
use Rattle.mt_world_tests.proofs.Beside.{known_beside, client_on}
use Rattle.mt_world_tests.proofs.turns.step_beside.Goals as goal

pub returns-in-Ok-More-clause-ready : goal.returns-in-Ok-More-clause-ready
returns-in-Ok-More-clause-ready c =
    let t = subst (λ x. Turned c.args.world.now c.args.caller c.args.actor.now (Ok x) c.turn.new.self c.turn.new.actor) c.in-Ok-More.field-0-is c.in-Ok-More.ensures.turns in
    can_go_on c.args.world.now c.turn.new.self c.args.caller c.args.actor.now c.turn.new.actor t.0 c.requires.ready t.1

pub returns-in-Ok-More-clause-beside : goal.returns-in-Ok-More-clause-beside
returns-in-Ok-More-clause-beside c = known_beside c.args.world.now c.turn.new.self c.args.caller c.args.actor.now c.turn.new.actor c.args.other.now c.turn.result c.requires.client c.turn.ensures.turns c.requires.beside

pub returns-clause-beside : goal.returns-clause-beside
returns-clause-beside c = known_beside c.args.world.now c.turn.new.self c.args.caller c.args.actor.now c.turn.new.actor c.args.other.now c.turn.result c.requires.client c.turn.ensures.turns c.requires.beside

pub returns-in-Ok-More-clause-client : goal.returns-in-Ok-More-clause-client
returns-in-Ok-More-clause-client c = client_on c.args.world.now c.turn.new.self c.args.caller c.args.actor.now c.turn.new.actor c.turn.result c.requires.client c.turn.ensures.turns

pub returns-clause-client : goal.returns-clause-client
returns-clause-client c = client_on c.args.world.now c.turn.new.self c.args.caller c.args.actor.now c.turn.new.actor c.turn.result c.requires.client c.turn.ensures.turns
