use Rattle.mt_world.proofs.TurnLaws.{turn_at}
use Rattle.mt_world.proofs.world.World.turn.Goals as goal

pub invariant_of-self : goal.invariant_of-self
invariant_of-self g c =
    (turn_at _ c.self.inside.stage c.turn-came.new.self c.self.inside.base c.self.inside.generation c.self.inside.retired c.retired_after-self-inside.result _ _ _ _ _
    c.self.view_is c.self.invariant c.requires.knows c.turn-came.ensures c.retired_after-self-inside.ensures).0

pub returns-clause-turns : goal.returns-clause-turns
returns-clause-turns g c =
    (turn_at _ c.self.inside.stage c.turn-came.new.self c.self.inside.base c.self.inside.generation c.self.inside.retired c.retired_after-self-inside.result _ _ _ _ _
    c.self.view_is c.self.invariant c.requires.knows c.turn-came.ensures c.retired_after-self-inside.ensures).1
