use Rattle.mt_world.proofs.SealLaws.{seal_at}
use Rattle.mt_world.proofs.world.World.seal_old.Goals as goal

pub invariant_of-self : goal.invariant_of-self
invariant_of-self g c =
    (seal_at _ c.self.inside.stage c.seal_old.new.self c.self.inside.base c.self.inside.generation c.self.inside.retired _ c.args.caller c.seal_old.result
    c.self.view_is c.self.invariant c.seal_old.ensures).0

pub returns : goal.returns
returns g c =
    (seal_at _ c.self.inside.stage c.seal_old.new.self c.self.inside.base c.self.inside.generation c.self.inside.retired _ c.args.caller c.seal_old.result
    c.self.view_is c.self.invariant c.seal_old.ensures).1
