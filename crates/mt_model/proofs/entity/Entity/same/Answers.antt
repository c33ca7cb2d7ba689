use Rattle.mt_model.proofs.Same.{entity_decides}
use Rattle.mt_model.proofs.entity.Entity.same.Goals as goal

pub returns : goal.returns
returns c = rw c.eq.ensures (entity_decides c.args.self.now c.args.other.now)
