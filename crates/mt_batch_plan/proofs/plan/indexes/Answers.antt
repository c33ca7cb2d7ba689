use Rattle.mt_batch_plan.proofs.OrderLaws.{indexes_more}
use Rattle.mt_batch_plan.proofs.plan.indexes.Goals as goal

pub loop-index-preserved : goal.loop-index-preserved
loop-index-preserved c = indexes_more c.loop-index.index c.loop-index.indexes.items c.push.new.self.items c.loop-index.invariant c.in_ok-push.ensures.items
