use Rattle.mt_batch_plan.proofs.CallLaws.{asks_write}
use Rattle.mt_batch_plan.proofs.call.BatchCall.next.Goals as goal

pub returns-in-Write-clause-asks : goal.returns-in-Write-clause-asks
returns-in-Write-clause-asks c =
    let inside = c.self.inside in
    asks_write c.write.result inside.batch inside.place c.in-Write.basis inside.plan.order.items c.deref.result.now inside.plan.tags.items c.args.self.now
    c.self.view_is c.in-Write.is c.deref.ensures.value c.self.invariant.1 c.write.ensures.asks
