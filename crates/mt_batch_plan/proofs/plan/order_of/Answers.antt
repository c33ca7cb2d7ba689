use Rattle.std.proofs.Common.{ℕ, List, subst}
use Rattle.std.specs.List.Sorted.{IsPermutation}
use Rattle.mt_batch_plan.proofs.OrderLaws.{is_order}
use Rattle.mt_batch_plan.proofs.plan.order_of.Goals as goal

pub returns : goal.returns
returns c =
    is_order c.args.ops.now c.sort.new.order.items c.requires
    (subst (λ (l : List ℕ). IsPermutation l c.sort.new.order.items) c.in_ok-order.ensures c.sort.ensures.permutation)
    c.sort.ensures.sorted
