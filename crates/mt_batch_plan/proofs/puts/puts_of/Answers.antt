use Rattle.std.proofs.Common.{◌∙◌, arith, get_or}
use Rattle.mt_batch_plan.specs.Bases.{marker_put}
use Rattle.mt_batch_plan.proofs.EffectLaws.{accepted_at}
use Rattle.mt_batch_plan.proofs.OrderLaws.{index_below, op_at, puts_more}
use Rattle.mt_batch_plan.proofs.puts.puts_of.Goals as goal

pub offset_bounds-ops-index : goal.offset_bounds-ops-index
offset_bounds-ops-index c =
    let below = index_below c.args.ops.now c.args.order.now c.loop-index.index-index 0 c.requires.order c.loop-index-test.true in
    omega (arith, below, c.requires.batch.few)

pub bounds-ops-index : goal.bounds-ops-index
bounds-ops-index c = index_below c.args.ops.now c.args.order.now c.loop-index.index-index 0 c.requires.order c.loop-index-test.true

pub put_on-requires : goal.put_on-requires
put_on-requires c =
    let below = index_below c.args.ops.now c.args.order.now c.loop-index.index-index 0 c.requires.order c.loop-index-test.true in
    accepted_at c.args.ops.now c.args.basis.now (get_or c.args.order.now c.loop-index.index-index 0) c.index-ops-index.result c.requires.accepted below c.index-ops-index.is

pub loop-index-preserved : goal.loop-index-preserved
loop-index-preserved c =
    let op = c.index-ops-index.result in
    let at = get_or c.args.order.now c.loop-index.index-index 0 in
    let below = index_below c.args.ops.now c.args.order.now c.loop-index.index-index 0 c.requires.order c.loop-index-test.true in
    c.in_ok-push-2.ensures.items
    ∙ puts_more c.args.ops.now c.args.order.now c.args.basis.now (marker_put c.args.basis.now) c.loop-index.index-index op _ c.loop-index.puts.items c.loop-index-test.true
    (op_at c.args.ops.now at op below c.index-ops-index.is) c.in_ok-put_on.ensures c.loop-index.invariant
