use Rattle.std.proofs.Common.{◌<◌, ◌≤◌, ◌+◌, ◌∙◌, refl, ap, sym, arith, length, get_or, drop}
use Rattle.mt_batch_plan.proofs.OrderLaws.{index_below, op_at, order_length}
use Rattle.mt_batch_plan.proofs.FillLaws.{fill_keeps, fill_ends, length_filled, answers}
use Rattle.mt_batch_plan.specs.Plans.{is_delete}
use Rattle.mt_chain.specs.Effect.{any_tag}
use Rattle.mt_batch_plan.proofs.plan.answer.Goals as goal

pub offset_bounds-ops-index : goal.offset_bounds-ops-index
offset_bounds-ops-index c =
    let below = index_below c.args.ops.now c.args.order.now c.loop-at.at 0 c.requires.order c.loop-at-test.true in
    omega (arith, below, c.requires.batch.few)

pub bounds-ops-index : goal.bounds-ops-index
bounds-ops-index c = index_below c.args.ops.now c.args.order.now c.loop-at.at 0 c.requires.order c.loop-at-test.true

pub bounds-given-at : goal.bounds-given-at
bounds-given-at c = omega (arith, order_length c.args.ops.now c.args.order.now c.requires.order, c.loop-at-test.true, c.requires.given)

pub fill-requires : goal.fill-requires
fill-requires c =
    let below = index_below c.args.ops.now c.args.order.now c.loop-at.at 0 c.requires.order c.loop-at-test.true in
    omega (arith, below, c.loop-at.invariant.length, c.loop-at.tags.ok)

pub loop-at-preserved : goal.loop-at-preserved
loop-at-preserved c =
    let ops = c.args.ops.now in
    let order = c.args.order.now in
    let given = c.args.given.now in
    let at = c.loop-at.at in
    let i = get_or order at 0 in
    let op = c.index-ops-index.result in
    let tag = get_or given (at + 1) any_tag in
    let below = index_below ops order at 0 c.requires.order c.loop-at-test.true in
    let within : at + 1 < length given = omega (arith, order_length ops order c.requires.order, c.loop-at-test.true, c.requires.given) in
    record {
      length = ap length c.fill.ensures ∙ length_filled (is_delete op) i tag c.loop-at.tags.items ∙ c.loop-at.invariant.length;
      tells =
          fill_keeps ops order given c.loop-at.tags.items c.fill.new.tags.items at i tag op _ c.loop-at-test.true refl within refl
          (op_at ops i op below c.index-ops-index.is) c.fill.ensures c.loop-at.invariant.tells;
    }

pub returns : goal.returns
returns c = λ table none plan.
    let ops = c.args.ops.now in
    let order = c.args.order.now in
    let given = c.args.given.now in
    let done : length order ≤ c.loop-at.at = omega (arith, c.loop-at-test.false) in
    answers ops table order given c.args.tags.items c.of.result c.requires.given none plan
    (c.of.ensures ∙ sym (fill_ends ops order (drop (c.loop-at.at + 1) given) c.loop-at.tags.items c.loop-at.at done) ∙ c.loop-at.invariant.tells)
