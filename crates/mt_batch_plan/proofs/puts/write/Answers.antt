use Rattle.std.proofs.Common.{◌∷◌, List, map, ap, sym, subst, ◌∙◌}
use Rattle.mt_chain.specs.declared.op.Op.{Op}
use Rattle.mt_chain.specs.Puts.{CanApply}
use Rattle.mt_batch_plan.specs.Bases.{put_by, marker_put}
use Rattle.mt_batch_plan.specs.Plans.{picked}
use Rattle.mt_batch_plan.proofs.OrderLaws.{can_write}
use Rattle.mt_batch_plan.proofs.puts.write.Goals as goal

pub returns-clause-can : goal.returns-clause-can
returns-clause-can c =
    let made = c.of.ensures ∙ c.in_ok-puts.ensures ∙ ap (λ (ops : List Op). marker_put c.args.basis.now ∷ map (put_by c.args.basis.now) (picked ops c.args.order.now)) c.ops.ensures.value in
    subst CanApply (sym made) (can_write c.args.batch.now c.args.order.now c.args.basis.now c.ops.ensures.valid c.requires.order)
