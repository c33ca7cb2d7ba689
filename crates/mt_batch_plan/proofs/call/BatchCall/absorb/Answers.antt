use Rattle.std.proofs.Common.{rules, List, ap, sym, subst, ◌∙◌, ◌+◌, length}
use Rattle.mt_rules.specs.Batches.{IsBatch}
use Rattle.mt_chain.specs.declared.op.Op.{Op}
use Rattle.mt_batch_plan.specs.Plans.{IsOrder}
use Rattle.mt_batch_plan.proofs.CallLaws.{ready}
use Rattle.mt_batch_plan.proofs.call.BatchCall.absorb.Goals as goal
use Rattle.mt_batch_plan.proofs.call.BatchCall.absorb.Goals.{in_default-via-in-ReadOld+in_default, in_default-via-in-ReadNew+in_default, in_default-via-in-Write+in_default}

pub answer-tags-requires : goal.answer-tags-requires
answer-tags-requires c =
    let inside = c.self.inside in
    let can = ready inside.batch inside.place inside.plan.order.items inside.plan.tags.items c.args.self.now c.args.reply c.in-Write-Applied.given
    c.self.view_is c.in-Write-Applied.is-1 c.self.invariant.1 c.requires.fits in
    let ops_are = c.ops.ensures.value in
    record {
      batch = subst IsBatch (sym ops_are) c.ops.ensures.valid;
      order = subst (λ (l : List Op). IsOrder l c.deref.result.now) (sym ops_are) (subst (IsOrder inside.batch) (sym c.deref.ensures.value) can.order_is);
      given = ap length c.as_slice.ensures ∙ can.count ∙ ap (λ (l : List Op). length l + 1) (sym ops_are);
      tags = ap (λ v. length v.items) c.replace-tags.ensures.value ∙ can.told ∙ ap length (sym ops_are);
    }

pub returns-in_default-clause-moves : goal.returns-in_default-clause-moves
returns-in_default-clause-moves c = elim c.in_default.branch [
  | in_default-via-in-ReadOld+in_default w ↦ search rules
  | in_default-via-in-ReadNew+in_default w ↦ search rules
  | in_default-via-in-Write+in_default w ↦ search rules
]
