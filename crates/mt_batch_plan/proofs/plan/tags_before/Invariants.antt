use Rattle.std.proofs.Common.{◌≡◌, map, take}
use Rattle.mt_chain.specs.Effect.{op_key, told_tag, any_tag}
use Rattle.mt_batch_plan.specs.Bases.{table_on}
use Rattle.mt_batch_plan.proofs.plan.tags_before.Given as goal

abbrev pub invariant-loop-op : goal.invariant-loop-op
invariant-loop-op l = l.tags.items ≡ map (λ op. told_tag op (table_on l.basis (op_key op)) any_tag) (take l.op-index l.ops)
