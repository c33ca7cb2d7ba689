use Rattle.std.proofs.Common.{◌≡◌, ◌∷◌, map, take}
use Rattle.mt_chain.specs.Effect.{op_key}
use Rattle.mt_meta.specs.Markers.{marker_key}
use Rattle.mt_batch_plan.proofs.names.copy_names.Given as goal

abbrev pub invariant-loop-op : goal.invariant-loop-op
invariant-loop-op l = l.names.items ≡ marker_key ∷ map (λ op. (op_key op).rk) (take l.op-index l.ops)
