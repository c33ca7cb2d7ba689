use Rattle.std.proofs.Common.{◌≡◌, ◌^◌, ◌-◌, min, take}
use Rattle.mt_chain.specs.Batch.{batch_size}
use Rattle.mt_rules.proofs.batch.total_size.Given as goal

abbrev pub invariant-loop-op : goal.invariant-loop-op
invariant-loop-op l = l.total ≡ min (2 ^ 64 - 1) (batch_size (take l.op-index l.ops))
