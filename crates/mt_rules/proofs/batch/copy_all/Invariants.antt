use Rattle.std.proofs.Common.{◌≡◌, take}
use Rattle.mt_rules.proofs.batch.copy_all.Given as goal

abbrev pub invariant-loop-op : goal.invariant-loop-op
invariant-loop-op l = l.copies.items ≡ take l.op-index l.ops
