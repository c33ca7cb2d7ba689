use Rattle.std.proofs.Common.{◌≡◌, ◌^◌, ◌-◌, min, take, sum_by}
use Rattle.mt_chain.specs.Merges.{size_beside}
use Rattle.mt_chain.proofs.cause.total_beside.Given as goal

abbrev pub invariant-loop-prop : goal.invariant-loop-prop
invariant-loop-prop l = l.total ≡ min (2 ^ 64 - 1) (sum_by (size_beside l.over) (take l.prop-index l.own))
