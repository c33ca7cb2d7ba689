use Rattle.std.proofs.Common.{◌≡◌, ◌∷◌, map, take}
use Rattle.mt_batch_plan.specs.Bases.{put_by, marker_put}
use Rattle.mt_batch_plan.specs.Plans.{picked}
use Rattle.mt_batch_plan.proofs.puts.puts_of.Given as goal

abbrev pub invariant-loop-index : goal.invariant-loop-index
invariant-loop-index l = l.puts.items ≡ marker_put l.basis ∷ map (put_by l.basis) (picked l.ops (take l.index-index l.order))
