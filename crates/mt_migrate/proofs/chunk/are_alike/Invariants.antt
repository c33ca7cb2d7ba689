use Rattle.std.proofs.Common.{◌≡◌, filter, length}
use Rattle.mt_model.specs.Props.{is_visible}
use Rattle.mt_migrate.specs.Chunks.{are_alike}
use Rattle.mt_migrate.proofs.chunk.are_alike.Given as goal

abbrev pub invariant-loop-prop : goal.invariant-loop-prop
invariant-loop-prop l = are_alike l.a l.b ≡ are_alike l.fn.a l.fn.b

abbrev pub decreases-loop-prop : goal.decreases-loop-prop
decreases-loop-prop l = length (filter is_visible l.a)
