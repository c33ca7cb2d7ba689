use Rattle.std.proofs.Common.{◌≡◌, filter, length}
use Rattle.mt_model.specs.Props.{is_visible}
use Rattle.mt_migrate.proofs.chunk.split_visible.Given as goal

abbrev pub invariant-loop-prop : goal.invariant-loop-prop
invariant-loop-prop l = filter is_visible l.props ≡ filter is_visible l.fn.props

abbrev pub decreases-loop-prop : goal.decreases-loop-prop
decreases-loop-prop l = length l.props
