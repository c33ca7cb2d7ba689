use Rattle.std.proofs.Common.{◌≡◌, take}
use Rattle.std.specs.Prelude.{filter}
use Rattle.mt_model.specs.Props.{is_visible}
use Rattle.mt_model.proofs.merge.copy_visible.Given as goal

abbrev pub invariant-loop-prop : goal.invariant-loop-prop
invariant-loop-prop l = l.copies.items ≡ filter is_visible (take l.prop-index l.props)
