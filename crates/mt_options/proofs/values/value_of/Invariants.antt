use Rattle.std.proofs.Common.{◌≡◌, drop}
use Rattle.mt_options.specs.Values.{value_of}
use Rattle.mt_options.proofs.values.value_of.Given as goal

abbrev pub invariant-loop-option : goal.invariant-loop-option
invariant-loop-option l = value_of l.name (drop l.option-index l.options) ≡ value_of l.name l.options
