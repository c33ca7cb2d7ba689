use Rattle.std.proofs.Common.{◌≡◌, false}
use Rattle.mt_turn.specs.Passes.{known, IsOf}
use Rattle.mt_turn.proofs.tests.write_many.Given as goal

abbrev pub invariant-loop-number : goal.invariant-loop-number
invariant-loop-number g l = IsOf l.pass l.shared × ((known l.pass).turn ≡ false)
