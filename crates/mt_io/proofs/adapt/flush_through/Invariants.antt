use Rattle.std.proofs.Common.{◌≤◌}
use Rattle.mt_io.proofs.adapt.flush_through.Given as goal

abbrev pub invariant-loop : goal.invariant-loop
invariant-loop g l = l.fn.faults ≤ l.faults
