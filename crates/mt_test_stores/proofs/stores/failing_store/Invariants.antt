use Rattle.std.proofs.Common.{◌≡◌}
use Rattle.mt_test_stores.proofs.stores.failing_store.Given as goal

abbrev pub invariant-loop-past : goal.invariant-loop-past
invariant-loop-past l = (l.keeper.store ≡ l.fn.number) × (l.keeper.faults ≡ 0)
