use Rattle.std.proofs.Common.{◌≡◌}
use Rattle.mt_turn.proofs.turnstile.Turnstile.take.Given as goal

abbrev pub invariant-loop : goal.invariant-loop
invariant-loop g l = (l.pass.seat.table_id ≡ l.initial.pass.seat.table_id) × (l.pass.seat.me ≡ l.initial.pass.seat.me) × (l.pass.caller ≡ l.initial.pass.caller) × (l.pass.count ≡ l.initial.pass.count)
