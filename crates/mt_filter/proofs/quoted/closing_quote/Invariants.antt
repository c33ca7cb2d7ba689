use Rattle.std.proofs.Common.{◌≡◌, ◌-◌, length, drop}
use Rattle.mt_filter.proofs.Closing.{closing}
use Rattle.mt_filter.proofs.quoted.closing_quote.Given as goal

abbrev pub invariant-loop-at : goal.invariant-loop-at
invariant-loop-at l = closing l.at (drop l.at l.bytes) ≡ closing 0 l.bytes

abbrev pub decreases-loop-at : goal.decreases-loop-at
decreases-loop-at l = length l.bytes - l.at
