use Rattle.std.proofs.Common.{◌≡◌, ◌++◌, take}
use Rattle.mt_clean.specs.Cleanings.{deletes_of}
use Rattle.mt_clean.proofs.asks.push_deletes.Given as goal

abbrev pub invariant-loop-row : goal.invariant-loop-row
invariant-loop-row l = l.puts.items ≡ l.fn.puts.items ++ deletes_of (take l.row-index l.rows)
