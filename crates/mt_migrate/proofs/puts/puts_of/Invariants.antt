use Rattle.std.proofs.Common.{◌≡◌, ◌+◌, ◌∷◌, List, length}
use Rattle.mt_chain.specs.declared.row.Put.{Put}
use Rattle.mt_migrate.proofs.Merging.{Merged}
use Rattle.mt_migrate.proofs.puts.puts_of.Given as goal

abbrev pub invariant-loop-rk : goal.invariant-loop-rk
invariant-loop-rk l = (puts : List Put) × (l.puts.items ≡ l.fn.first ∷ puts) × Merged l.upto l.rows l.entries puts l.old l.new

abbrev pub decreases-loop-rk : goal.decreases-loop-rk
decreases-loop-rk l = length l.old + length l.new
