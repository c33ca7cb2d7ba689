use Rattle.std.proofs.Common.{◌≡◌, take, map}
use Rattle.mt_mem.proofs.answer.copies.Given as goal

abbrev pub invariant-loop-row : goal.invariant-loop-row
invariant-loop-row l = l.all.items ≡ map (λ r. r.1) (take l.row-index l.rows)
