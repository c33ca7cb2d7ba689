use Rattle.std.proofs.Common.{◌+◌, length, option_copied}
use Rattle.mt_scan.proofs.ChunkLaws.{Finding}
use Rattle.mt_scan.proofs.chunk.first_rows.Given as goal

abbrev pub invariant-loop-rk : goal.invariant-loop-rk
invariant-loop-rk l = Finding l.pk l.filter l.phase l.rows l.entries l.room (option_copied l.end) l.found.items l.old l.new

abbrev pub decreases-loop-rk : goal.decreases-loop-rk
decreases-loop-rk l = length l.old + length l.new
