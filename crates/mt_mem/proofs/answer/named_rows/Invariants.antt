use Rattle.std.proofs.Common.{◌≡◌, take}
use Rattle.mt_chain.specs.Rows.{named_rows}
use Rattle.mt_mem.specs.Entries.{entries}
use Rattle.mt_mem.proofs.answer.named_rows.Given as goal

abbrev pub invariant-loop-rk : goal.invariant-loop-rk
invariant-loop-rk l = l.found.items ≡ named_rows (entries l.rows) l.pk (take l.rk-index l.names)
