use Rattle.std.proofs.Common.{◌≡◌, drop}
use Rattle.mt_chain.specs.Puts.{unmet_from}
use Rattle.mt_mem.specs.Entries.{entries}
use Rattle.mt_mem.proofs.judge.unmet.Given as goal

abbrev pub invariant-loop-index : goal.invariant-loop-index
invariant-loop-index l = unmet_from 0 (entries l.rows) l.pk l.puts ≡ unmet_from l.index (entries l.rows) l.pk (drop l.index l.puts)
