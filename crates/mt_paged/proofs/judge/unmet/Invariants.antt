use Rattle.std.proofs.Common.{◌≡◌, drop}
use Rattle.mt_chain.specs.Puts.{unmet_from}
use Rattle.mt_paged.specs.Pages.{rows_in}
use Rattle.mt_paged.proofs.judge.unmet.Given as goal

abbrev pub invariant-loop-index : goal.invariant-loop-index
invariant-loop-index l = unmet_from 0 (rows_in l.pages) l.pk l.puts ≡ unmet_from l.index (rows_in l.pages) l.pk (drop l.index l.puts)
