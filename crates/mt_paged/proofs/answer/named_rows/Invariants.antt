use Rattle.std.proofs.Common.{◌≡◌, take}
use Rattle.mt_chain.specs.Rows.{named_rows}
use Rattle.mt_paged.specs.Pages.{rows_in}
use Rattle.mt_paged.proofs.answer.named_rows.Given as goal

abbrev pub invariant-loop-rk : goal.invariant-loop-rk
invariant-loop-rk l = l.found.items ≡ named_rows (rows_in l.pages) l.pk (take l.rk-index l.names)
