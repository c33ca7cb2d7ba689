use Rattle.std.proofs.Common.{◌≡◌, ◌++◌, List, drop}
use Rattle.mt_mem.specs.Entries.{Row}
use Rattle.mt_paged.specs.Walks.{walk}
use Rattle.mt_paged.proofs.answer.walk_page.Given as goal

abbrev pub invariant-loop-row : goal.invariant-loop-row
invariant-loop-row l = (rest : List Row) → walk l.pk l.range l.found.items (drop l.row-index l.rows ++ rest) ≡ walk l.pk l.range l.fn.found.items (l.rows ++ rest)
