use Rattle.std.proofs.Common.{◌≡◌, ◌++◌, length}
use Rattle.std.specs.Vec.Iter.{into_iter_items, into_iter_len}
use Rattle.mt_paged.specs.Pages.{joined}
use Rattle.mt_paged.proofs.pages.Pages.of.Given as goal

abbrev pub invariant-loop-row : goal.invariant-loop-row
invariant-loop-row l = record {
  all : joined l.pages.pages ++ into_iter_items l.row-iterator ≡ l.fn.rows.items;
  long : into_iter_len l.row-iterator ≡ length (into_iter_items l.row-iterator);
}
