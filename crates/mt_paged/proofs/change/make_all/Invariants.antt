use Rattle.std.proofs.Common.{◌≡◌, ◌≤◌, length, IsTrue}
use Rattle.std.specs.Vec.Iter.{into_iter_items, into_iter_len}
use Rattle.mt_chain.specs.Rows.{are_rising}
use Rattle.mt_mem.specs.Changes.{edits_of, edited}
use Rattle.mt_paged.specs.Pages.{rows_in}
use Rattle.mt_paged.proofs.change.make_all.Given as goal

abbrev pub invariant-loop-change : goal.invariant-loop-change
invariant-loop-change l = record {
  made : edited (edits_of l.pk (into_iter_items l.change-iterator)) (rows_in l.pages) ≡ edited (edits_of l.pk (into_iter_items l.initial.change-iterator)) (rows_in l.fn.pages);
  rising : IsTrue (are_rising (rows_in l.pages));
  spare : length (into_iter_items l.change-iterator) ≤ l.pages.spare;
  long : into_iter_len l.change-iterator ≡ length (into_iter_items l.change-iterator);
}
