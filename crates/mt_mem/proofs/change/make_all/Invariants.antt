use Rattle.std.proofs.Common.{◌≡◌, ◌++◌, ◌≤◌, true, length, IsTrue}
use Rattle.std.specs.List.{AllByRecursion}
use Rattle.std.specs.Vec.Iter.{into_iter_items, into_iter_len}
use Rattle.std.specs.FinMap.Entries.{is_sorted}
use Rattle.mt_model.specs.Key.{key_cmp}
use Rattle.mt_chain.specs.Rows.{are_rising}
use Rattle.mt_mem.specs.Entries.{entries}
use Rattle.mt_mem.specs.Changes.{edits_of, edited}
use Rattle.mt_mem.proofs.change.make_all.Given as goal

abbrev pub invariant-loop-change : goal.invariant-loop-change
invariant-loop-change l = record {
  made : entries l.pass.written ++ edited (edits_of l.pk (into_iter_items l.change-iterator)) (entries l.pass.left) ≡ edited (edits_of l.pk (into_iter_items l.initial.change-iterator)) (entries l.fn.pass.left);
  rising : IsTrue (are_rising (entries l.pass.left));
  sorted : is_sorted key_cmp (edits_of l.pk (into_iter_items l.change-iterator)) ≡ true;
  own : AllByRecursion (λ e. e.0.pk ≡ l.pk) (edits_of l.pk (into_iter_items l.change-iterator));
  room : length (into_iter_items l.change-iterator) ≤ l.pass.spare;
  long : into_iter_len l.change-iterator ≡ length (into_iter_items l.change-iterator);
}
