use Rattle.std.proofs.Common.{◌≡◌, ◌++◌, length}
use Rattle.std.specs.Vec.Iter.{into_iter_items, into_iter_len}
use Rattle.mt_open.specs.Reading.{keyed}
use Rattle.mt_open.proofs.reading.push_rows.Given as goal

abbrev pub invariant-loop-row : goal.invariant-loop-row
invariant-loop-row l = record {
  pushed : l.rows.items ++ keyed l.pk (into_iter_items l.row-iterator) ≡ l.fn.rows.items ++ keyed l.pk (into_iter_items l.initial.row-iterator);
  long : into_iter_len l.row-iterator ≡ length (into_iter_items l.row-iterator);
}
