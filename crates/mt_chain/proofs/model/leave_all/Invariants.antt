use Rattle.std.proofs.Common.{◌≤◌, length}
use Rattle.mt_chain.specs.Table.{IsSameTable, table_of}
use Rattle.mt_chain.specs.Model.{with_rows_left}
use Rattle.mt_chain.proofs.model.leave_all.Given as goal

abbrev pub invariant-loop-row : goal.invariant-loop-row
invariant-loop-row l = record {
  short : length l.left.items ≤ length l.ops;
  rows : IsSameTable (with_rows_left l.ops l.left.items (table_of l.rows)) (with_rows_left l.ops l.fn.left.items (table_of l.fn.rows));
}

abbrev pub decreases-loop-row : goal.decreases-loop-row
decreases-loop-row l = length l.left.items
