use Rattle.std.specs.Prelude.{◌≡◌, drop}
use Rattle.std.specs.List.{list_all}
use Rattle.mt_scan.specs.Chunks.{is_readable}
use Rattle.mt_scan.proofs.keys.are_readable.Given as goal

abbrev pub invariant-loop-row : goal.invariant-loop-row
invariant-loop-row l = list_all is_readable (drop l.row-index l.rows) ≡ list_all is_readable l.rows
