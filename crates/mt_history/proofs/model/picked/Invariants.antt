use Rattle.std.proofs.Common.{◌≡◌, ◌++◌, drop}
use Rattle.mt_history.specs.Replies.{in_range, picked}
use Rattle.mt_history.proofs.model.picked.Given as goal

abbrev pub invariant-loop-row : goal.invariant-loop-row
invariant-loop-row l =
    l.found.items ++ picked (in_range l.pk l.from l.upto) l.filter (drop l.row-index l.rows) ≡ picked (in_range l.pk l.from l.upto) l.filter l.rows
