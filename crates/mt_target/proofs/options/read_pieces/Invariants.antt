use Rattle.std.proofs.Common.{◌≡◌, ◌++◌, length}
use Rattle.std.specs.Prelude.{map}
use Rattle.std.specs.List.{AllByRecursion, slice_split}
use Rattle.mt_target.specs.Options.{is_ampersand, option_in, IsText}
use Rattle.mt_target.proofs.options.read_pieces.Given as goal

abbrev pub invariant-pieces : goal.invariant-pieces
invariant-pieces l = record {
  same : map option_in (slice_split is_ampersand l.text) ≡ l.options.items ++ map option_in (slice_split is_ampersand l.rest);
  texts : AllByRecursion IsText l.options.items;
}

abbrev pub decreases-pieces : goal.decreases-pieces
decreases-pieces l = length l.rest
