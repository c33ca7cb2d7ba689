use Rattle.std.proofs.Common.{◌≡◌, ◌++◌, length}
use Rattle.std.specs.Prelude.{IsUtf8}
use Rattle.std.specs.List.{slice_split}
use Rattle.mt_options.specs.Shows.{is_comma}
use Rattle.mt_options.proofs.shows.read_names.Given as goal

abbrev pub invariant-names : goal.invariant-names
invariant-names l = record { same : slice_split is_comma l.text ≡ l.names.items ++ slice_split is_comma l.rest; utf8 : IsUtf8 l.rest }

abbrev pub decreases-names : goal.decreases-names
decreases-names l = length l.rest
