use Rattle.std.proofs.Common.{length}
use Rattle.mt_words.specs.Readings.{texts_of, given_of, IsReadTo}
use Rattle.mt_words.proofs.settings.read_settings.Given as goal

abbrev pub invariant-options : goal.invariant-options
invariant-options l = IsReadTo (texts_of l.words) (given_of l.so_far) (texts_of l.left)

abbrev pub decreases-options : goal.decreases-options
decreases-options l = length l.left
