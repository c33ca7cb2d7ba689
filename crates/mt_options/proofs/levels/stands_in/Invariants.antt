use Rattle.std.proofs.Common.{◌≡◌, length}
use Rattle.mt_options.specs.Levels.{stands_in}
use Rattle.mt_options.proofs.levels.stands_in.Given as goal

abbrev pub invariant-places : goal.invariant-places
invariant-places l = stands_in l.word l.rest ≡ stands_in l.word l.value

abbrev pub decreases-places : goal.decreases-places
decreases-places l = length l.rest
