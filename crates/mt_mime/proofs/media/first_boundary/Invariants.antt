use Rattle.std.proofs.Common.{◌≡◌, length}
use Rattle.mt_mime.specs.MediaTypes.{pieces_left, first_boundary}
use Rattle.mt_mime.proofs.media.first_boundary.Given as goal

abbrev pub invariant-params : goal.invariant-params
invariant-params l = first_boundary (pieces_left l.rest) ≡ first_boundary (pieces_left l.fn.params)

abbrev pub decreases-params : goal.decreases-params
decreases-params l = length (pieces_left l.rest)
