use Rattle.std.proofs.Common.{◌≡◌, false, take, drop}
use Rattle.mt_mime.specs.MediaTypes.{pieces, before_all}
use Rattle.mt_mime.proofs.media.first_piece.Given as goal

abbrev pub invariant-loop-at : goal.invariant-loop-at
invariant-loop-at l = pieces false l.value ≡ before_all (take l.at l.value) (pieces l.quoted (drop l.at l.value))
