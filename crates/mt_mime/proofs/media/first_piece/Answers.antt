use Rattle.std.proofs.Common.{false}
use Rattle.mt_mime.proofs.MediaLaws.{pieces_some}
use Rattle.mt_mime.proofs.media.first_piece.Goals as goal

pub loop-at-init : goal.loop-at-init
loop-at-init c = pieces_some false c.args.value.now
