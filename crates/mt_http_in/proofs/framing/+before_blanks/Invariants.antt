use Rattle.std.proofs.Common.{length}
use Rattle.mt_http_in.proofs.framing.+before_blanks.Given as goal

abbrev pub decreases-before_blanks : goal.decreases-before_blanks
decreases-before_blanks l = length l.bytes.now
