use Rattle.std.proofs.Common.{length}
use Rattle.mt_http_in.proofs.framing.+values_named.Given as goal

abbrev pub decreases-values_named : goal.decreases-values_named
decreases-values_named l = length l.fields.now
