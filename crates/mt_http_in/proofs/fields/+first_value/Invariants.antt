use Rattle.std.proofs.Common.{length}
use Rattle.mt_http_in.proofs.fields.+first_value.Given as goal

abbrev pub decreases-first_value : goal.decreases-first_value
decreases-first_value l = length l.fields.now
