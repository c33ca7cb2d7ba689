use Rattle.std.proofs.Common.{◌≡◌, length}
use Rattle.mt_http_in.specs.Fields.{has_word}
use Rattle.mt_http_in.proofs.framing.has_listed.Given as goal

abbrev pub invariant-words : goal.invariant-words
invariant-words l = has_word l.word l.value ≡ has_word l.word l.rest

abbrev pub decreases-words : goal.decreases-words
decreases-words l = length l.rest
