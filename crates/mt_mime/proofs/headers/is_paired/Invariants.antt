use Rattle.std.proofs.Common.{◌≡◌, drop}
use Rattle.mt_mime.specs.Headers.{is_paired}
use Rattle.mt_mime.proofs.headers.is_paired.Given as goal

abbrev pub invariant-loop-byte : goal.invariant-loop-byte
invariant-loop-byte l = is_paired l.last (drop l.byte-index l.bytes) ≡ is_paired 0 l.bytes
