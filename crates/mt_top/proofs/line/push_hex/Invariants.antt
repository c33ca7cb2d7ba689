use Rattle.std.proofs.Common.{◌≡◌, ◌++◌, take}
use Rattle.mt_top.specs.Lines.{hex_of}
use Rattle.mt_top.proofs.line.push_hex.Given as goal

abbrev pub invariant-loop-byte : goal.invariant-loop-byte
invariant-loop-byte l = l.line.items ≡ l.fn.line.items ++ hex_of (take l.byte-index l.bytes)
