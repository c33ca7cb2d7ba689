use Rattle.std.proofs.Common.{◌≡◌, ◌-◌, ◌^◌, take, length}
use Rattle.std.specs.Prelude.{min}
use Rattle.json.specs.Print.{escape}
use Rattle.mt_json.proofs.quote.escaped_size.Given as goal

abbrev pub invariant-loop-byte : goal.invariant-loop-byte
invariant-loop-byte l = l.size ≡ min (2 ^ 64 - 1) (length (escape (take l.byte-index l.text)))
