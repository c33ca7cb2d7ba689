use Rattle.std.proofs.Common.{take}
use Rattle.json.specs.Print.{escape}
use Rattle.mt_json.specs.Draft.{Appends}
use Rattle.mt_json.proofs.quote.put_escaped.Given as goal

abbrev pub invariant-loop-byte : goal.invariant-loop-byte
invariant-loop-byte l = Appends l.initial.room (escape (take l.byte-index l.text)) l.room
