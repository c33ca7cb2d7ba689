use Rattle.std.proofs.Common.{ℕ, drop}
use Rattle.std.specs.List.{flat_map}
use Rattle.std.specs.Global.{Vec}
use Rattle.mt_json.specs.Draft.{HasRoom, Appends}
use Rattle.mt_mime.specs.Replies.{part_bytes, replies_by}
use Rattle.mt_mime.proofs.replying.put_parts.Given as goal

-- there is room for what is left, and with it the whole is written
abbrev pub invariant-loop-at : goal.invariant-loop-at
invariant-loop-at l =
    let left = flat_map part_bytes (replies_by (drop l.at l.forms) (drop l.at l.tags)) in
    HasRoom l.room left × ((end : Vec ℕ) → Appends l.room left end → Appends l.initial.room (flat_map part_bytes (replies_by l.forms l.tags)) end)
