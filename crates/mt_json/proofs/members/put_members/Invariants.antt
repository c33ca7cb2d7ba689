use Rattle.std.proofs.Common.{ℕ, false}
use Rattle.std.specs.Global.{Vec}
use Rattle.serde_json.specs.View.{members_view}
use Rattle.serde_json.specs.Written.{members_text}
use Rattle.mt_model.specs.Tag.{tag_text}
use Rattle.mt_json.specs.Tagged.{tagged, AreFlat}
use Rattle.mt_json.specs.Draft.{HasRoom, Appends}
use Rattle.mt_json.proofs.members.put_members.Given as goal

-- there is room for what is left, and with it the whole is written
abbrev pub invariant-loop-name : goal.invariant-loop-name
invariant-loop-name l =
    let left = members_text l.later (tagged (tag_text l.tag) (members_view l.name-iterator)) in
    AreFlat (members_view l.name-iterator) × HasRoom l.room left
    × ((end : Vec ℕ) → Appends l.room left end → Appends l.initial.room (members_text false (tagged (tag_text l.tag) (members_view l.members.entries))) end)
