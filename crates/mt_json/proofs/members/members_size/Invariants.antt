use Rattle.std.proofs.Common.{◌≡◌, ◌+◌, ◌-◌, ◌^◌, [], length, false}
use Rattle.std.specs.Prelude.{min}
use Rattle.serde_json.specs.View.{members_view}
use Rattle.serde_json.specs.Written.{members_text}
use Rattle.mt_json.specs.Tagged.{tagged, AreFlat}
use Rattle.mt_json.proofs.members.members_size.Given as goal

-- the bytes so far and those of what is left are those of the whole
abbrev pub invariant-loop-name : goal.invariant-loop-name
invariant-loop-name l =
    AreFlat (members_view l.name-iterator)
    × (min (2 ^ 64 - 1) (l.size + length (members_text l.later (tagged [] (members_view l.name-iterator))))
    ≡ min (2 ^ 64 - 1) (length (members_text false (tagged [] (members_view l.members.entries)))))
