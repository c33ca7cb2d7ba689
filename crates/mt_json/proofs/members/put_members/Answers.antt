use Rattle.std.proofs.Common.{◌≡◌, ◌∷◌, ◌++◌, true, string_bytes, sym, ap, subst, ◌∙◌}
use Rattle.serde_json.specs.View.{view, members_view}
use Rattle.serde_json.specs.Written.{members_text}
use Rattle.mt_model.specs.Tag.{tag_text}
use Rattle.mt_json.specs.Tagged.{tagged, AreFlat}
use Rattle.mt_json.specs.Draft.{HasRoom, Appends}
use Rattle.mt_json.proofs.MembersLaws.{member_text, member_then}
use Rattle.mt_json.proofs.RoomLaws.{appends_then, room_next}
use Rattle.mt_json.proofs.members.put_members.Goals as goal

pub loop-name-preserved : goal.loop-name-preserved
loop-name-preserved c =
    let l = c.loop-name in
    let t = tag_text c.args.tag in
    let k = string_bytes c.in-Some.name.now in
    let d = view c.in-Some.value.now in
    let after = c.put_member.new.room in
    let left = members_text true (tagged t (members_view c.next.new.self)) in
    let step : l.name-iterator ≡ (c.in-Some.name.now, c.in-Some.value.now) ∷ c.next.new.self = c.in-Some.ensures.steps in
    let text : members_text l.later (tagged t (members_view l.name-iterator)) ≡ member_text l.later t k d ++ left =
    ap (λ es. members_text l.later (tagged t (members_view es))) step ∙ member_then l.later t k d (members_view c.next.new.self) in
    let flat = subst (λ es. AreFlat (members_view es)) step l.invariant.0 in
    let wrote : Appends l.room (member_text l.later t k d) after = subst (λ k. Appends l.room (member_text l.later t k d) after) c.as_str.ensures.value c.put_member.ensures in (
      flat.1,
      room_next l.room after (member_text l.later t k d) left (subst (HasRoom l.room) text l.invariant.1) wrote,
      λ end more. l.invariant.2 end (subst (λ s. Appends l.room s end) (sym text) (appends_then wrote more)),
    )
