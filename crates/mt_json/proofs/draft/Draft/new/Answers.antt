use Rattle.std.proofs.Common.{arith, rules, option_map, subst, sym, ap, ◌∙◌}
use Rattle.serde_json.specs.Data.{object}
use Rattle.serde_json.specs.View.{members_view}
use Rattle.serde_json.specs.Written.{compact_text}
use Rattle.mt_model.specs.Tag.{tag_text}
use Rattle.mt_json.specs.Written.{IsShown, AreNamed, put_etag}
use Rattle.mt_json.specs.Tagged.{AreFlat, tagged}
use Rattle.mt_json.proofs.WrittenLaws.{leaves-shown, object-shown}
use Rattle.mt_json.proofs.MembersLaws.{flat_placed, tagged_placed, draft_of}
use Rattle.mt_json.proofs.draft.Draft.new.Goals as goal

pub members_size-requires : goal.members_size-requires
members_size-requires c =
    let ms = members_view c.in_ok-shown.shown.entries in
    let leaves = leaves-shown c.args.key.now c.as_slice.result.now c.args.level (option_map (λ v. v.now.items) c.args.chosen) ms c.in_ok-shown.ensures.shown in
    subst AreFlat (sym c.in_ok-members.ensures) (flat_placed c.args.level ms leaves)

pub invariant_of-result : goal.invariant_of-result
invariant_of-result c =
    let ms = members_view c.in_ok-shown.shown.entries in
    let leaves = leaves-shown c.args.key.now c.as_slice.result.now c.args.level (option_map (λ v. v.now.items) c.args.chosen) ms c.in_ok-shown.ensures.shown in
    record {
      valid = draft_of c.args.level ms (members_view c.in_ok-members.members.entries) c.saturating_add-size.result leaves c.in_ok-members.ensures
          (search rules) (omega (arith, c.if-size.false));
    }

pub returns-clause-named : goal.returns-clause-named
returns-clause-named c = subst AreNamed c.as_slice.ensures.value c.in_ok-shown.ensures.named

pub returns-clause-written : goal.returns-clause-written
returns-clause-written c =
    let chosen = option_map (λ v. v.now.items) c.args.chosen in
    let ms = members_view c.in_ok-shown.shown.entries in
    let shown = subst (λ ps. IsShown c.args.key.now ps c.args.level chosen ms) c.as_slice.ensures.value c.in_ok-shown.ensures.shown in
    let leaves = leaves-shown c.args.key.now c.args.props.now c.args.level chosen ms shown in
    (λ tag. (
      object (put_etag c.args.level (tag_text tag) ms),
      object-shown (record { key = c.args.key.now; props = c.args.props.now; tag = tag }) c.args.level chosen ms shown,
      ap (λ all. compact_text (object (tagged (tag_text tag) all))) c.in_ok-members.ensures
          ∙ ap (λ all. compact_text (object all)) (tagged_placed c.args.level (tag_text tag) ms leaves),
    ))
