use Rattle.std.proofs.Common.{ℕ, List, ◌≡◌, ◌∷◌, ◌+◌, ◌≤◌, ◌∙◌, length, drop, sym, ap, subst}
use Rattle.std.specs.List.{flat_map}
use Rattle.std.proofs.lemmas.List.{drop_more}
use Rattle.mt_model.specs.declared.tag.Tag.{Tag}
use Rattle.mt_mime.specs.declared.forms.Form.{Form}
use Rattle.mt_mime.specs.Replies.{AreTags, replies_by, part_bytes}
use Rattle.mt_mime.proofs.ReplyLaws.{bound_step}
use Rattle.mt_mime.proofs.drafting.parts_room.Goals as goal

pub loop-form-preserved : goal.loop-form-preserved
loop-form-preserved c = λ total left.
    let at = c.loop-form.form-index in
    let f = c.form-item.result in
    let rest = drop (at + 1) c.args.forms.now in
    let step : drop at c.args.forms.now ≡ f ∷ rest = drop_more c.args.forms.now at f c.loop-form-test.true ∙ ap (λ (x : Form). x ∷ rest) (sym c.form-item.is) in
    let more = subst (λ (size : ℕ). (tags : List Tag) → AreTags (length rest) tags → length (flat_map part_bytes (replies_by rest tags)) + size ≤ total) c.in-Some-checked_add-2.ensures.1 left in
    c.loop-form.invariant total
    (subst (λ (fs : List Form). (tags : List Tag) → AreTags (length fs) tags → length (flat_map part_bytes (replies_by fs tags)) + c.loop-form.size ≤ total) (sym step)
    (bound_step f rest c.in-Some.reply c.in-Some-checked_add.part c.loop-form.size total c.in-Some.ensures c.in-Some-checked_add.ensures.1 more))
