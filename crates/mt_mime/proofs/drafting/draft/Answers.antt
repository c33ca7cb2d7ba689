use Rattle.std.proofs.Common.{Bool, List, ◌≤◌, ◌∙◌, length, subst, arith}
use Rattle.mt_model.specs.declared.tag.Tag.{Tag}
use Rattle.mt_mime.specs.declared.forms.Form.{Form}
use Rattle.mt_mime.specs.Replies.{AreTags, answer_by}
use Rattle.mt_mime.proofs.ReplyLaws.{forms_count, answers_all}
use Rattle.mt_mime.proofs.drafting.draft.Goals as goal

pub invariant_of-result : goal.invariant_of-result
invariant_of-result c =
    let fits = subst (λ (fs : List Form). (change_set close : Bool) (tags : List Tag) → AreTags (length fs) tags → length (answer_by change_set close fs tags) ≤ c.in-Some.size) c.deref.ensures.value c.in-Some.ensures in
    record {
      valid = record {
        one = λ alone. forms_count c.args.ops.now c.args.echoes.now c.in_ok-forms.forms.items c.in_ok-forms.ensures ∙ c.requires.one alone;
        empty = c.in_ok-room.ensures.items;
        wide = λ tags are. omega (arith, fits c.args.change_set c.args.close tags are, c.in_ok-room.ensures.exact);
      };
    }

pub returns : goal.returns
returns c = record {
  count = forms_count c.args.ops.now c.args.echoes.now c.in_ok-forms.forms.items c.in_ok-forms.ensures;
  reply = answers_all c.args.change_set c.args.close c.args.ops.now c.args.echoes.now c.in_ok-forms.forms.items c.in_ok-forms.ensures c.requires.one;
}
