use Rattle.std.proofs.Common.{rules, ap, sym, ◌∙◌, subst, decimal}
use Rattle.mt_model.specs.Tag.{IsTag}
use Rattle.mt_json.specs.Draft.{HasRoom, Appends, quoted_digits}
use Rattle.mt_json.proofs.TagLaws.{quoted_is}
use Rattle.mt_json.proofs.members.put_tag.Goals as goal

pub put_digits-requires : goal.put_digits-requires
put_digits-requires c =
    let h : IsTag c.args.tag = (search rules, search rules) in
    let same = quoted_is c.args.tag h ∙ ap (λ n. quoted_digits n (decimal c.args.tag.n)) (sym c.format.ensures.text) ∙ ap (quoted_digits c.format.result.now) (sym c.format-2.ensures.text) in
    subst (HasRoom c.args.room.now) same c.requires

pub returns : goal.returns
returns c =
    let h : IsTag c.args.tag = (search rules, search rules) in
    let same = quoted_is c.args.tag h ∙ ap (λ n. quoted_digits n (decimal c.args.tag.n)) (sym c.format.ensures.text) ∙ ap (quoted_digits c.format.result.now) (sym c.format-2.ensures.text) in
    subst (λ t. Appends c.args.room.now t c.put_digits.new.room) (sym same) c.put_digits.ensures
