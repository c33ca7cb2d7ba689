use Rattle.std.proofs.Common.{rules, ◌+◌, ◌∙◌, sym, ap, length, decimal}
use Rattle.mt_model.specs.Tag.{IsTag}
use Rattle.mt_json.proofs.TagLaws.{escaped_size}
use Rattle.mt_json.proofs.members.tag_size.Goals as goal

pub returns-clause-exact : goal.returns-clause-exact
returns-clause-exact c =
    let h : IsTag c.args.tag = (search rules, search rules) in
    ap (λ n. 7 + length n + length c.format-2.result.now) c.format.ensures.text
    ∙ ap (λ n. 7 + length (decimal c.args.tag.store) + length n) c.format-2.ensures.text
    ∙ sym (escaped_size c.args.tag h).0
