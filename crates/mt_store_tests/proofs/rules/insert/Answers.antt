use Rattle.std.proofs.Common.{rules, ap, ◌∙◌}
use Rattle.std.specs.List.{list_any}
use Rattle.mt_model.specs.Name.{is_hidden}
use Rattle.mt_rules.proofs.VisibleLaws.{none_hidden}
use Rattle.mt_store_tests.proofs.rules.insert.Goals as goal

pub returns : goal.returns
returns c = record {
  key = search rules;
  visible = ap (list_any (λ p. is_hidden p.name)) c.in_ok-props.ensures ∙ none_hidden c.args.props.now;
}
