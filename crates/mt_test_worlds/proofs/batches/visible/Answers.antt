use Rattle.std.proofs.Common.{ap, ◌∙◌}
use Rattle.std.specs.List.{list_any}
use Rattle.mt_model.specs.Name.{is_hidden}
use Rattle.mt_rules.proofs.VisibleLaws.{none_hidden}
use Rattle.mt_test_worlds.proofs.batches.visible.Goals as goal

pub returns : goal.returns
returns c = ap (list_any (λ p. is_hidden p.name)) c.in_ok-visible.ensures ∙ none_hidden c.in_ok-props.props
