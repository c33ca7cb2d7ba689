use Rattle.std.proofs.Common.{◌∙◌, ap, not, false}
use Rattle.std.proofs.lemmas.Map.Views.{any-filter_same}
use Rattle.std.specs.List.{list_any}
use Rattle.mt_model.specs.declared.value.Prop.{Prop}
use Rattle.mt_model.specs.Name.{is_hidden}
use Rattle.mt_model.specs.Props.{is_visible}
use Rattle.mt_store_tests.proofs.history.insert.Goals as goal

pub returns : goal.returns
returns c = record {
  key = c.in_ok-key.ensures;
  visible = ap (list_any (λ (p : Prop). is_hidden p.name)) c.in_ok-props.ensures
      ∙ any-filter_same (λ (p : Prop). is_hidden p.name) is_visible false (λ k hidden. ap not hidden) c.args.props.now;
}
