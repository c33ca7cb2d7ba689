use Rattle.std.proofs.Common.{◌≡◌, ap, ◌∙◌}
use Rattle.serde_json.specs.Find.{get}
use Rattle.serde_json.specs.View.{view}
use Rattle.mt_json.specs.Kind.{kind_of, type_key}
use Rattle.mt_json.proofs.kind.kind_in.Goals as goal

pub returns : goal.returns
returns c =
    let named : c.as_str.result.now ≡ type_key c.args.name.now = c.as_str.ensures.value ∙ c.in_ok-type_key.ensures.ok in
    c.kind_of.ensures ∙ ap kind_of (c.get.ensures ∙ ap (λ name. get name (view c.args.object.now)) named)
