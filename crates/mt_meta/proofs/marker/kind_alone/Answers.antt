use Rattle.std.proofs.Common.{ap, subst, ◌∙◌, List}
use Rattle.std.specs.Prelude.{IsPermutation}
use Rattle.mt_model.specs.declared.name.Hidden.TheVariants.{Kind}
use Rattle.mt_model.specs.declared.value.Prop.{Prop}
use Rattle.mt_model.specs.Props.{hidden_prop}
use Rattle.mt_model.specs.Merge.{put_prop}
use Rattle.mt_meta.proofs.MarkLaws.{no_props}
use Rattle.mt_meta.proofs.marker.kind_alone.Goals as goal

pub returns : goal.returns
returns c =
    let P : List Prop → Type 0 = λ items. IsPermutation items c.in-Ok.props in
    c.in_ok-add_hidden.ensures.ok ∙ ap (put_prop (hidden_prop Kind c.args.kind.now)) (no_props _ (subst P c.new.ensures.items c.in-Ok.ensures.ok.0))
