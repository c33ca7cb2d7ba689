use Rattle.std.proofs.Common.{take, sym, subst}
use Rattle.std.specs.Prelude.{All}
use Rattle.std.proofs.lemmas.List.{take_more, take_all}
use Rattle.std.proofs.lemmas.List.Elements.{All-push}
use Rattle.mt_model.specs.Tag.{IsTag}
use Rattle.mt_mime.proofs.finishing.are_tags.Goals as goal

pub loop-tag-preserved : goal.loop-tag-preserved
loop-tag-preserved c =
    subst (All IsTag) (sym (take_more c.args.tags.now c.loop-tag.tag-index (record { store = 0; n = 0 }) c.loop-tag-test.true))
    (All-push IsTag (take c.loop-tag.tag-index c.args.tags.now) _ c.loop-tag.invariant c.is_tag.ensures)

pub returns : goal.returns
returns c = subst (All IsTag) (take_all c.loop-tag.tag-index c.args.tags.now c.loop-tag-test.false) c.loop-tag.invariant
