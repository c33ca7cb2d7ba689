use Rattle.std.proofs.Common.{rules, ◌≡◌, sym, subst, List, Some}
use Rattle.mt_model.specs.declared.value.Prop.{Prop}
use Rattle.mt_meta.specs.declared.mark.Mark.TheVariants.{Live}
use Rattle.mt_meta.specs.Marks.{mark_of, stored}
use Rattle.mt_meta.proofs.MarkLaws.{live_reads}
use Rattle.mt_meta.proofs.mark.stored_live.Goals as goal

pub returns-clause-read : goal.returns-clause-read
returns-clause-read c =
    let P : List Prop → Type 0 = λ ps. mark_of ps ≡ Some Live in
    let value : c.add_hidden.new.self ≡ stored Live c.args.props.now = search rules in
    subst P (sym value) (live_reads c.args.props.now)
