use Rattle.std.proofs.Common.{rules, ◌≡◌, sym, subst, List, Some, arith}
use Rattle.mt_model.specs.declared.value.Prop.{Prop}
use Rattle.mt_meta.specs.declared.mark.Mark.TheVariants.{Copy}
use Rattle.mt_meta.specs.Marks.{mark_of, stored}
use Rattle.mt_meta.proofs.MarkLaws.{copy_reads}
use Rattle.mt_meta.proofs.mark.stored_copy.Goals as goal

pub returns-clause-read : goal.returns-clause-read
returns-clause-read c =
    let P : List Prop → Type 0 = λ ps. mark_of ps ≡ Some (Copy c.args.tag) in
    let value : c.add_hidden-2.new.self ≡ stored (Copy c.args.tag) c.args.props.now = search rules in
    subst P (sym value) (copy_reads c.args.tag c.args.props.now (omega arith, omega arith))
