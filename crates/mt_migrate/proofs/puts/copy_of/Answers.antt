use Rattle.std.proofs.Common.{◌≡◌, List, IfOk, ap, sym, subst, ◌∙◌}
use Rattle.std.specs.Option.{option_copied}
use Rattle.std.specs.List.Sorted.{IsPermutation}
use Rattle.mt_model.specs.declared.value.Prop.{Prop}
use Rattle.mt_meta.specs.declared.mark.Mark.TheVariants.{Copy}
use Rattle.mt_meta.specs.Marks.{stored}
use Rattle.mt_migrate.specs.Chunks.{props_of}
use Rattle.mt_migrate.proofs.ReadLaws.{none_ordered}
use Rattle.mt_migrate.proofs.puts.copy_of.Goals as goal

pub returns-in-Ok : goal.returns-in-Ok
returns-in-Ok c =
    let none = none_ordered c.in-Ok.none (subst (λ (ps : List Prop). IsPermutation ps c.in-Ok.none) c.new.ensures.items c.in-Ok.ensures.ok.0) in
    let same = none ∙ ap (λ r. props_of (option_copied r)) (sym c.in-None.is) in
    subst (λ (ps : List Prop). IfOk c.stored-in-None.result (λ p. p ≡ stored (Copy c.args.seen) ps)) same c.stored-in-None.ensures.value
