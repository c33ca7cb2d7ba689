use Rattle.std.proofs.Common.{Option, subst}
use Rattle.mt_model.specs.declared.value.Value.{Value}
use Rattle.mt_filter.specs.Literal.{IsValue}
use Rattle.mt_filter.proofs.Sought.{other_sort}
use Rattle.mt_filter.proofs.reader.Reader.read_literal.Goals as goal

pub returns-in-None-clause-value : goal.returns-in-None-clause-value
returns-in-None-clause-value c =
    let next = c.in-Ok.next in
    let P : Option Value → Type 0 = λ v. IsValue next.kind next.part.now v in
    let no = subst P c.in-None.is c.in_ok-value-in-Ok.ensures in
    other_sort IsValue _ _ _ next.kind next.left c.expected.result c.expected.ensures c.in-Ok.ensures.value.1 c.in-Ok.ensures.value.0 no
