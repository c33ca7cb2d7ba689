use Rattle.std.proofs.Common.{◌∙◌, sym}
use Rattle.mt_filter.specs.Grammar.{IsComparison}
use Rattle.mt_filter.proofs.Sought.{other_sort}
use Rattle.mt_filter.proofs.reader.Reader.read_compare.Goals as goal

pub returns-in-None-clause-value : goal.returns-in-None-clause-value
returns-in-None-clause-value c =
    let next = c.in-Ok.next in
    let no = sym c.in-None.is ∙ c.comparison_of.ensures in
    other_sort IsComparison _ _ _ next.kind next.left c.expected.result c.expected.ensures c.in-Ok.ensures.value.1 c.in-Ok.ensures.value.0 no
