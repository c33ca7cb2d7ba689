use Rattle.mt_filter.specs.Grammar.{IsClosing}
use Rattle.mt_filter.proofs.Sought.{other_sort, closes, closes_not}
use Rattle.mt_filter.proofs.reader.Reader.close.Goals as goal

pub returns-in-Close-clause-value : goal.returns-in-Close-clause-value
returns-in-Close-clause-value c =
    let next = c.in-Ok.next in
    (next.kind, next.part.now, c.in-Ok.ensures.value.0, closes next.kind next.part.now c.in-Close.is)

pub returns-in_default : goal.returns-in_default
returns-in_default c =
    let next = c.in-Ok.next in
    let no = closes_not next.kind next.part.now c.in_default.not-Close in
    record {
      value = other_sort IsClosing _ _ _ next.kind next.left c.expected.result c.expected.ensures c.in-Ok.ensures.value.1 c.in-Ok.ensures.value.0 no;
      tests = c.in-Ok.ensures.tests;
    }
