use Rattle.std.proofs.Common.{sym, ◌≡◌, ◌-◌, ap, ◌∙◌, drop, take, arith}
use Rattle.std.proofs.lemmas.List.{take-map, drop-map}
use Rattle.mt_chain.specs.Places.{is_before, is_not_past}
use Rattle.mt_chain.proofs.OrderLaws.{in_range}
use Rattle.mt_chain.proofs.SearchLaws.{same_filter, between}
use Rattle.mt_mem.specs.Entries.{entry, entries}
use Rattle.mt_mem.proofs.lookup.rows_within.Goals as goal

pub returns-then-start-end : goal.returns-then-start-end
returns-then-start-end c =
    let pk = c.args.pk.now in
    let range = c.args.range.now in
    let rows = c.args.rows.now in
    let start = c.start_of-start.result in
    let end = c.end_of-end.result in
    sym (same_filter _ _ (λ e. in_range pk range e.0) (entries rows)
    ∙ between (is_before pk range.from) (is_not_past pk range.upto) (entries rows) start end c.start_of-start.ensures c.end_of-end.ensures
    ∙ ap (take (end - start)) (drop-map entry start rows)
    ∙ take-map entry (end - start) (drop start rows))

pub returns-else-start-end : goal.returns-else-start-end
returns-else-start-end c =
    let pk = c.args.pk.now in
    let range = c.args.range.now in
    let rows = c.args.rows.now in
    let start = c.start_of-start.result in
    let none : c.end_of-end.result - start ≡ 0 = omega (arith, c.if-start-end.false) in
    sym (same_filter _ _ (λ e. in_range pk range e.0) (entries rows)
    ∙ between (is_before pk range.from) (is_not_past pk range.upto) (entries rows) start c.end_of-end.result c.start_of-start.ensures c.end_of-end.ensures
    ∙ ap (λ n. take n (drop start (entries rows))) none)
