use Rattle.std.proofs.Common.{ap, sym, subst, ◌∙◌, map}
use Rattle.std.specs.Ordering.{nat_cmp}
use Rattle.std.specs.List.Sorted.{IsStrictlySortedBy}
use Rattle.std.specs.Cmp.Lexicographic.{slice_cmp}
use Rattle.mt_chain.specs.Rows.{named_rows}
use Rattle.mt_mem.specs.Entries.{entries}
use Rattle.mt_mem.proofs.AnswerLaws.{named_rising, range_rising}
use Rattle.mt_mem.proofs.answer.find.Goals as goal

pub of-requires : goal.of-requires
of-requires c =
    let query = c.args.query.now in
    let rows = entries c.args.rows.now in
    subst (λ rs. IsStrictlySortedBy (slice_cmp nat_cmp) (map (λ s. s.rk) rs)) (sym (c.in_ok-named.ensures ∙ ap (named_rows rows query.pk) c.as_slice.ensures))
    (named_rising rows query.pk query.named c.requires.can.rising)

pub of-requires-2 : goal.of-requires-2
of-requires-2 c =
    let query = c.args.query.now in
    let rows = entries c.args.rows.now in
    subst (λ rs. IsStrictlySortedBy (slice_cmp nat_cmp) (map (λ s. s.rk) rs)) (sym (c.in_ok-range.ensures ∙ c.range_rows-more.ensures.first))
    (range_rising rows query.pk query.range c.requires.rising)
