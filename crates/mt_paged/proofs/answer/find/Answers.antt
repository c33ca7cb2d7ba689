use Rattle.std.proofs.Common.{ap, sym, subst, ◌∙◌}
use Rattle.mt_chain.specs.Rows.{RisingRows, named_rows}
use Rattle.mt_mem.proofs.AnswerLaws.{named_rising, range_rising}
use Rattle.mt_paged.specs.Pages.{rows_in}
use Rattle.mt_paged.proofs.answer.find.Goals as goal

pub of-requires : goal.of-requires
of-requires c =
    let query = c.args.query.now in
    let rows = rows_in c.args.pages.now in
    subst RisingRows (sym (c.in_ok-named.ensures ∙ ap (named_rows rows query.pk) c.as_slice.ensures))
    (named_rising rows query.pk query.named c.requires.can.rising)

pub of-requires-2 : goal.of-requires-2
of-requires-2 c =
    let query = c.args.query.now in
    subst RisingRows (sym c.in_ok-rows.ensures.first) (range_rising (rows_in c.args.pages.now) query.pk query.range c.requires.rising)
