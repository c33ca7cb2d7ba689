use Rattle.std.proofs.Common.{ap, sym, ◌∙◌, map}
use Rattle.mt_chain.specs.Rows.{shown, limited, is_beyond}
use Rattle.mt_chain.specs.StoreCall.{range_answer, range_has_more}
use Rattle.mt_mem.specs.Entries.{entries}
use Rattle.mt_mem.proofs.AnswerLaws.{map_limited, map_beyond}
use Rattle.mt_mem.proofs.EntryLaws.{shown_entries}
use Rattle.mt_mem.proofs.answer.range_rows.Goals as goal

pub returns-in-Some-clause-first : goal.returns-in-Some-clause-first
returns-in-Some-clause-first c =
    let limit = c.in-Some.range.limit in
    let within = c.rows_within.result.now in
    ap (map (λ r. r.1)) c.first_rows.ensures.first
    ∙ map_limited (λ r. r.1) limit within
    ∙ ap (limited limit) (sym (shown_entries within) ∙ ap (map (λ e. shown e.0.rk e.1)) c.rows_within.ensures)
    ∙ sym (ap (range_answer (entries c.args.rows.now) c.args.pk.now) c.in-Some.is)

pub returns-in-Some-clause-more : goal.returns-in-Some-clause-more
returns-in-Some-clause-more c =
    let limit = c.in-Some.range.limit in
    let within = c.rows_within.result.now in
    c.first_rows.ensures.more
    ∙ sym (map_beyond (λ r. r.1) limit within)
    ∙ ap (is_beyond limit) (sym (shown_entries within) ∙ ap (map (λ e. shown e.0.rk e.1)) c.rows_within.ensures)
    ∙ sym (ap (range_has_more (entries c.args.rows.now) c.args.pk.now) c.in-Some.is)
