use Rattle.std.proofs.Common.{◌<◌, ◌≤◌, Some, length, sym, subst, ap, ◌∙◌, arith, ltb-false, ltb-true}
use Rattle.std.proofs.lemmas.List.{length-map}
use Rattle.mt_chain.specs.StoreCall.{IsNext}
use Rattle.mt_mem.specs.Entries.{entry, entries}
use Rattle.mt_mem.proofs.AnswerLaws.{next_none, next_some}
use Rattle.mt_mem.proofs.EntryLaws.{entry_at}
use Rattle.mt_mem.proofs.answer.next_key.Goals as goal

pub returns-in-None-clause-next : goal.returns-in-None-clause-next
returns-in-None-clause-next c =
    let rows = c.args.rows.now in
    let at = c.place_past.result in
    let past : length rows ≤ at = ltb-false at (length rows) (sym c.in-None.ensures.lookup.0) in
    next_none c.args.at.now (entries rows) at c.place_past.ensures (let long = length-map rows entry in omega (arith, long, past))

pub returns-in_ok-copy-in-Some-clause-next : goal.returns-in_ok-copy-in-Some-clause-next
returns-in_ok-copy-in-Some-clause-next c =
    let rows = c.args.rows.now in
    let at = c.place_past.result in
    let row = c.in-Some.row.now in
    let within : at < length rows = ltb-true at (length rows) (sym c.in-Some.ensures.lookup.0) in
    subst (λ pk. IsNext c.args.at.now (Some pk) (entries rows)) (ap (λ e. e.0.pk) (entry_at rows at row within) ∙ sym (c.in_ok-copy-in-Some.ensures ∙ ap (λ r. r.0) c.in-Some.ensures.lookup.1))
    (next_some c.args.at.now (entries rows) at (entry row) c.requires c.place_past.ensures (let long = length-map rows entry in omega (arith, long, within)))

pub returns-in_ok-copy-in-Some-clause-past : goal.returns-in_ok-copy-in-Some-clause-past
returns-in_ok-copy-in-Some-clause-past c = (returns-in_ok-copy-in-Some-clause-next c).0
