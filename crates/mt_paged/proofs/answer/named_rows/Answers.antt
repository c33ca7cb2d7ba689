use Rattle.std.proofs.Common.{◌++◌, ◌∷◌, [], ap, sym, ◌∙◌, Option, append-nil, option_copied, take}
use Rattle.std.specs.List.{cons_option}
use Rattle.mt_chain.specs.declared.row.StoredRow.{StoredRow}
use Rattle.mt_chain.specs.Rows.{named_rows}
use Rattle.mt_paged.specs.Pages.{rows_in}
use Rattle.mt_mem.proofs.AnswerLaws.{named_more}
use Rattle.mt_paged.proofs.answer.named_rows.Goals as goal
use Rattle.mt_paged.proofs.answer.named_rows.Goals.{in-Some+in_ok-copy_row-in-Some+in_ok-push-in-Some, in-None}

pub loop-rk-preserved : goal.loop-rk-preserved
loop-rk-preserved c =
    let rows = rows_in c.args.pages.now in
    let pk = c.args.pk.now in
    let rk = c.rk-item.result in
    let before = named_rows rows pk (take c.loop-rk.rk-index c.args.names.now) in
    let more = named_more rows pk c.args.names.now c.loop-rk.rk-index rk c.loop-rk-test.true c.rk-item.is in
    let with_row = λ (o : Option StoredRow). before ++ cons_option o [] in
    elim c.match-row_at.branch [
      | in-Some+in_ok-copy_row-in-Some+in_ok-push-in-Some w ↦
          ap (λ v. v.items) w.found-is
          ∙ w.in_ok-push-in-Some.ensures.items
          ∙ ap (λ row. c.loop-rk.found.items ++ row ∷ []) w.in_ok-copy_row-in-Some.ensures
          ∙ ap (λ fs. fs ++ w.in-Some.row.now ∷ []) c.loop-rk.invariant
          ∙ ap with_row (sym (ap option_copied w.in-Some.is) ∙ c.row_at.ensures.shown)
          ∙ sym more
      | in-None w ↦
          ap (λ v. v.items) w.found-is
          ∙ c.loop-rk.invariant
          ∙ sym (append-nil before)
          ∙ ap with_row (sym (ap option_copied w.in-None.is) ∙ c.row_at.ensures.shown)
          ∙ sym more
    ]
