use Rattle.std.proofs.Common.{◌++◌, ◌∷◌, [], List, ap, sym, subst, ◌∙◌}
use Rattle.mt_chain.specs.declared.row.Put.{Put}
use Rattle.mt_chain.specs.declared.row.StoredRow.{StoredRow}
use Rattle.mt_chain.specs.Puts.{CanApply}
use Rattle.mt_clean.specs.Cleanings.{deletes_of, marker_put}
use Rattle.mt_clean.proofs.RowLists.{can_drop}
use Rattle.mt_clean.proofs.asks.drop_rows.Goals as goal

pub returns-clause-can : goal.returns-clause-can
returns-clause-can c =
    let marker = c.in_ok-push.ensures.items ∙ ap (λ (puts : List Put). puts ++ c.in_ok-marker_put.field-0 ∷ []) c.in_ok-puts.ensures.items ∙ ap (λ (m : Put). m ∷ []) c.in_ok-marker_put.ensures in
    subst CanApply
    (sym (
    c.of.ensures
    ∙ c.in_ok-push_deletes.ensures
    ∙ ap (λ (puts : List Put). puts ++ deletes_of c.as_slice-rows.result.now) marker
    ∙ ap (λ (rows : List StoredRow). marker_put c.args.marker c.args.more ∷ deletes_of rows) c.as_slice-rows.ensures.value
    ))
    (can_drop c.args.marker c.args.more c.args.rows.now c.as_slice-rows.ensures.rising c.requires)
