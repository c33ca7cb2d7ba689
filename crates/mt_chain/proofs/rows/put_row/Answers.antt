use Rattle.std.proofs.Common.{◌∙◌, sym, subst, Ok, Err, set}
use Rattle.mt_model.specs.Key.{key_cmp}
use Rattle.mt_chain.specs.Places.{EndsAt}
use Rattle.mt_chain.proofs.RowLaws.{rising_put}
use Rattle.mt_chain.proofs.SearchLaws.{put_at, put_gap}
use Rattle.mt_chain.proofs.ModelLaws.{on_ok}
use Rattle.mt_chain.proofs.rows.put_row.Goals as goal

pub returns-in-Ok-clause-ok : goal.returns-in-Ok-clause-ok
returns-in-Ok-clause-ok c =
    let row = c.args.row in
    let rows = c.args.rows.now.items in
    let ends = subst (λ rs. EndsAt (λ k. key_cmp k row.0) rs (Ok c.in-Ok.at)) c.deref.ensures.value c.in-Ok.ensures in
    sym (put_at row.0 row.1 rows c.in-Ok.at row c.requires ends.0 (ends.1 row))

pub returns-in-Ok-clause-rising : goal.returns-in-Ok-clause-rising
returns-in-Ok-clause-rising c =
    let row = c.args.row in
    let rows = c.args.rows.now.items in
    rising_put (Ok tt) rows (set rows c.in-Ok.at row) row.0.pk row.0.rk row.1 (returns-in-Ok-clause-ok c) tt c.requires

pub returns-in-Err-clause-ok : goal.returns-in-Err-clause-ok
returns-in-Err-clause-ok c =
    let row = c.args.row in
    let rows = c.args.rows.now.items in
    let ends = subst (λ rs. EndsAt (λ k. key_cmp k row.0) rs (Err c.in-Err.at)) c.deref.ensures.value c.in-Err.ensures in
    on_ok c.insert_at.result (λ is. is ∙ sym (put_gap row.0 row.1 rows c.in-Err.at ends)) c.insert_at.ensures.ok

pub returns-in-Err-clause-rising : goal.returns-in-Err-clause-rising
returns-in-Err-clause-rising c =
    let row = c.args.row in
    rising_put c.insert_at.result c.args.rows.now.items c.insert_at.new.rows.items row.0.pk row.0.rk row.1 (returns-in-Err-clause-ok c) c.insert_at.ensures.err c.requires
