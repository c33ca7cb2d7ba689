use Rattle.std.proofs.Common.{sym, subst, ◌∙◌, Ok, Err, IsTrue}
use Rattle.mt_model.specs.Key.{key_cmp}
use Rattle.mt_chain.specs.Rows.{are_rising}
use Rattle.mt_chain.specs.Places.{EndsAt}
use Rattle.mt_chain.proofs.RowLaws.{rising_without_row}
use Rattle.mt_chain.proofs.SearchLaws.{without_at, without_gap}
use Rattle.mt_chain.proofs.rows.take_row.Goals as goal

pub returns-in-Ok-clause-rows : goal.returns-in-Ok-clause-rows
returns-in-Ok-clause-rows c =
    let key = c.args.key.now in
    let rows = c.args.rows.now.items in
    let ends = subst (λ rs. EndsAt (λ k. key_cmp k key) rs (Ok c.in-Ok.at)) c.deref.ensures.value c.in-Ok.ensures in
    let d = c.remove.result in
    c.remove.ensures.items ∙ sym (without_at key rows c.in-Ok.at d c.requires ends.0 (ends.1 d))

pub returns-in-Ok-clause-rising : goal.returns-in-Ok-clause-rising
returns-in-Ok-clause-rising c =
    let key = c.args.key.now in
    subst (λ rs. IsTrue (are_rising rs)) (sym (returns-in-Ok-clause-rows c)) (rising_without_row c.args.rows.now.items key.pk key.rk c.requires)

pub returns-in_default-clause-rows : goal.returns-in_default-clause-rows
returns-in_default-clause-rows c =
    let key = c.args.key.now in
    let rows = c.args.rows.now.items in
    let ends = subst (λ rs. EndsAt (λ k. key_cmp k key) rs (Err c.in_default.field-0)) c.deref.ensures.value c.in_default.ensures in
    sym (without_gap key rows c.in_default.field-0 ends)
