use Rattle.std.proofs.Common.{◌≡◌, true, sym, subst, ap, ◌∙◌}
use Rattle.mt_chain.specs.Rows.{Rows, are_rising}
use Rattle.mt_open.specs.Walk.{IsAtMost, rows_past}
use Rattle.mt_open.proofs.WalkLaws.{past_here, past_before}
use Rattle.mt_open.proofs.walk.rows_past.Goals as goal

pub returns-in-Equal : goal.returns-in-Equal
returns-in-Equal c =
    let key = c.args.key.now in
    let is = c.in-Some.ensures.cases.0 in
    sym (ap (rows_past key) is ∙ past_here key c.in-Some.row.now c.in-Some.rest.now (subst (λ (r : Rows). are_rising r ≡ true) is c.requires.0) (sym c.order.ensures ∙ c.in-Equal.is))

pub returns-in_default : goal.returns-in_default
returns-in_default c =
    let key = c.args.key.now in
    let is = c.in-Some.ensures.cases.0 in
    is ∙ sym (ap (rows_past key) is ∙ past_before key c.in-Some.row.now c.in-Some.rest.now (subst (λ (r : Rows). are_rising r ≡ true) is c.requires.0) (subst (IsAtMost key) is c.requires.1) (λ e. c.in_default.not-Equal (c.order.ensures ∙ e)))
