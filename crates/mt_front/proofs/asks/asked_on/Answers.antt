use Rattle.std.proofs.Common.{rules, ◌≡◌, subst}
use Rattle.std.specs.Prelude.{IfOk}
use Rattle.mt_front.specs.Reads.{AsksRow}
use Rattle.mt_front.proofs.asks.asked_on.Goals as goal

pub returns-in-Row : goal.returns-in-Row
returns-in-Row c =
    let pk_is : c.as_str.result.now ≡ c.in-Row.pk = search rules in
    let rk_is : c.as_str-in-Row.result.now ≡ c.in-Row.rk = search rules in
    let asks : IfOk c.asked_of_row.result (AsksRow c.in-Row.pk c.in-Row.rk c.args.options.now c.args.fields.now) =
    subst (λ pk. IfOk c.asked_of_row.result (AsksRow pk c.in-Row.rk c.args.options.now c.args.fields.now)) pk_is
    (subst (λ rk. IfOk c.asked_of_row.result (AsksRow c.as_str.result.now rk c.args.options.now c.args.fields.now)) rk_is c.asked_of_row.ensures) in
    rw c.in-Row.is asks
