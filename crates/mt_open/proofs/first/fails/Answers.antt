use Rattle.std.proofs.Common.{sym, subst, not}
use Rattle.std.specs.Prelude.{IsTrue}
use Rattle.mt_open.specs.Damage.{RowFails}
use Rattle.mt_open.specs.Holdings.{pair_in}
use Rattle.mt_open.proofs.LeastLaws.{fails_not}
use Rattle.mt_open.proofs.first.fails.Goals as goal

pub returns-in_ok-form-in-Forms : goal.returns-in_ok-form-in-Forms
returns-in_ok-form-in-Forms c =
    let b = c.in_ok-form-in-Forms.form in
    let row = c.args.row.now in
    let p = pair_in c.args.stores.now in
    subst (λ r. (IsTrue (not b) → RowFails p r c.args.side row.0 row.1) × (RowFails p r c.args.side row.0 row.1 → IsTrue (not b))) (sym c.in-Forms.is)
    (fails_not b c.in_ok-form-in-Forms.ensures)
