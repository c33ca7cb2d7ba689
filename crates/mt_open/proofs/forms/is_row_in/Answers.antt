use Rattle.std.proofs.Common.{sym, subst}
use Rattle.std.specs.Prelude.{IfOk, IsTrue, ◌↔◌}
use Rattle.mt_open.specs.Damage.{IsRowIn}
use Rattle.mt_open.specs.Holdings.{pair_in}
use Rattle.mt_open.proofs.forms.is_row_in.Goals as goal

pub returns-in-New : goal.returns-in-New
returns-in-New c = subst (λ side. IfOk c.is_entry.result (λ b. IsTrue b ↔ IsRowIn (pair_in c.args.stores.now) side c.args.props.now)) (sym c.in-New.is) c.is_entry.ensures
