use Rattle.std.proofs.Common.{sym, subst}
use Rattle.serde_json.specs.View.{view}
use Rattle.mt_json.specs.Value.{IsTyped}
use Rattle.mt_json.proofs.value.typed_value.Goals as goal

pub returns-in-Int64 : goal.returns-in-Int64
returns-in-Int64 c = subst (λ k. IsTyped k (view c.args.value.now) c.int64_value.result) (sym c.in-Int64.is) c.int64_value.ensures

pub returns-in-DateTime : goal.returns-in-DateTime
returns-in-DateTime c = subst (λ k. IsTyped k (view c.args.value.now) c.moment_value.result) (sym c.in-DateTime.is) c.moment_value.ensures
