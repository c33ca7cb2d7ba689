use Rattle.std.proofs.Common.{sym, subst}
use Rattle.std.specs.Prelude.{◌≤◌, IfSome}
use Rattle.mt_chain.specs.declared.query.Range.{Range}
use Rattle.mt_query_plan.proofs.range.read.Goals as goal

pub read_marked-requires : goal.read_marked-requires
read_marked-requires c = subst (λ (r : Range). IfSome r.limit (λ n. 1 ≤ n)) (sym c.in_ok-range.ensures) tt
