use Rattle.std.proofs.Common.{ℕ, List, sym, subst}
use Rattle.mt_chain.specs.StoreCall.{CanQuery}
use Rattle.mt_meta.proofs.ReadLaws.{can_read}
use Rattle.mt_meta.proofs.asks.read_marked.Goals as goal

pub returns-clause-can : goal.returns-clause-can
returns-clause-can c =
    let pk = c.in_ok-copy.field-0 in
    let range = c.args.range in
    subst (λ (names : List (List ℕ)). CanQuery (record { pk = pk; named = names; range = range })) (sym c.in_ok-marker_name.ensures) (can_read pk range c.requires)
