use Rattle.std.proofs.Common.{ℕ, List, [], Some, None, sym, subst, ◌∙◌, arith}
use Rattle.std.specs.List.Sorted.{IsStrictlySortedBy}
use Rattle.mt_chain.specs.declared.query.RkFrom.TheVariants.{Start}
use Rattle.mt_chain.specs.StoreCall.{CanQuery}
use Rattle.mt_test_stores.proofs.stores.rows_text.Goals as goal

can_read_all : (pk : List ℕ) → CanQuery (record { pk = pk; named = []; range = Some (record { from = Start; upto = None; limit = None }) })
unfolding IsStrictlySortedBy
can_read_all pk = record { few = omega arith; rising = tt; limit = tt }

pub query-requires : goal.query-requires
query-requires c =
    subst (λ (names : List (List ℕ)). CanQuery (record { pk = c.in_ok-of.field-0; named = names; range = Some (record { from = Start; upto = None; limit = None }) }))
    (sym (c.of-2.ensures ∙ c.new.ensures.items)) (can_read_all c.in_ok-of.field-0)
