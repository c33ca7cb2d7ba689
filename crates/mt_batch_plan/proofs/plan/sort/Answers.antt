use Rattle.std.proofs.Common.{rules, ℕ}
use Rattle.std.proofs.lemmas.List.Sorted.{ranks_by}
use Rattle.std.proofs.lemmas.Fn.{always_returns_same}
use Rattle.std.specs.Cmp.Lexicographic.{nat_list_cmp_total}
use Rattle.mt_batch_plan.specs.Plans.{is_below}
use Rattle.mt_batch_plan.proofs.OrderLaws.{rk_at}
use Rattle.mt_batch_plan.proofs.plan.sort.Goals as goal

pub returns-clause-sorted : goal.returns-clause-sorted
returns-clause-sorted c =
    c.sort_unstable_by.ensures.sorted (λ a b. is_below (rk_at c.args.ops.now a) (rk_at c.args.ops.now b)) (ranks_by nat_list_cmp_total (λ (i : ℕ). rk_at c.args.ops.now i))
    (always_returns_same _ _ _ (λ a r next called. search rules))
