use Rattle.std.proofs.Common.{rules, ℕ, List}
use Rattle.std.proofs.lemmas.List.Sorted.{answers_always, ranks_by}
use Rattle.std.specs.Cmp.Lexicographic.{nat_list_cmp_total}
use Rattle.mt_batch_plan.specs.Plans.{is_below}
use Rattle.mt_batch_plan.proofs.names.sort.Goals as goal

pub returns-clause-sorted : goal.returns-clause-sorted
returns-clause-sorted c =
    c.sort_unstable_by.ensures.sorted is_below (ranks_by nat_list_cmp_total (λ (t : List ℕ). t))
    (answers_always _ _ _ (λ f a r next called. search rules))
