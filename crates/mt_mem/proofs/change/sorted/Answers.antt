use Rattle.std.proofs.Common.{rules}
use Rattle.std.proofs.lemmas.List.Sorted.{answers_always, ranks_by}
use Rattle.std.specs.Cmp.Lexicographic.{nat_list_cmp_total}
use Rattle.mt_mem.specs.Changes.{changed_key, is_before}
use Rattle.mt_mem.proofs.change.sorted.Goals as goal

pub returns-clause-sorted : goal.returns-clause-sorted
returns-clause-sorted c =
    c.sort_unstable_by.ensures.sorted is_before (ranks_by nat_list_cmp_total changed_key)
    (answers_always _ _ _ (λ f a r next called. search rules))
