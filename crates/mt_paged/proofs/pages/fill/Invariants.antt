use Rattle.std.proofs.Common.{◌≡◌, ◌-◌, [], vec_len}
use Rattle.std.specs.List.{All}
use Rattle.mt_paged.proofs.pages.fill.Given as goal

abbrev pub invariant-loop-alloc : goal.invariant-loop-alloc
invariant-loop-alloc l = All (λ page. page ≡ []) l.pool.items

abbrev pub decreases-loop-alloc : goal.decreases-loop-alloc
decreases-loop-alloc l = l.count - vec_len l.pool
