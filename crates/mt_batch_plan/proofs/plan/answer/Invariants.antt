use Rattle.std.proofs.Common.{◌≡◌, ◌+◌, length, drop}
use Rattle.mt_batch_plan.proofs.FillLaws.{all_filled}
use Rattle.mt_batch_plan.proofs.plan.answer.Given as goal

abbrev pub invariant-loop-at : goal.invariant-loop-at
invariant-loop-at l = record {
  length : length l.tags.items ≡ length l.ops;
  tells : all_filled l.ops (drop l.at l.order) (drop (l.at + 1) l.given) l.tags.items ≡ all_filled l.ops l.order (drop 1 l.given) l.fn.tags.items;
}
