use Rattle.std.proofs.Common.{◌≡◌, ◌+◌, ◌++◌, length, ◌≤◌, reverse}
use Rattle.mt_paged.proofs.page.Page.split.Given as goal

abbrev pub invariant-loop-self : goal.invariant-loop-self
invariant-loop-self l = record {
  all : l.self ++ reverse l.other ≡ l.fn.self;
  few : length l.self + length l.other ≤ 128;
  above : l.at ≤ length l.self;
}

abbrev pub decreases-loop-self : goal.decreases-loop-self
decreases-loop-self l = length l.self
