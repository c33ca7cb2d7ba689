use Rattle.std.proofs.Common.{◌≡◌, ◌≤◌, drop, length, map, max}
use Rattle.mt_paged.specs.Paged.{greatest}
use Rattle.mt_paged.proofs.pages.Pages.largest.Given as goal

abbrev pub invariant-loop-at : goal.invariant-loop-at
invariant-loop-at l = record {
  left : max l.largest (greatest (map length (drop l.at l.self.pages))) ≡ greatest (map length l.self.pages);
  few : l.largest ≤ 128;
}
