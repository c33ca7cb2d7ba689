use Rattle.std.proofs.Common.{◌≡◌, ℕ, List, take, drop, Bor}
use Rattle.std.specs.BTreeSet.{contains}
use Rattle.std.specs.Ordering.{nat_cmp}
use Rattle.std.specs.Cmp.Lexicographic.{slice_cmp}
use Rattle.mt_target.specs.Options.{has_option, repeats_behind, has_repeat}
use Rattle.mt_target.proofs.options.has_repeat.Given as goal

abbrev pub invariant-loop-option : goal.invariant-loop-option
invariant-loop-option l = record {
  left : repeats_behind (take l.option-index l.options) (drop l.option-index l.options) ≡ has_repeat l.options;
  seen : (n : Bor (List ℕ)) → contains (λ (x y : Bor (List ℕ)). slice_cmp nat_cmp x.now y.now) l.seen n ≡ has_option n.now (take l.option-index l.options);
}
