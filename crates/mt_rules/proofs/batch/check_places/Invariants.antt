use Rattle.std.proofs.Common.{◌≡◌, ℕ, List, [], take, drop, Bor}
use Rattle.std.specs.BTreeSet.{contains}
use Rattle.std.specs.Ordering.{nat_cmp}
use Rattle.std.specs.Cmp.Lexicographic.{slice_cmp}
use Rattle.mt_rules.specs.Batches.{places_fault}
use Rattle.mt_rules.proofs.PlaceLaws.{has_row, AreOf}
use Rattle.mt_rules.proofs.batch.check_places.Given as goal

abbrev pub invariant-loop-at : goal.invariant-loop-at
invariant-loop-at l = record {
  left : places_fault l.pk (take l.at l.ops) l.at (drop l.at l.ops) ≡ places_fault l.pk [] 0 l.ops;
  seen : (n : Bor (List ℕ)) → contains (λ (x y : Bor (List ℕ)). slice_cmp nat_cmp x.now y.now) l.seen n ≡ has_row n.now (take l.at l.ops);
  one : AreOf l.pk (take l.at l.ops);
}
