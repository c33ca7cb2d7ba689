use Rattle.std.proofs.Common.{◌≡◌, ◌++◌, ◌∷◌, [], ℕ, List, length, ap, sym, subst, ◌∙◌, arith}
use Rattle.std.specs.List.Sorted.{IsStrictlySortedBy}
use Rattle.std.specs.Ordering.{nat_cmp}
use Rattle.std.specs.Cmp.Lexicographic.{slice_cmp}
use Rattle.mt_keeper_tests.proofs.build.query.Goals as goal

one_rising : (name : List ℕ) → IsStrictlySortedBy (slice_cmp nat_cmp) (name ∷ [])
unfolding IsStrictlySortedBy
one_rising name = (tt, tt)

pub returns : goal.returns
returns c =
    let name = c.in_ok-numbered.field-0 in
    let names : c.of.result ≡ name ∷ [] = c.of.ensures ∙ c.in_ok-push.ensures.items ∙ ap (λ ns. ns ++ name ∷ []) c.new-names.ensures.items in
    let long = ap length names in
    record {
      few = omega (arith, long);
      rising = subst (IsStrictlySortedBy (slice_cmp nat_cmp)) (sym names) (one_rising name);
      limit = c.requires;
    }
