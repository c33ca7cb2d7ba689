use Rattle.std.proofs.Common.{◌≡◌, ℕ, List, ◌++◌, sym, ◌⊎◌, inl, inr, ◌∙◌}
use Rattle.std.specs.declared.cmp.Ordering.{Ordering}
use Rattle.std.specs.declared.cmp.Ordering.TheVariants.{Equal, Greater}
use Rattle.mt_model.proofs.Places.{cmp}
use Rattle.mt_match.specs.Bounds.{IsGreatestOf}
use Rattle.mt_match.proofs.Texts.{greatest_left, greatest_right, at_most_less, at_most_turned_equal, at_most_greater}
use Rattle.mt_match.proofs.bounds.greater.Goals as goal

first : (a b : List ℕ) (xs ys : List (List ℕ)) (o : Ordering) → o ≡ cmp a b → (o ≡ Equal) ⊎ (o ≡ Greater)
    → IsGreatestOf a xs → IsGreatestOf b ys → IsGreatestOf a (xs ++ ys)
first a b xs ys o e (inl s) h k = greatest_left a b xs ys h k (at_most_turned_equal a b (sym e ∙ s))
first a b xs ys o e (inr s) h k = greatest_left a b xs ys h k (at_most_greater a b (sym e ∙ s))

pub returns-in-Less : goal.returns-in-Less
returns-in-Less c xs ys hx hy =
    greatest_right c.in-Some-Some.a.now c.in-Some-Some.b.now xs ys (rw c.in-Some-Some.is-0 at hx) (rw c.in-Some-Some.is-1 at hy)
    (at_most_less c.in-Some-Some.a.now c.in-Some-Some.b.now (sym c.cmp.ensures ∙ c.in-Less.is))

pub returns-in-Equal : goal.returns-in-Equal
returns-in-Equal c xs ys hx hy =
    first c.in-Some-Some.a.now c.in-Some-Some.b.now xs ys c.cmp.result c.cmp.ensures c.in-Equal.is (rw c.in-Some-Some.is-0 at hx) (rw c.in-Some-Some.is-1 at hy)
