use Rattle.std.proofs.Common.{◌≡◌, ℕ, List, ◌++◌, sym, ◌⊎◌, inl, inr, ◌∙◌}
use Rattle.std.specs.declared.cmp.Ordering.{Ordering}
use Rattle.std.specs.declared.cmp.Ordering.TheVariants.{Less, Equal}
use Rattle.mt_model.proofs.Places.{cmp}
use Rattle.mt_match.specs.Bounds.{IsLeastOf}
use Rattle.mt_match.proofs.Texts.{least_left, least_right, at_most_less, at_most_equal, at_most_greater}
use Rattle.mt_match.proofs.bounds.lesser.Goals as goal

first : (a b : List ℕ) (xs ys : List (List ℕ)) (o : Ordering) → o ≡ cmp a b → (o ≡ Equal) ⊎ (o ≡ Less)
    → IsLeastOf a xs → IsLeastOf b ys → IsLeastOf a (xs ++ ys)
first a b xs ys o e (inl s) h k = least_left a b xs ys h k (at_most_equal a b (sym e ∙ s))
first a b xs ys o e (inr s) h k = least_left a b xs ys h k (at_most_less a b (sym e ∙ s))

pub returns-in-Greater : goal.returns-in-Greater
returns-in-Greater c xs ys hx hy =
    least_right c.in-Some-Some.a.now c.in-Some-Some.b.now xs ys (rw c.in-Some-Some.is-0 at hx) (rw c.in-Some-Some.is-1 at hy)
    (at_most_greater c.in-Some-Some.a.now c.in-Some-Some.b.now (sym c.cmp.ensures ∙ c.in-Greater.is))

pub returns-in-Equal : goal.returns-in-Equal
returns-in-Equal c xs ys hx hy =
    first c.in-Some-Some.a.now c.in-Some-Some.b.now xs ys c.cmp.result c.cmp.ensures c.in-Equal.is (rw c.in-Some-Some.is-0 at hx) (rw c.in-Some-Some.is-1 at hy)
