-- What holds of two stores, where both tell what they hold.
use Rattle.std.proofs.Common.{◌≡◌, ℕ, Option, Some, None, refl, subst}
use Rattle.std.specs.Prelude.{IfSome}
use Rattle.mt_chain.specs.StoreCall.{Contents}
use Rattle.mt_meta.specs.Logical.{Pair, pair_of, ForPair}

-- it is shown for what they tell
pub for_pair : (old_number new_number : ℕ) (old new : Option Contents) (P : Pair → Type 0)
    → ((a b : Contents) → old ≡ Some a → new ≡ Some b → P (pair_of old_number new_number a b)) → ForPair old_number new_number old new P
for_pair old_number new_number (Some a) (Some b) P h = h a b refl refl
for_pair old_number new_number (Some a) None P h = tt
for_pair old_number new_number None new P h = tt

-- and is so of what they tell
pub at_pair : (old_number new_number : ℕ) (old new : Option Contents) (P : Pair → Type 0) (a b : Contents) → old ≡ Some a → new ≡ Some b
    → ForPair old_number new_number old new P → P (pair_of old_number new_number a b)
at_pair old_number new_number old new P a b ea eb h =
    subst (λ y. IfSome y (λ d. P (pair_of old_number new_number a d))) eb (subst (λ x. IfSome x (λ c. IfSome new (λ d. P (pair_of old_number new_number c d)))) ea h)

pub map_pair : (old_number new_number : ℕ) (old new : Option Contents) (P Q : Pair → Type 0) → ((p : Pair) → P p → Q p)
    → ForPair old_number new_number old new P → ForPair old_number new_number old new Q
map_pair old_number new_number old new P Q f h =
    for_pair old_number new_number old new Q (λ a b ea eb. f (pair_of old_number new_number a b) (at_pair old_number new_number old new P a b ea eb h))
