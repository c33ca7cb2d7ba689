-- A word that stands in a value.
use Rattle.std.proofs.Common.{◌≡◌, ℕ, true, List, [], ◌∷◌, ap}
use Rattle.std.specs.Prelude.{◌||◌}
use Rattle.mt_options.specs.Levels.{begins_with, stands_in}

-- what stands at the front stands in the value
pub stands_here : (word value : List ℕ) → begins_with word value ≡ true → stands_in word value ≡ true
stands_here word [] e = e
stands_here word (c ∷ value) e = ap (λ b. b || stands_in word value) e
