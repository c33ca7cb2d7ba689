-- The values of options.
use Rattle.std.specs.Prelude.{ℕ, List, [], ◌∷◌, bytes_eq, Option, Some, None, if◌then◌else◌}
use Rattle.mt_target.specs.declared.target.QueryOption.{QueryOption}

-- the value of the first option of that name
abbrev pub value_of : List ℕ → List QueryOption → Option (List ℕ)
value_of name [] = None
value_of name (o ∷ options) = if bytes_eq o.name name then Some o.value else value_of name options
