-- The outermost conjuncts of a filter, and the one partition that it names.
use Rattle.std.specs.Prelude.{ℕ, List, [], ◌∷◌, ◌++◌, slice_get, Option, Some, None}
use Rattle.std.specs.List.{filter_map}
use Rattle.mt_model.specs.declared.value.Value.TheVariants.{Str}
use Rattle.mt_filter.specs.declared.filter.Compare.TheVariants.{Eq}
use Rattle.mt_filter.specs.declared.filter.Field.TheVariants.{PartitionKey}
use Rattle.mt_filter.specs.Tree.{Tree, test, not, and, or}

-- the parts of a filter that `and` joins outermost, from the left
abbrev pub conjuncts : Tree → List Tree
conjuncts (and t u) = conjuncts t ++ conjuncts u
conjuncts (test field compare literal) = test field compare literal ∷ []
conjuncts (not t) = not t ∷ []
conjuncts (or t u) = or t u ∷ []

-- the text of a test of the form PartitionKey eq text
abbrev pub named_partition : Tree → Option (List ℕ)
named_partition (test PartitionKey Eq (Str text)) = Some text
named_partition _ = None

-- the text of the first conjunct of that form
abbrev pub atomic_partition : Tree → Option (List ℕ)
atomic_partition t = slice_get (filter_map named_partition (conjuncts t)) 0
