-- A filter without where it lies in memory.
use Rattle.mt_model.specs.declared.value.Value.{Value}
use Rattle.mt_filter.specs.declared.filter.Field.{Field}
use Rattle.mt_filter.specs.declared.filter.Compare.{Compare}
use Rattle.mt_filter.specs.declared.filter.Filter.{Filter, Test, Not', And', Or'}

-- a test, or filters joined by `not`, `and` and `or`
pub data Tree : Type 0 where
  test : Field → Compare → Value → Tree
  not : Tree → Tree
  and : Tree → Tree → Tree
  or : Tree → Tree → Tree

-- the tree of a filter
abbrev pub tree_of : Filter → Tree
tree_of (Test field compare literal) = test field compare literal
tree_of (Not' p f) = not (tree_of f)
tree_of (And' p f q g) = and (tree_of f) (tree_of g)
tree_of (Or' p f q g) = or (tree_of f) (tree_of g)
