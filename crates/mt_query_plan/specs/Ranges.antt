-- The range of row keys that a filter leaves.
use Rattle.std.specs.Prelude.{ℕ, List, [], ◌∷◌, Option, Some, None}
use Rattle.mt_model.specs.declared.key.KeyPart.TheVariants.{Row}
use Rattle.mt_filter.specs.declared.filter.Filter.{Filter}
use Rattle.mt_filter.specs.Tree.{tree_of}
use Rattle.mt_match.specs.Bounds.{low_texts, high_texts, greatest, least}
use Rattle.mt_chain.specs.declared.query.RkFrom.{RkFrom}
use Rattle.mt_chain.specs.declared.query.RkFrom.TheVariants.{Start, From}
use Rattle.mt_chain.specs.declared.query.Range.{Range}

-- the row keys below and above which a filter matches nothing
abbrev pub row_low : Option Filter → List ℕ
row_low None = []
row_low (Some filter) = greatest (low_texts Row (tree_of filter))

abbrev pub row_high : Option Filter → Option (List ℕ)
row_high None = None
row_high (Some filter) = least (high_texts Row (tree_of filter))

-- from the start where there is no lower key
abbrev pub from_low : List ℕ → RkFrom
from_low [] = Start
from_low (byte ∷ bytes) = From (byte ∷ bytes)

-- the range between them, both ends in it, without limit
abbrev pub range_of : Option Filter → Range
range_of filter = record { from = from_low (row_low filter); upto = row_high filter; limit = None }
