-- What an entry counts where memory is shared out, and what a turn needs.
use Rattle.std.specs.Prelude.{ℕ, ◌+◌, List, length, sum_by, Option, None, Some}
use Rattle.mt_model.specs.Value.{value_size}
use Rattle.mt_filter.specs.declared.filter.Field.{Field}
use Rattle.mt_filter.specs.declared.filter.Field.TheVariants.{PartitionKey, RowKey, Property}
use Rattle.mt_filter.specs.declared.filter.Filter.{Filter}
use Rattle.mt_filter.specs.Tree.{Tree, test, not, and, or, tree_of}
use Rattle.mt_chain.specs.declared.query.RkFrom.{RkFrom}
use Rattle.mt_chain.specs.declared.query.RkFrom.TheVariants as row_place
use Rattle.mt_chain.specs.declared.query.PkFrom.{PkFrom}
use Rattle.mt_chain.specs.declared.query.PkFrom.TheVariants as place
use Rattle.mt_chain.specs.Batch.{batch_weight}
use Rattle.mt_history.specs.declared.entry.What.{What}
use Rattle.mt_history.specs.declared.entry.What.TheVariants as what
use Rattle.mt_history.specs.declared.entry.Entry.{Entry}

-- the bytes of a field's name, where each part of the key counts 16
abbrev pub field_size : Field → ℕ
field_size PartitionKey = 16
field_size RowKey = 16
field_size (Property name) = length name

-- 16 for each node of a filter, and the sizes of its names and literals
abbrev pub tree_size : Tree → ℕ
tree_size (test field compare literal) = 16 + field_size field + value_size literal
tree_size (not t) = 16 + tree_size t
tree_size (and t u) = 16 + tree_size t + tree_size u
tree_size (or t u) = 16 + tree_size t + tree_size u

-- the size of a filter, and 0 where there is none
abbrev pub filter_size : Option Filter → ℕ
filter_size None = 0
filter_size (Some filter) = tree_size (tree_of filter)

-- the bytes of a text, and 0 where there is none
abbrev pub text_size : Option (List ℕ) → ℕ
text_size None = 0
text_size (Some text) = length text

-- the bytes of the row key at which a range begins
abbrev pub row_from_size : RkFrom → ℕ
row_from_size row_place.Start = 0
row_from_size (row_place.From low) = length low
row_from_size (row_place.After low) = length low

-- the bytes of the partition key at which a range begins
abbrev pub from_size : PkFrom → ℕ
from_size (place.From low) = length low
from_size (place.After low) = length low

-- ---- weights

-- 64, and the bytes of operations, of keys and of a filter
abbrev pub weight : What → ℕ
weight (what.Batch batch tags) = batch_weight batch
weight (what.Refused batch) = batch_weight batch
weight (what.Query pk filter) = 64 + length pk + filter_size filter
weight (what.Scan pk from upto filter) = 64 + (length pk + row_from_size from + text_size upto) + filter_size filter
weight (what.Gap from to) = 64 + (from_size from + text_size to)
weight what.Fault = 64

-- the weights of all entries together
abbrev pub total_weight : List Entry → ℕ
total_weight entries = sum_by (λ e. weight e.what) entries

-- ---- needs

-- a query needs the weight of its entry
abbrev pub need_of_query : List ℕ → Option Filter → ℕ
need_of_query pk filter = 64 + length pk + filter_size filter

-- a page needs 64, its filter's size, and 4,096 for the keys of a unit
abbrev pub need_of_page : Option Filter → ℕ
need_of_page filter = 64 + filter_size filter + 4096

-- a turn that moves rows, seals or cleans needs the weight of a fault's entry
abbrev pub need_of_move : ℕ
need_of_move = 64
