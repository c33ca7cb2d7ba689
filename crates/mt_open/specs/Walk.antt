-- The walk over the keys of two stores, in their order.
use Rattle.std.specs.Prelude.{◌≡◌, Bool, false, ◌||◌, IsTrue, is_some, Option, Some, None}
use Rattle.std.specs.Ordering.{is_lt, is_le}
use Rattle.std.specs.FinMap.Entries.{where_key}
use Rattle.mt_model.specs.declared.key.Key.{Key}
use Rattle.mt_model.specs.Key.{key_cmp}
use Rattle.mt_chain.specs.Rows.{Rows, row_at}

-- some row has that key
abbrev pub has_row : Rows → Key → Bool
has_row rows key = is_some (row_at rows key.pk key.rk)

-- a row of one of two lists has that key
abbrev pub has_key : Rows → Rows → Key → Bool
has_key old new key = has_row old key || has_row new key

-- no row has a key below that one
abbrev pub IsAtMost : Key → Rows → Type 0
IsAtMost key rows = (other : Key) → IsTrue (has_row rows other) → IsTrue (is_le (key_cmp key other))

-- the least key of the rows of two lists, or that they have none
abbrev pub IsFirstKey : Rows → Rows → Option Key → Type 0
IsFirstKey old new None = (key : Key) → has_key old new key ≡ false
IsFirstKey old new (Some key) = IsTrue (has_key old new key) × IsAtMost key old × IsAtMost key new

-- the rows whose keys are above a key
abbrev pub rows_past : Key → Rows → Rows
rows_past key rows = where_key key_cmp (λ k. is_lt (key_cmp key k)) rows
