-- The rows of a store: a list of entries in the order of their keys.
use Rattle.std.specs.Prelude.{ℕ, Bool, true, false, not, ◌&&◌, nat_lt, bytes_eq, List, [], ◌∷◌, map, filter, take, length, Option, None, Some, option_map, if◌then◌else◌}
use Rattle.std.specs.List.{list_any, filter_map, find as first_where}
use Rattle.std.specs.List.Sorted.{IsStrictlySortedBy}
use Rattle.std.specs.Ordering.{nat_cmp, is_lt, is_le, eq_by_cmp}
use Rattle.std.specs.Cmp.Lexicographic.{slice_cmp}
use Rattle.std.specs.FinMap.Entries.{find, put, where_key, is_sorted}
use Rattle.mt_model.specs.declared.key.Key.{Key}
use Rattle.mt_model.specs.Key.{key_cmp}
use Rattle.mt_chain.specs.declared.row.Stored.{Stored}
use Rattle.mt_chain.specs.declared.row.StoredRow.{StoredRow}
use Rattle.mt_chain.specs.declared.query.RkFrom.{RkFrom}
use Rattle.mt_chain.specs.declared.query.RkFrom.TheVariants as place
use Rattle.mt_chain.specs.declared.query.PkFrom.{PkFrom}
use Rattle.mt_chain.specs.declared.query.PkFrom.TheVariants as start
use Rattle.mt_chain.specs.declared.query.Range.{Range}

abbrev pub Rows : Type 0
Rows = List (Key × Stored)

abbrev pub key_at : List ℕ → List ℕ → Key
key_at pk rk = record { pk = pk; rk = rk }

-- each key is below those after it
abbrev pub are_rising : Rows → Bool
are_rising rows = is_sorted key_cmp rows

-- the row at a key
abbrev pub row_at : Rows → List ℕ → List ℕ → Option Stored
row_at rows pk rk = find key_cmp (key_at pk rk) rows

-- the rows with this one at a key, over the one that was there
abbrev pub with_row : Rows → List ℕ → List ℕ → Stored → Rows
with_row rows pk rk stored = put key_cmp (key_at pk rk) stored rows

-- the rows but for the one at a key
abbrev pub without_row : Rows → List ℕ → List ℕ → Rows
without_row rows pk rk = where_key key_cmp (λ k. not (eq_by_cmp key_cmp (key_at pk rk) k)) rows

-- ---- rows of one partition

-- each row key is below those after it
abbrev pub RisingRows : List StoredRow → Type 0
RisingRows rows = IsStrictlySortedBy (slice_cmp nat_cmp) (map (λ s. s.rk) rows)

-- the row of that row key
abbrev pub row_in : List StoredRow → List ℕ → Option StoredRow
row_in rows rk = first_where (λ (r : StoredRow). bytes_eq rk r.rk) rows

-- the row key of the last of the rows
abbrev pub last_key : List StoredRow → Option (List ℕ)
last_key [] = None
last_key (r ∷ []) = Some r.rk
last_key (r ∷ s ∷ rows) = last_key (s ∷ rows)

-- where rows that were read end: at the last row key where their range has more, else nowhere
abbrev pub read_end : List StoredRow → Bool → Option (List ℕ)
read_end rows more = if more then last_key rows else None

-- some row has that partition key
abbrev pub has_partition : Rows → List ℕ → Bool
has_partition rows pk = list_any (λ e. bytes_eq pk e.0.pk) rows

-- a row as a reply shows it
abbrev pub shown : List ℕ → Stored → StoredRow
shown rk stored = record { rk = rk; props = stored.props; tag = stored.tag }

-- those of the named rows of a partition that are there, in the order named
abbrev pub named_rows : Rows → List ℕ → List (List ℕ) → List StoredRow
named_rows rows pk names = filter_map (λ rk. option_map (shown rk) (row_at rows pk rk)) names

-- the row key lies at or after the place where a range begins
abbrev pub is_from : RkFrom → List ℕ → Bool
is_from place.Start rk = true
is_from (place.From low) rk = is_le (slice_cmp nat_cmp low rk)
is_from (place.After low) rk = is_lt (slice_cmp nat_cmp low rk)

-- the row key is not past the end of a range, which belongs to it
abbrev pub is_upto : Option (List ℕ) → List ℕ → Bool
is_upto None rk = true
is_upto (Some high) rk = is_le (slice_cmp nat_cmp rk high)

abbrev pub is_within : Range → List ℕ → Bool
is_within range rk = is_from range.from rk && is_upto range.upto rk

-- the rows of a partition in a range, in order
abbrev pub rows_within : Rows → List ℕ → Range → List StoredRow
rows_within rows pk range = map (λ e. shown e.0.rk e.1) (filter (λ e. bytes_eq pk e.0.pk && is_within range e.0.rk) rows)

-- the first rows up to a limit
abbrev pub limited : {A : Type 0} → Option ℕ → List A → List A
limited None xs = xs
limited (Some n) xs = take n xs

-- there are more than the limit
abbrev pub is_beyond : {A : Type 0} → Option ℕ → List A → Bool
is_beyond None xs = false
is_beyond (Some n) xs = nat_lt n (length xs)

-- the partition key lies at or after a place
abbrev pub is_past : PkFrom → List ℕ → Bool
is_past (start.From low) pk = is_le (slice_cmp nat_cmp low pk)
is_past (start.After low) pk = is_lt (slice_cmp nat_cmp low pk)
