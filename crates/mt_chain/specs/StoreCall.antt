-- The meaning of the four store calls, over the plain contents of a store.
use Rattle.std.specs.Prelude.{◌≡◌, ℕ, ◌+◌, ◌^◌, ◌≤◌, Bool, true, false, not, ◌&&◌, IsTrue, IfSome, All, Contains, List, [], length, Option, None, Some, if◌then◌else◌}
use Rattle.std.specs.List.Sorted.{IsStrictlySortedBy}
use Rattle.std.specs.Ordering.{nat_cmp, is_le}
use Rattle.std.specs.Cmp.Lexicographic.{slice_cmp}
use Rattle.mt_model.specs.declared.tag.Tag.{Tag}
use Rattle.mt_chain.specs.declared.row.StoredRow.{StoredRow}
use Rattle.mt_chain.specs.declared.row.Put.{Put}
use Rattle.mt_chain.specs.declared.query.PkFrom.{PkFrom}
use Rattle.mt_chain.specs.declared.query.Range.{Range}
use Rattle.mt_chain.specs.declared.query.RangeQuery.{RangeQuery}
use Rattle.mt_chain.specs.declared.query.Found.{Found}
use Rattle.mt_chain.specs.Rows.{Rows, are_rising, named_rows, rows_within, is_within, limited, is_beyond, has_partition, is_past}
use Rattle.mt_chain.specs.Puts.{unmet_from, all_rows_after, all_counter_after, tags_of}

-- what a store keeps: its rows in the order of their keys, whether it is sealed, and the number of tags that it gave
pub record Contents : Type 0 where
  pub rows : Rows
  pub sealed : Bool
  pub counter : ℕ

pub record IsContents (c : Contents) : Type 0 where
  pub rising : IsTrue (are_rising c.rows)

-- what comes of puts
pub data Outcome : Type 0 where
  Done : Contents → List Tag → Outcome
  UnmetAt : ℕ → Outcome
  SealedOff : Outcome

abbrev pub done : ℕ → Contents → List ℕ → List Put → Outcome
done store c pk puts = Done (record { rows = all_rows_after store c.counter pk puts c.rows; sealed = c.sealed; counter = all_counter_after c.counter puts }) (tags_of store c.counter puts)

abbrev pub unless_unmet : Option ℕ → Outcome → Outcome
unless_unmet None outcome = outcome
unless_unmet (Some i) outcome = UnmetAt i

-- the store is sealed, and the partition has no row
abbrev pub is_sealed_off : Contents → List ℕ → Bool
is_sealed_off c pk = c.sealed && not (has_partition c.rows pk)

-- a sealed store takes no birth of a partition; else the least put that does not hold refuses; else all are done at once
abbrev pub judge : ℕ → Contents → List ℕ → List Put → Outcome
judge store c pk puts = if is_sealed_off c pk then SealedOff else unless_unmet (unmet_from 0 c.rows pk puts) (done store c pk puts)

-- the counter stays within its end, 2^62, even if each put takes a tag
abbrev pub HasRoom : List Put → Contents → Type 0
HasRoom puts c = c.counter + length puts ≤ 2 ^ 62

-- what may be asked for in one query
pub record CanQuery (q : RangeQuery) : Type 0 where
  pub few : length q.named ≤ 101
  pub rising : IsStrictlySortedBy (slice_cmp nat_cmp) q.named
  pub limit : IfSome q.range (λ range. IfSome range.limit (λ n. 1 ≤ n))

abbrev pub range_answer : Rows → List ℕ → Option Range → List StoredRow
range_answer rows pk None = []
range_answer rows pk (Some range) = limited range.limit (rows_within rows pk range)

abbrev pub range_has_more : Rows → List ℕ → Option Range → Bool
range_has_more rows pk None = false
range_has_more rows pk (Some range) = is_beyond range.limit (rows_within rows pk range)

-- the answer to a query
pub record IsFound (q : RangeQuery) (found : Found) (c : Contents) : Type 0 where
  pub named : found.named ≡ named_rows c.rows q.pk q.named
  pub rows : found.rows ≡ range_answer c.rows q.pk q.range
  pub more : found.more ≡ range_has_more c.rows q.pk q.range
  pub sealed : found.sealed ≡ c.sealed

abbrev pub AtMost : Option ℕ → ℕ → Type 0
AtMost None n = Unit {0}
AtMost (Some limit) n = n ≤ limit

-- the rows of an answer lie in its range and limit; without a range there are none
abbrev pub FitsRange : Option Range → Found → Type 0
FitsRange None found = (found.rows ≡ []) × (found.more ≡ false)
FitsRange (Some range) found = All (λ r. IsTrue (is_within range r.rk)) found.rows × AtMost range.limit (length found.rows)

-- what the answer to a query has, whatever the store tells
pub record FitsQuery (q : RangeQuery) (found : Found) : Type 0 where
  pub named : All (λ r. Contains q.named r.rk) found.named
  pub rows : FitsRange q.range found

-- the least partition key with a row at or after a place
abbrev pub IsNext : PkFrom → Option (List ℕ) → Rows → Type 0
IsNext at None rows = (pk : List ℕ) → is_past at pk ≡ true → has_partition rows pk ≡ false
IsNext at (Some pk) rows = (is_past at pk ≡ true) × (has_partition rows pk ≡ true)
    × ((other : List ℕ) → is_past at other ≡ true → has_partition rows other ≡ true → is_le (slice_cmp nat_cmp pk other) ≡ true)

abbrev pub sealed_of : Contents → Contents
sealed_of c = record { rows = c.rows; sealed = true; counter = c.counter }
