-- A store that is read whole: what the parts of the reading say.
use Rattle.std.specs.Prelude.{◌≡◌, ℕ, ◌≤◌, Bool, true, false, not, ◌&&◌, IsTrue, IfSome, bytes_eq, List, [], ◌++◌, map, Option, None, Some, option_map, Result, Ok, Err, if◌then◌else◌}
use Rattle.std.specs.List.{AllByRecursion}
use Rattle.std.specs.List.Sorted.{IsStrictlySortedBy}
use Rattle.std.specs.Ordering.{nat_cmp}
use Rattle.std.specs.Cmp.Lexicographic.{slice_cmp}
use Rattle.std.specs.FinMap.Entries.{where_key}
use Rattle.mt_model.specs.declared.key.Key.{Key}
use Rattle.mt_model.specs.Key.{key_cmp}
use Rattle.mt_chain.specs.declared.row.Stored.{Stored}
use Rattle.mt_chain.specs.declared.row.StoredRow.{StoredRow}
use Rattle.mt_chain.specs.declared.query.RkFrom.{RkFrom}
use Rattle.mt_chain.specs.declared.query.RkFrom.TheVariants.{After}
use Rattle.mt_chain.specs.declared.query.PkFrom.{PkFrom}
use Rattle.mt_chain.specs.declared.query.PkFrom.TheVariants as start
use Rattle.mt_chain.specs.declared.query.RangeQuery.{RangeQuery}
use Rattle.mt_chain.specs.declared.query.Found.{Found}
use Rattle.mt_chain.specs.declared.query.Next.{Next}
use Rattle.mt_chain.specs.Rows.{last_key, Rows, key_at, are_rising, is_from}
use Rattle.mt_chain.specs.Places.{is_before, is_passed}
use Rattle.mt_chain.specs.StoreCall.{Contents, IsContents}
use Rattle.mt_chain.specs.Store.{Store, Onward, FaultsBy, Rose, Counted, Same, Queried, NextShows}
use Rattle.mt_open.specs.declared.reading.Loaded.{Loaded}
use Rattle.mt_open.specs.declared.reading.ReadFault.{ReadFault}
use Rattle.mt_open.specs.declared.reading.ReadFault.TheVariants.{Failed, NoMemory}

-- ---- the whole reading

-- the fault is one of the store
abbrev pub is_failure : ReadFault → Bool
is_failure Failed = true
is_failure NoMemory = false

-- the store failed
abbrev pub has_failed : {A : Type 0} → Result A ReadFault → Bool
has_failed (Ok a) = false
has_failed (Err fault) = is_failure fault

-- any calls were made of a store, of which the last failed or none did: its number stays, no count falls, and that of faults rises where one failed alone
pub record Passed (failed : Bool) (s t : Store) : Type 0 where
  pub number : t.number ≡ s.number
  pub calls : s.calls ≤ t.calls
  pub grew : s.faults ≤ t.faults
  pub faults : FaultsBy failed s t

-- the contents are as before
abbrev pub AsBefore : Store → Store → Type 0
AsBefore s t = Onward Same s.told t.told

-- all that the store holds was read, and nothing changed
abbrev pub IsRead : Rows → Bool → Contents → Contents → Type 0
IsRead rows sealed before after = (after ≡ before) × (rows ≡ before.rows) × (sealed ≡ before.sealed)

-- what was read: the store was called, and where it tells, it is what it holds, whose keys rise
abbrev pub ReadShows : Result Loaded ReadFault → Store → Store → Type 0
ReadShows (Ok loaded) s t = Rose s.calls t.calls × Onward (IsRead loaded.rows loaded.sealed) s.told t.told × IfSome t.told IsContents
ReadShows (Err fault) s t = AsBefore s t

-- what comes of reading a store
pub record ReadsStore (s : Store) (r : Result Loaded ReadFault) (t : Store) : Type 0 where
  pub passed : Passed (has_failed r) s t
  pub shows : ReadShows r s t

-- ---- a chunk of a partition

-- a row of a partition with its key
abbrev pub keyed_row : List ℕ → StoredRow → Key × Stored
keyed_row pk row = (key_at pk row.rk, record { props = row.props; tag = row.tag })

-- the rows of a partition with their keys
abbrev pub keyed : List ℕ → List StoredRow → Rows
keyed pk rows = map (keyed_row pk) rows

-- what is asked for: the first hundred rows of a partition from a place on
abbrev pub chunk_query : List ℕ → RkFrom → RangeQuery
chunk_query pk from = record { pk = pk; named = []; range = Some (record { from = from; upto = None; limit = Some 100 }) }

-- past the last row of an answer that has more
abbrev pub place_after : Found → Option RkFrom
place_after found = if found.more then option_map After (last_key found.rows) else None

-- a chunk was answered, put after the rows that were read, and the reading goes on past it
pub record TakesChunk (s : Store) (pk : List ℕ) (from : RkFrom) (old now : Rows) (place : Option RkFrom) (found : Found) (t : Store) : Type 0 where
  pub counted : Counted s t
  pub queried : Queried (chunk_query pk from) (Ok found) s t
  pub rising : IsStrictlySortedBy (slice_cmp nat_cmp) (map (λ r. r.rk) found.rows)
  pub rows : now ≡ old ++ keyed pk found.rows
  pub goes_on : place ≡ place_after found

abbrev pub ChunkShows : Store → List ℕ → RkFrom → Rows → Result (Option RkFrom) ReadFault → Rows → Store → Type 0
ChunkShows s pk from old (Ok place) now t = (found : Found) × TakesChunk s pk from old now place found t
ChunkShows s pk from old (Err fault) now t = AsBefore s t

-- what comes of reading a chunk
pub record ReadsChunk (s : Store) (pk : List ℕ) (from : RkFrom) (old : Rows) (r : Result (Option RkFrom) ReadFault) (now : Rows) (t : Store) : Type 0 where
  pub passed : Passed (has_failed r) s t
  pub shows : ChunkShows s pk from old r now t

abbrev pub QueryShows : RangeQuery → Result Found ReadFault → Store → Store → Type 0
QueryShows query (Ok found) s t = Counted s t × Queried query (Ok found) s t
QueryShows query (Err fault) s t = AsBefore s t

-- ---- a partition

-- rows whose keys rise, and all pass a test
pub record AllPass (test : Key → Bool) (rows : Rows) : Type 0 where
  pub rising : IsTrue (are_rising rows)
  pub each : AllByRecursion (λ e. test e.0 ≡ true) rows

-- the rows are those before and then the store's whose keys pass
abbrev pub IsReadTo : Rows → (Key → Bool) → Rows → Contents → Contents → Type 0
IsReadTo old test rows before after = (after ≡ before) × (rows ≡ old ++ where_key key_cmp test before.rows)

-- the key is of the partition, and lies before a place in it
abbrev pub is_before_in : List ℕ → RkFrom → Key → Bool
is_before_in pk from key = bytes_eq pk key.pk && not (is_from from key.rk)

abbrev pub is_in : List ℕ → Key → Bool
is_in pk key = bytes_eq pk key.pk

-- a partition was read up to a place in it
pub record ReadUpTo (s : Store) (pk : List ℕ) (old : Rows) (from : RkFrom) (now : Rows) (t : Store) : Type 0 where
  pub passed : Passed false s t
  pub shape : AllPass (is_before pk from) now
  pub told : Onward (IsReadTo old (is_before_in pk from) now) s.told t.told

abbrev pub PartitionShows : Store → List ℕ → Rows → Result (Unit {0}) ReadFault → Rows → Store → Type 0
PartitionShows s pk old (Ok u) now t = AllPass (is_passed (start.After pk)) now × Onward (IsReadTo old (is_in pk) now) s.told t.told
PartitionShows s pk old (Err fault) now t = AsBefore s t

-- what comes of reading a partition
pub record ReadsPartition (s : Store) (pk : List ℕ) (old : Rows) (r : Result (Unit {0}) ReadFault) (now : Rows) (t : Store) : Type 0 where
  pub passed : Passed (has_failed r) s t
  pub shows : PartitionShows s pk old r now t

-- whether it is Ok, or else the fault
abbrev pub without_value : {A : Type 0} → Result A ReadFault → Result (Unit {0}) ReadFault
without_value (Ok a) = Ok tt
without_value (Err fault) = Err fault

-- ---- the walk over partitions

abbrev pub NextReads : PkFrom → Result Next ReadFault → Store → Store → Type 0
NextReads at (Ok next) s t = Counted s t × NextShows at (Ok next) s t
NextReads at (Err fault) s t = AsBefore s t

-- what comes of asking for the next partition
pub record AsksNext (s : Store) (at : PkFrom) (r : Result Next ReadFault) (t : Store) : Type 0 where
  pub passed : Passed (has_failed r) s t
  pub shows : NextReads at r s t

-- the partitions before a place were read
pub record Walked (s : Store) (at : PkFrom) (rows : Rows) (t : Store) : Type 0 where
  pub passed : Passed false s t
  pub shape : AllPass (is_passed at) rows
  pub told : Onward (IsReadTo [] (is_passed at) rows) s.told t.told
