-- A chunk: some rows of a partition, by what was read of them in the stores.
use Rattle.std.specs.Prelude.{◌≡◌, ℕ, ◌≤◌, Bool, true, false, not, ◌&&◌, ◌||◌, bytes_eq, nat_lt, List, [], ◌∷◌, length, Option, Some, None, is_some, if◌then◌else◌}
use Rattle.std.specs.List.{list_all, AllByRecursion}
use Rattle.std.specs.Ordering.{nat_cmp, is_le}
use Rattle.std.specs.Cmp.Lexicographic.{slice_cmp}
use Rattle.mt_model.specs.declared.entity.Entity.{Entity}
use Rattle.mt_model.specs.declared.key.KeyPart.TheVariants.{Partition, Row}
use Rattle.mt_model.specs.Key.{part_fault}
use Rattle.mt_filter.specs.declared.filter.Filter.{Filter}
use Rattle.mt_chain.specs.declared.row.StoredRow.{StoredRow}
use Rattle.mt_chain.specs.declared.query.Found.{Found}
use Rattle.mt_chain.specs.declared.query.RkFrom.{RkFrom}
use Rattle.mt_chain.specs.declared.query.RkFrom.TheVariants.{Start, From}
use Rattle.mt_chain.specs.declared.query.Range.{Range}
use Rattle.mt_chain.specs.Rows.{is_from, is_upto, read_end}
use Rattle.mt_chain.specs.TwoLists.{first_key}
use Rattle.mt_chain.specs.Table.{IsListing}
use Rattle.mt_history.specs.Replies.{in_range, selected}
use Rattle.mt_meta.specs.declared.marker.NewPhase.{NewPhase}
use Rattle.mt_meta.specs.Markers.{marker_key}
use Rattle.mt_query_plan.specs.Answers.{read_table}

-- ---- what is asked

-- the range begins at the lower row bound, where that is not empty and lies after the place
abbrev pub asked_from : List ℕ → RkFrom → RkFrom
asked_from [] place = place
asked_from (byte ∷ bytes) place = if is_from place (byte ∷ bytes) then From (byte ∷ bytes) else place

-- at most 100 rows of a store, the marker among them where the range holds it
abbrev pub asked_range : List ℕ → Option (List ℕ) → RkFrom → Range
asked_range low high place = record { from = asked_from low place; upto = high; limit = Some 100 }

-- ---- reads that are odd by their keys

abbrev pub is_row_key : List ℕ → Bool
is_row_key rk = not (is_some (part_fault Row rk))

abbrev pub is_partition_key : List ℕ → Bool
is_partition_key pk = not (is_some (part_fault Partition pk))

-- the row is the marker, or its key meets the rules
abbrev pub is_readable : StoredRow → Bool
is_readable r = bytes_eq r.rk marker_key || is_row_key r.rk

-- where there is more, the read ends at a row
abbrev pub ends_at_row : Bool → Option (List ℕ) → Bool
ends_at_row false end = true
ends_at_row true None = false
ends_at_row true (Some rk) = is_row_key rk

-- all rows are readable, and where there is more the last is no marker
abbrev pub is_fair : Found → Bool
is_fair found = list_all is_readable found.rows && ends_at_row found.more (read_end found.rows found.more)

-- the next partition's key meets the rules, if there is one
abbrev pub is_fair_next : Option (List ℕ) → Bool
is_fair_next None = true
is_fair_next (Some pk) = is_partition_key pk

-- ---- where a chunk ends

-- the rows of a read that counts, and where it ends; one that does not count has none, and ends nowhere
abbrev pub rows_of : Option Found → List StoredRow
rows_of None = []
rows_of (Some found) = found.rows

abbrev pub end_of : Option Found → Option (List ℕ)
end_of None = None
end_of (Some found) = read_end found.rows found.more

-- the lesser of two ends, of which none is the end of all
abbrev pub lesser : Option (List ℕ) → Option (List ℕ) → Option (List ℕ)
lesser None b = b
lesser (Some a) None = Some a
lesser (Some a) (Some b) = if is_le (slice_cmp nat_cmp a b) then Some a else Some b

-- the reads that count end at the lesser last key of those that have more
abbrev pub reads_end : Option Found → Option Found → Option (List ℕ)
reads_end old new = lesser (end_of old) (end_of new)

-- the row key of the last of the rows
abbrev pub last_of : List Entity → Option (List ℕ)
last_of [] = None
last_of (e ∷ []) = Some e.key.rk
last_of (e ∷ f ∷ rows) = last_of (f ∷ rows)

-- where the rows fill the room, the chunk ends at the last of them
abbrev pub cut_at : ℕ → Option (List ℕ) → List Entity → Option (List ℕ)
cut_at room end rows = if nat_lt (length rows) room then end else last_of rows

-- ---- the rows of a chunk

pub record Chunk : Type 0 where
  pub rows : List Entity
  pub upto : Option (List ℕ)

-- the first rows of a partition that clients see by these rows of old and entries of new and that the filter matches, up to an end, no more than there is room
pub record AreFirst (pk : List ℕ) (filter : Option Filter) (phase : NewPhase) (room : ℕ) (end : Option (List ℕ)) (rows entries : List StoredRow) (found : List Entity) : Type 0 where
  pub few : length found ≤ room
  pub short : AllByRecursion (λ e. is_upto end e.key.rk ≡ true) found
  pub listing : IsListing found (selected (in_range pk Start (cut_at room end found)) filter (read_table phase rows entries))

-- a chunk by the reads of old and new that count
pub record IsChunk (pk : List ℕ) (filter : Option Filter) (phase : NewPhase) (room : ℕ) (old new : Option Found) (c : Chunk) : Type 0 where
  pub ends : c.upto ≡ cut_at room (reads_end old new) c.rows
  pub rows : AreFirst pk filter phase room (reads_end old new) (rows_of old) (rows_of new) c.rows

-- ---- the walk over two lists of rows

abbrev pub up_to : Option (List ℕ) → Option (List ℕ) → Option (List ℕ)
up_to end None = None
up_to end (Some rk) = if is_upto end rk then Some rk else None

-- the next key of two lists of rows, up to an end and while there is room
abbrev pub next_key : Bool → Option (List ℕ) → List StoredRow → List StoredRow → Option (List ℕ)
next_key false end rows entries = None
next_key true end rows entries = up_to end (first_key rows entries)
