-- What a query is answered by rows that were read.
use Rattle.std.specs.Prelude.{ℕ, bytes_eq, List, [], ◌∷◌, ◌++◌, Option, Some, None, option_map, if◌then◌else◌}
use Rattle.mt_model.specs.declared.entity.Entity.{Entity}
use Rattle.mt_filter.specs.declared.filter.Filter.{Filter}
use Rattle.mt_chain.specs.declared.row.Stored.{Stored}
use Rattle.mt_chain.specs.declared.row.StoredRow.{StoredRow}
use Rattle.mt_chain.specs.Rows.{key_at, row_in}
use Rattle.mt_chain.specs.Table.{Table, IsListing, entity_of}
use Rattle.mt_history.specs.Replies.{in_partition, is_matched, kept_if, selected}
use Rattle.mt_meta.specs.declared.marker.NewPhase.{NewPhase}
use Rattle.mt_meta.specs.Markers.{marker_key}
use Rattle.mt_meta.specs.Logical.{shown_over}
use Rattle.mt_meta.specs.Steps.{as_row}
use Rattle.mt_meta.specs.ReadRows.{kept_row}

-- ---- what clients see

-- the row that clients see at a row key by old's row and new's entry there; the marker is no row
abbrev pub seen_over : NewPhase → List ℕ → Option StoredRow → Option StoredRow → Option Stored
seen_over phase rk row entry = if bytes_eq rk marker_key then None else option_map as_row (shown_over phase (option_map kept_row row) (option_map kept_row entry))

-- the table that clients see by the rows of old and the entries of new that were read
abbrev pub read_table : NewPhase → List StoredRow → List StoredRow → Table
read_table phase rows entries key = seen_over phase key.rk (row_in rows key.rk) (row_in entries key.rk)

-- the answer: the rows of that table, of that partition, that the filter matches, in the order of their keys
abbrev pub IsAnswer : List ℕ → Option Filter → NewPhase → List StoredRow → List StoredRow → List Entity → Type 0
IsAnswer pk filter phase rows entries answer = IsListing answer (selected (in_partition pk) filter (read_table phase rows entries))

-- ---- the walk over two lists of rows, in the order of their keys

-- the row that a client is answered at a key, if there is one and the filter matches it
abbrev pub wanted_over : List ℕ → Option Filter → NewPhase → List ℕ → Option StoredRow → Option StoredRow → Option Stored
wanted_over pk filter phase rk row entry = kept_if (λ s. is_matched filter (key_at pk rk) s.props) (seen_over phase rk row entry)

-- a row with its key, as an answer has it
abbrev pub with_key : List ℕ → List ℕ → Stored → Entity
with_key pk rk row = entity_of (key_at pk rk, row)

-- behind others, if there is one
abbrev pub with_one : List Entity → Option Entity → List Entity
with_one found None = found
with_one found (Some e) = found ++ e ∷ []
