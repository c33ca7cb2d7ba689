-- The reference table: a finite map from keys to rows.
use Rattle.std.specs.Prelude.{◌≡◌, IsTrue, List, map, Option, None, if◌then◌else◌}
use Rattle.std.specs.Ordering.{eq_by_cmp}
use Rattle.mt_model.specs.declared.key.Key.{Key}
use Rattle.mt_model.specs.declared.entity.Entity.{Entity}
use Rattle.mt_model.specs.Key.{key_cmp}
use Rattle.mt_chain.specs.declared.row.Stored.{Stored}
use Rattle.mt_chain.specs.Rows.{Rows, are_rising, row_at}

-- at each key its row, or none
abbrev pub Table : Type 0
Table = Key → Option Stored

-- no row at any key
abbrev pub empty_table : Table
empty_table key = None

-- the table with this at a key, a row or none, and all else as it was
abbrev pub with_entry : Table → Key → Option Stored → Table
with_entry table key row other = if eq_by_cmp key_cmp key other then row else table other

-- the two tables have the same rows
abbrev pub IsSameTable : Table → Table → Type 0
IsSameTable table other = (key : Key) → table key ≡ other key

-- the table of these rows
abbrev pub table_of : Rows → Table
table_of rows key = row_at rows key.pk key.rk

-- ---- tables as lists of entities

-- a row of a table as an entity
abbrev pub entity_of : Key × Stored → Entity
entity_of row = record { key = row.0; props = row.1.props; tag = row.1.tag }

-- an entity as a row of a table
abbrev pub row_of : Entity → Key × Stored
row_of entity = (entity.key, record { props = entity.props; tag = entity.tag })

-- the rows of a table that is given as entities
abbrev pub rows_of : List Entity → Rows
rows_of entities = map row_of entities

-- these are the rows of the table, in the order of their keys
pub record IsListing (entities : List Entity) (table : Table) : Type 0 where
  pub rising : IsTrue (are_rising (rows_of entities))
  pub rows : IsSameTable (table_of (rows_of entities)) table

-- ---- finite tables

-- a table is finite: it is that of a list of rows whose keys rise
abbrev pub IsFinite : Table → Type 0
IsFinite table = (rows : Rows) × IsTrue (are_rising rows) × IsSameTable (table_of rows) table
