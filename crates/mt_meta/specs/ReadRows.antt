-- What an actor reads of a partition, and the rows that it read.
use Rattle.std.specs.Prelude.{ℕ, List, [], ◌∷◌, ◌++◌, filter, Option, Some, None, option_map}
use Rattle.mt_model.specs.declared.tag.Tag.{Tag}
use Rattle.mt_model.specs.Props.{is_visible}
use Rattle.mt_chain.specs.declared.ask.Side.{Side}
use Rattle.mt_chain.specs.declared.ask.Ask.TheVariants as ask
use Rattle.mt_chain.specs.declared.ask.StoreAsk.{StoreAsk}
use Rattle.mt_chain.specs.declared.query.PkFrom.TheVariants as start
use Rattle.mt_chain.specs.declared.query.Range.{Range}
use Rattle.mt_chain.specs.declared.row.Stored.{Stored}
use Rattle.mt_chain.specs.declared.row.StoredRow.{StoredRow}
use Rattle.mt_chain.specs.Rows.{row_in}
use Rattle.mt_chain.specs.Effect.{any_tag}
use Rattle.mt_meta.specs.declared.sight.Sight.{Sight}
use Rattle.mt_meta.specs.declared.fact.Fact.{Fact}
use Rattle.mt_meta.specs.declared.fact.Fact.TheVariants as fact
use Rattle.mt_meta.specs.Markers.{marker_key}

-- a read of the marker, and of a range of rows if there is one
abbrev pub reads_marked : Side → List ℕ → Option Range → StoreAsk
reads_marked side pk range = record { side = side; ask = ask.Query (record { pk = pk; named = marker_key ∷ []; range = range }) }

-- a row that was read, as the store keeps it
abbrev pub kept_row : StoredRow → Stored
kept_row r = record { props = r.props; tag = r.tag }

abbrev pub kept_in : List StoredRow → List ℕ → Option Stored
kept_in rows rk = option_map kept_row (row_in rows rk)

-- what clients see of a row, as a row of a table
abbrev pub sight_row : Sight → Stored
sight_row s = record { props = filter is_visible s.props.now; tag = s.tag }

-- the tag of a row, or that of none
abbrev pub tag_or : Option StoredRow → Tag
tag_or None = any_tag
tag_or (Some row) = row.tag

-- the tag of the marker among rows that were read
abbrev pub marker_tag : List StoredRow → Tag
marker_tag rows = tag_or (row_in rows marker_key)

-- what is known of a partition that a sealed old does not have: old has nothing of it, and it ends before its key with a zero byte behind it
abbrev pub closed_fact : List ℕ → Fact
closed_fact pk = fact.Closed (start.From pk) (Some (pk ++ (0 ∷ [])))
