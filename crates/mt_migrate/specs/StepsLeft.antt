-- How many steps a migrator still takes that acts alone.
use Rattle.std.specs.Prelude.{◌≡◌, ℕ, ◌+◌, ◌*◌, ◌/◌, Bool, true, false, nat_lt, is_none, List, take, length, Option, Some, None, if◌then◌else◌}
use Rattle.std.specs.List.{AllByRecursion}
use Rattle.mt_model.specs.declared.tag.Tag.{Tag}
use Rattle.mt_chain.specs.declared.query.PkFrom.{PkFrom}
use Rattle.mt_chain.specs.declared.query.PkFrom.TheVariants as start
use Rattle.mt_chain.specs.declared.row.StoredRow.{StoredRow}
use Rattle.mt_chain.specs.declared.row.Put.{Put}
use Rattle.mt_chain.specs.Rows.{is_past, rows_within}
use Rattle.mt_chain.specs.Puts.{has_tag, unmet_from}
use Rattle.mt_meta.specs.Markers.{marker_key}
use Rattle.mt_meta.specs.Logical.{Pair, old_at, new_at}
use Rattle.mt_meta.specs.ReadRows.{marker_tag}
use Rattle.mt_migrate.specs.declared.state.Walk.{Walk}
use Rattle.mt_migrate.specs.declared.state.Walk.TheVariants.{BeforeSeal, AfterSeal}
use Rattle.mt_migrate.specs.declared.state.Pass.{Pass}
use Rattle.mt_migrate.specs.declared.state.Pass.TheVariants.{First, Second}
use Rattle.mt_migrate.specs.declared.state.Part.{Part}
use Rattle.mt_migrate.specs.declared.state.Copying.{Copying}
use Rattle.mt_migrate.specs.declared.state.Reading.{Reading}
use Rattle.mt_migrate.specs.declared.state.State.{State}
use Rattle.mt_migrate.specs.declared.state.State.TheVariants as at
use Rattle.mt_migrate.specs.Chunks.{ArePuts}
use Rattle.mt_migrate.specs.Moves.{next_rows}
use Rattle.mt_migrate.specs.RowCounts.{unread, old_rows, entries_of, lone_entries, partitions, data_in, any_partition, is_other, is_unmoved}

-- ---- what is left

-- the chunks of so many data rows but for the last: each has fifty rows of one store, of which one may be the marker
abbrev pub chunks : ℕ → ℕ
chunks n = n / 49

-- two passes over a partition, but for the last chunk of each: three steps a chunk. The second finds, beside the entries, a copy of each of old's rows
abbrev pub passes : Pair → List ℕ → ℕ
passes p pk = 3 * chunks (old_rows p pk + entries_of p pk) + 3 * chunks (2 * old_rows p pk + entries_of p pk)

-- what it takes to move partitions: ten steps each beside the visit that finds it moved, and no more than this for the passes
abbrev pub moving : (List ℕ → Bool) → Pair → ℕ
moving test p = 10 * partitions test p + (3 * data_in test p.old.rows + 2 * data_in test p.new.rows)

-- a visit that finds a partition moved takes three steps, and what comes after the last one in a walk one more; the first walk is followed by the seal and the second
abbrev pub visits : Walk → ℕ → ℕ → ℕ
visits BeforeSeal ahead all = 3 * ahead + (3 * all + 3)
visits AfterSeal ahead all = 3 * ahead + 1

-- a walk from there on
abbrev pub walk_left : Walk → PkFrom → Pair → ℕ
walk_left walk from p = visits walk (partitions (is_past from) p) (partitions any_partition p) + moving (is_unmoved p) p

-- what is left once this partition is moved
abbrev pub others_left : Part → Pair → ℕ
others_left part p = visits part.walk (partitions (is_past (start.After part.pk)) p) (partitions (is_other part.pk any_partition) p + 1) + moving (is_other part.pk (is_unmoved p)) p

-- a partition whose old marker is to be read
abbrev pub look_left : Pair → List ℕ → ℕ
look_left p pk = if is_unmoved p pk then 12 + passes p pk else 2

-- whose new marker is to be read
abbrev pub claim_left : Pair → List ℕ → ℕ
claim_left p pk = if is_unmoved p pk then 10 + passes p pk else 1

-- after a pass: the switch, the whole second pass and the end, of which the end alone follows the second
abbrev pub pass_left : Pair → List ℕ → Pass → ℕ
pass_left p pk (First marker) = 5 + 3 * chunks (2 * old_rows p pk + lone_entries p pk)
pass_left p pk Second = 1

-- a pass from there on: three steps a chunk
abbrev pub chunks_left : Pair → List ℕ → Pass → Option (List ℕ) → ℕ
chunks_left p pk pass done = 3 * chunks (unread p pk done) + 3 + pass_left p pk pass

-- after a chunk that ends there
abbrev pub chunk_left : Pair → List ℕ → Pass → Option (List ℕ) → ℕ
chunk_left p pk pass None = pass_left p pk pass
chunk_left p pk pass (Some rk) = chunks_left p pk pass (Some rk)

-- each step of a migrator that acts alone makes this less
abbrev pub steps_left : State → Pair → ℕ
steps_left (at.Walk walk from) p = walk_left walk from p
steps_left at.SealOld p = 3 * partitions any_partition p + 2 + moving (is_unmoved p) p
steps_left (at.Look part) p = others_left part p + look_left p part.pk
steps_left (at.Prepare part rows) p = others_left part p + 11 + passes p part.pk
steps_left (at.Claim part pass) p = others_left part p + claim_left p part.pk
steps_left (at.Begin part pass) p = others_left part p + 9 + passes p part.pk
steps_left (at.Takeover part pass filling) p = others_left part p + 9 + passes p part.pk
steps_left (at.ReadOld c) p = others_left c.part p + chunks_left p c.part.pk c.pass c.done
steps_left (at.ReadNew c old) p = others_left c.part p + (3 * chunks (unread p c.part.pk c.done) + 2 + pass_left p c.part.pk c.pass)
steps_left (at.Write c upto rows entries) p = others_left c.part p + (1 + chunk_left p c.part.pk c.pass upto)
steps_left (at.Switch part marker epoch) p = others_left part p + pass_left p part.pk (First marker)
steps_left (at.Finish part epoch) p = others_left part p + 1
steps_left at.Done p = 0

-- ---- what stands

-- new has the marker that the migrator made or took over
abbrev pub is_owned : Pair → List ℕ → Tag → Bool
is_owned p pk epoch = has_tag epoch (new_at p pk marker_key)

-- in the first pass old has the marker that was read or written last
abbrev pub PassStands : Pair → List ℕ → Pass → Type 0
PassStands p pk (First marker) = has_tag marker (old_at p pk marker_key) ≡ true
PassStands p pk Second = Unit {0}

-- the rows are the next that old has
abbrev pub ReadStands : Pair → Copying → Reading → Type 0
ReadStands p c old = (old.rows ≡ take 50 (rows_within p.old.rows c.part.pk (next_rows c.done None))) × (old.more ≡ nat_lt 50 (length (rows_within p.old.rows c.part.pk (next_rows c.done None))))

-- old still has a row at each of the keys, and new has what the chunk's puts ask for
abbrev pub ChunkStands : Pair → List ℕ → Option (List ℕ) → List StoredRow → List StoredRow → Type 0
ChunkStands p pk upto rows entries =
    AllByRecursion (λ r. is_none (old_at p pk r.rk) ≡ false) rows
    × ((puts : List Put) → ArePuts upto rows entries puts → unmet_from 0 p.new.rows pk puts ≡ None)

-- what a migrator has in hand stands in the stores as it was read or written, which is so while it acts alone
abbrev pub Stands : Pair → State → Type 0
Stands p (at.Walk walk from) = Unit {0}
Stands p at.SealOld = Unit {0}
Stands p (at.Look part) = Unit {0}
Stands p (at.Prepare part rows) = has_tag (marker_tag rows) (old_at p part.pk marker_key) ≡ true
Stands p (at.Claim part pass) = Unit {0}
Stands p (at.Begin part pass) = new_at p part.pk marker_key ≡ None
Stands p (at.Takeover part pass filling) = is_owned p part.pk filling ≡ true
Stands p (at.ReadOld c) = is_owned p c.part.pk c.epoch ≡ true
Stands p (at.ReadNew c old) = (is_owned p c.part.pk c.epoch ≡ true) × PassStands p c.part.pk c.pass × ReadStands p c old
Stands p (at.Write c upto rows entries) = (is_owned p c.part.pk c.epoch ≡ true) × PassStands p c.part.pk c.pass × ChunkStands p c.part.pk upto rows entries
Stands p (at.Switch part marker epoch) = (is_owned p part.pk epoch ≡ true) × (has_tag marker (old_at p part.pk marker_key) ≡ true)
Stands p (at.Finish part epoch) = is_owned p part.pk epoch ≡ true
Stands p at.Done = Unit {0}
