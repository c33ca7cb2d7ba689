-- How many steps a cleaner still takes that acts alone.
use Rattle.std.specs.Prelude.{◌≡◌, ℕ, ◌+◌, ◌*◌, ◌≤◌, true, not, ◌&&◌, bytes_eq, List, ◌∷◌, filter, length, Option, Some, None}
use Rattle.mt_chain.specs.Rows.{has_partition, rows_within}
use Rattle.mt_chain.specs.Puts.{unmet_from}
use Rattle.mt_meta.specs.Logical.{Pair}
use Rattle.mt_clean.specs.declared.state.State.{State}
use Rattle.mt_clean.specs.declared.state.State.TheVariants as at
use Rattle.mt_clean.specs.Cleanings.{next_rows, deletes_of, marker_put}

-- new's rows of partitions that old still has
abbrev pub shared_rows : Pair → ℕ
shared_rows p = length (filter (λ e. has_partition p.old.rows e.0.pk) p.new.rows)

-- the same of other partitions than this
abbrev pub shared_but : List ℕ → Pair → ℕ
shared_but pk p = length (filter (λ e. not (bytes_eq pk e.0.pk) && has_partition p.old.rows e.0.pk) p.new.rows)

-- new's rows of the partition past a row key
abbrev pub unread_rows : List ℕ → Option (List ℕ) → Pair → ℕ
unread_rows pk after p = length (rows_within p.new.rows pk (next_rows after))

-- what is left once a partition has no tombstones
abbrev pub rows_left : List ℕ → Pair → ℕ
rows_left pk p = 5 * length p.old.rows + 3 * shared_but pk p

-- each step of a cleaner that acts alone makes this less: a row of old weighs 5, and a row of new 3 until its partition is read, then 2
abbrev pub steps_left : State → Pair → ℕ
steps_left at.Walk p = 5 * length p.old.rows + 3 * shared_rows p + 4
steps_left (at.Tombs pk after) p = rows_left pk p + 2 * unread_rows pk after p + 3
steps_left (at.Purge pk None tombs) p = rows_left pk p + 2
steps_left (at.Purge pk (Some rk) tombs) p = rows_left pk p + 2 * unread_rows pk (Some rk) p + 4
steps_left (at.Rows pk) p = rows_left pk p + 1
steps_left (at.Drop pk marker rows more) p = rows_left pk p
steps_left at.Done p = 0

-- what a cleaner has in hand stands in the stores as it was read, which is so while it acts alone
abbrev pub Stands : Pair → State → Type 0
Stands p at.Walk = Unit {0}
Stands p (at.Tombs pk after) = has_partition p.old.rows pk ≡ true
Stands p (at.Purge pk upto tombs) = (has_partition p.old.rows pk ≡ true) × (unmet_from 0 p.new.rows pk (deletes_of tombs) ≡ None)
Stands p (at.Rows pk) = has_partition p.old.rows pk ≡ true
Stands p (at.Drop pk marker rows more) = (unmet_from 0 p.old.rows pk (marker_put marker more ∷ deletes_of rows) ≡ None) × (more ≡ true → 1 ≤ length rows)
Stands p at.Done = Unit {0}
