-- How many rows two stores have, by their keys.
use Rattle.std.specs.Prelude.{ℕ, ◌+◌, Bool, true, not, ◌&&◌, bytes_eq, is_none, is_some, List, length, Option, None}
use Rattle.std.specs.FinMap.Entries.{where_key}
use Rattle.mt_model.specs.declared.key.Key.{Key}
use Rattle.mt_model.specs.Key.{key_cmp}
use Rattle.mt_chain.specs.Rows.{Rows, is_from}
use Rattle.mt_meta.specs.Markers.{marker_key}
use Rattle.mt_meta.specs.Logical.{Pair, old_at, new_state_at}
use Rattle.mt_meta.specs.Facts.{is_use_new}
use Rattle.mt_migrate.specs.Moves.{past}

-- how many rows have keys that pass a test
abbrev pub count_of : (Key → Bool) → Rows → ℕ
count_of test rows = length (where_key key_cmp test rows)

abbrev pub is_marker : Key → Bool
is_marker k = bytes_eq k.rk marker_key

-- a row that is no marker
abbrev pub is_data : Key → Bool
is_data k = not (is_marker k)

-- a data row of the partition, past what is done
abbrev pub is_unread : List ℕ → Option (List ℕ) → Key → Bool
is_unread pk done k = is_data k && (bytes_eq pk k.pk && is_from (past done) k.rk)

-- the data rows of a partition in both stores, past what is done
abbrev pub unread : Pair → List ℕ → Option (List ℕ) → ℕ
unread p pk done = count_of (is_unread pk done) p.old.rows + count_of (is_unread pk done) p.new.rows

-- the data rows of a partition in old, and in new
abbrev pub old_rows : Pair → List ℕ → ℕ
old_rows p pk = count_of (is_unread pk None) p.old.rows

abbrev pub entries_of : Pair → List ℕ → ℕ
entries_of p pk = count_of (is_unread pk None) p.new.rows

-- those of new at keys where old has none
abbrev pub is_lone : Pair → List ℕ → Key → Bool
is_lone p pk k = is_unread pk None k && is_none (old_at p pk k.rk)

abbrev pub lone_entries : Pair → List ℕ → ℕ
lone_entries p pk = count_of (is_lone p pk) p.new.rows

-- old's partitions whose keys pass a test
abbrev pub partitions : (List ℕ → Bool) → Pair → ℕ
partitions test p = count_of (λ k. is_marker k && test k.pk) p.old.rows

-- a store's data rows in such partitions
abbrev pub data_in : (List ℕ → Bool) → Rows → ℕ
data_in test rows = count_of (λ k. is_data k && test k.pk) rows

abbrev pub any_partition : List ℕ → Bool
any_partition pk = true

-- another partition than this one that passes a test
abbrev pub is_other : List ℕ → (List ℕ → Bool) → List ℕ → Bool
is_other pk test x = not (bytes_eq pk x) && test x

-- old has the partition, and new does not have it alone yet
abbrev pub is_unmoved : Pair → List ℕ → Bool
is_unmoved p pk = is_some (old_at p pk marker_key) && not (is_use_new (new_state_at p pk))
