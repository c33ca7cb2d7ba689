-- Conditional changes of one partition, and what they do to the rows.
use Rattle.std.specs.Prelude.{ℕ, ◌+◌, ◌<◌, ◌≤◌, ◌==◌, Bool, false, ◌&&◌, bytes_eq, List, [], ◌∷◌, map, length, Option, None, Some, is_none, if◌then◌else◌}
use Rattle.std.specs.List.{IsDistinct}
use Rattle.mt_model.specs.declared.tag.Tag.{Tag}
use Rattle.mt_chain.specs.declared.row.Stored.{Stored}
use Rattle.mt_chain.specs.declared.row.Put.{Put}
use Rattle.mt_chain.specs.declared.row.Put.TheVariants.{Check, Insert, Replace, Delete}
use Rattle.mt_chain.specs.Rows.{Rows, row_at, with_row, without_row}

-- the row key that a put names
abbrev pub row_key : Put → List ℕ
row_key (Check rk tag) = rk
row_key (Insert rk props) = rk
row_key (Replace rk props tag) = rk
row_key (Delete rk tag) = rk

-- what may be asked of a store in one call
pub record CanApply (puts : List Put) : Type 0 where
  pub some : 0 < length puts
  pub few : length puts ≤ 101
  pub apart : IsDistinct bytes_eq (map row_key puts)

abbrev pub is_same_tag : Tag → Tag → Bool
is_same_tag a b = (a.store == b.store) && (a.n == b.n)

-- the row is there, with that tag
abbrev pub has_tag : Tag → Option Stored → Bool
has_tag tag None = false
has_tag tag (Some stored) = is_same_tag tag stored.tag

-- the condition of a put, of the row at its key
abbrev pub holds : Put → Option Stored → Bool
holds (Check rk tag) row = has_tag tag row
holds (Insert rk props) row = is_none row
holds (Replace rk props tag) row = has_tag tag row
holds (Delete rk tag) row = has_tag tag row

-- the least put, counted from i, that does not hold
abbrev pub unmet_from : ℕ → Rows → List ℕ → List Put → Option ℕ
unmet_from i rows pk [] = None
unmet_from i rows pk (put ∷ puts) = if holds put (row_at rows pk (row_key put)) then unmet_from (i + 1) rows pk puts else Some i

-- the tag that store `store` gives next, where its counter is n
abbrev pub next_tag : ℕ → ℕ → Tag
next_tag store n = record { store = store; n = n + 1 }

-- the counter after a put: a row that is written takes the next number
abbrev pub counter_after : ℕ → Put → ℕ
counter_after n (Check rk tag) = n
counter_after n (Insert rk props) = n + 1
counter_after n (Replace rk props tag) = n + 1
counter_after n (Delete rk tag) = n

-- the tag that answers a put: that of the row that it writes, else the one that it names
abbrev pub tag_of : ℕ → ℕ → Put → Tag
tag_of store n (Check rk tag) = tag
tag_of store n (Insert rk props) = next_tag store n
tag_of store n (Replace rk props tag) = next_tag store n
tag_of store n (Delete rk tag) = tag

-- the rows after a put
abbrev pub rows_after : ℕ → ℕ → List ℕ → Put → Rows → Rows
rows_after store n pk (Check rk tag) rows = rows
rows_after store n pk (Insert rk props) rows = with_row rows pk rk (record { props = props; tag = next_tag store n })
rows_after store n pk (Replace rk props tag) rows = with_row rows pk rk (record { props = props; tag = next_tag store n })
rows_after store n pk (Delete rk tag) rows = without_row rows pk rk

-- the same for all puts of a call, in order

abbrev pub all_rows_after : ℕ → ℕ → List ℕ → List Put → Rows → Rows
all_rows_after store n pk [] rows = rows
all_rows_after store n pk (put ∷ puts) rows = all_rows_after store (counter_after n put) pk puts (rows_after store n pk put rows)

abbrev pub all_counter_after : ℕ → List Put → ℕ
all_counter_after n [] = n
all_counter_after n (put ∷ puts) = all_counter_after (counter_after n put) puts

abbrev pub tags_of : ℕ → ℕ → List Put → List Tag
tags_of store n [] = []
tags_of store n (put ∷ puts) = tag_of store n put ∷ tags_of store (counter_after n put) puts
