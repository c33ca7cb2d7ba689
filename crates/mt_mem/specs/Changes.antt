-- What puts that hold do to the rows of a store: what becomes of the keys that they change.
use Rattle.std.specs.Prelude.{◌≡◌, ℕ, ◌+◌, ◌≤◌, Bool, true, not, List, [], ◌∷◌, ◌++◌, map, Option, Some, None}
use Rattle.std.specs.List.{AllByRecursion, IsDistinct}
use Rattle.std.specs.Ordering.{nat_cmp, is_lt, is_le, eq_by_cmp}
use Rattle.std.specs.declared.cmp.Ordering.TheVariants.{Less}
use Rattle.std.specs.Cmp.Lexicographic.{slice_cmp}
use Rattle.std.specs.FinMap.Entries.{put, where_key}
use Rattle.mt_model.specs.declared.key.Key.{Key}
use Rattle.mt_model.specs.Key.{key_cmp}
use Rattle.mt_chain.specs.declared.row.Stored.{Stored}
use Rattle.mt_chain.specs.declared.row.Put.{Put}
use Rattle.mt_chain.specs.declared.row.Put.TheVariants.{Check, Insert, Replace, Delete}
use Rattle.mt_chain.specs.Rows.{Rows, key_at}
use Rattle.mt_chain.specs.Puts.{next_tag, counter_after, all_rows_after, all_counter_after, tags_of}
use Rattle.mt_mem.specs.declared.change.Change.{Change}
use Rattle.mt_mem.specs.declared.change.Change.TheVariants.{Write, Remove}
use Rattle.mt_mem.specs.declared.change.Plan.{Plan}
use Rattle.mt_mem.specs.Entries.{Row, entry, entries, stored}
use Rattle.mt_mem.specs.Rewriting.{Rewriting}

-- ---- edits

-- what becomes of a key: this is stored there, or nothing is
abbrev pub Edit : Type 0
Edit = Key × Option Stored

-- the rows where that is stored at a key, or nothing is
abbrev pub rows_with : Key → Option Stored → Rows → Rows
rows_with key (Some row) rows = put key_cmp key row rows
rows_with key None rows = where_key key_cmp (λ k. not (eq_by_cmp key_cmp key k)) rows

-- the rows after edits, in order
abbrev pub edited : List Edit → Rows → Rows
edited [] rows = rows
edited (edit ∷ edits) rows = edited edits (rows_with edit.0 edit.1 rows)

-- edits of one partition, of distinct keys
pub record AreEdits (part : List ℕ) (edits : List Edit) : Type 0 where
  pub own : AllByRecursion (λ e. e.0.pk ≡ part) edits
  pub apart : IsDistinct (eq_by_cmp key_cmp) (map (λ e. e.0) edits)

-- ---- changes

-- the row key of a change
abbrev pub changed_key : Change → List ℕ
changed_key (Write row) = row.1.rk
changed_key (Remove rk) = rk.now

-- a change comes before another by their row keys
abbrev pub is_before : Change → Change → Bool
is_before a b = is_lt (slice_cmp nat_cmp (changed_key a) (changed_key b))

-- what becomes of the key of a change
abbrev pub edit_of : List ℕ → Change → Edit
edit_of pk (Write row) = ((entry row).0, Some (stored row.1))
edit_of pk (Remove rk) = (key_at pk rk.now, None)

-- the same for changes, in order
abbrev pub edits_of : List ℕ → List Change → List Edit
edits_of pk changes = map (edit_of pk) changes

-- what becomes of the key of a put, if the put changes anything
abbrev pub edit_by : ℕ → ℕ → List ℕ → Put → List Edit
edit_by store n pk (Check rk tag) = []
edit_by store n pk (Insert rk props) = (key_at pk rk, Some (record { props = props; tag = next_tag store n })) ∷ []
edit_by store n pk (Replace rk props tag) = (key_at pk rk, Some (record { props = props; tag = next_tag store n })) ∷ []
edit_by store n pk (Delete rk tag) = (key_at pk rk, None) ∷ []

-- the same for puts, in order
abbrev pub edits_by : ℕ → ℕ → List ℕ → List Put → List Edit
edits_by store n pk [] = []
edits_by store n pk (put ∷ puts) = edit_by store n pk put ++ edits_by store (counter_after n put) pk puts

-- the change does what the put does
abbrev pub IsChange : ℕ → ℕ → List ℕ → Put → Option Change → Type 0
IsChange store n pk put None = edit_by store n pk put ≡ []
IsChange store n pk put (Some change) = edit_by store n pk put ≡ edit_of pk change ∷ []

-- the plan of these puts of a partition, in a store of that number and counter
pub record IsPlan (store n : ℕ) (part : List ℕ) (puts : List Put) (plan : Plan) : Type 0 where
  pub edits : AreEdits part (edits_of part plan.changes.items)
  pub rows : (rows : Rows) → edited (edits_of part plan.changes.items) rows ≡ all_rows_after store n part puts rows
  pub tags : plan.tags.items ≡ tags_of store n puts
  pub counter : plan.counter ≡ all_counter_after n puts

-- ---- one step of the pass

-- in front of rows, what is stored at a key, if anything is
abbrev pub with_first : Key → Option Stored → Rows → Rows
with_first key (Some row) rows = (key, row) ∷ rows
with_first key None rows = rows

-- the rows below a key were written, and the row at the key, if there was one, was not
pub record ReadsTo (key : Key) (s t : Rewriting) : Type 0 where
  pub passed : List Row
  pub written : t.written ≡ s.written ++ passed
  pub below : AllByRecursion (λ e. key_cmp e.0 key ≡ Less) (entries passed)
  pub rest : (row : Option Stored) → rows_with key row (entries s.left) ≡ entries passed ++ with_first key row (entries t.left)
  pub spare : s.spare ≤ t.spare

-- of what an edit makes of the rows left, those up to its key were written, and the others are left
pub record Makes (edit : Edit) (s t : Rewriting) : Type 0 where
  pub passed : List Row
  pub written : t.written ≡ s.written ++ passed
  pub upto : AllByRecursion (λ e. is_le (key_cmp e.0 edit.0) ≡ true) (entries passed)
  pub rest : rows_with edit.0 edit.1 (entries s.left) ≡ entries passed ++ entries t.left
  pub spare : s.spare ≤ t.spare + 1
