-- Which entries may come next, and which histories are legal.
use Rattle.std.specs.Prelude.{◌≡◌, ◌≢◌, ℕ, ◌+◌, Bool, true, false, ◌&&◌, nat_eq, All, Contains, MatchOption, IsSome, List, [], ◌∷◌, ◌++◌, map, filter, length, Option, None, Some, option_map}
use Rattle.std.specs.List.{zip, flat_map, last_or, AllPairs}
use Rattle.std.specs.Ordering.{nat_cmp, is_lt}
use Rattle.std.specs.Cmp.Lexicographic.{slice_cmp}
use Rattle.mt_model.specs.declared.key.Key.{Key}
use Rattle.mt_model.specs.declared.tag.Tag.{Tag}
use Rattle.mt_chain.specs.declared.row.Stored.{Stored}
use Rattle.mt_chain.specs.declared.op.Op.{Op}
use Rattle.mt_chain.specs.declared.op.Op.TheVariants.{Delete}
use Rattle.mt_chain.specs.declared.query.PkFrom.{PkFrom}
use Rattle.mt_chain.specs.Rows.{is_past}
use Rattle.mt_chain.specs.Table.{Table}
use Rattle.mt_chain.specs.Effect.{op_key}
use Rattle.mt_chain.specs.Batch.{Tagged, refusal_of}
use Rattle.mt_history.specs.declared.entry.What.{What}
use Rattle.mt_history.specs.declared.entry.What.TheVariants as what
use Rattle.mt_history.specs.declared.entry.Entry.{Entry}
use Rattle.mt_history.specs.Window.{Window, begun, table_at_end}

-- ---- tags of writes

-- the operation leaves a row: it is no delete
abbrev pub is_write : Op → Bool
is_write (Delete key cond) = false
is_write op = true

-- the tags of those operations of a batch that leave rows
abbrev pub tags_written : List Op → List Tag → List Tag
tags_written batch tags = map (λ o. o.1) (filter (λ o. is_write o.0) (zip batch tags))

-- the tags of the rows that an entry wrote
abbrev pub entry_tags : What → List Tag
entry_tags (what.Batch batch tags) = tags_written batch tags
entry_tags _ = []

-- the tags of the rows that these entries wrote, in order
abbrev pub all_tags : List Entry → List Tag
all_tags entries = flat_map (λ e. entry_tags e.what) entries

-- a row of the table has the tag
abbrev pub HasTag : Table → Tag → Type 0
HasTag table tag = (key : Key) × (row : Stored) × (table key ≡ Some row) × (row.tag ≡ tag)

-- the tag is new: neither the base has it, nor did an entry of the window write it
pub record IsNew (w : Window) (tag : Tag) : Type 0 where
  pub base : HasTag w.base tag → ⊥
  pub entries : Contains (all_tags w.entries) tag → ⊥

-- ---- what an entry says of its place

-- the tag that a delete is answered is that of the row that goes
abbrev pub IsGone : Table → Tagged → Type 0
IsGone table o = is_write o.0 ≡ false → option_map (λ row. row.tag) (table (op_key o.0)) ≡ Some o.1

-- the batch is not refused, each operation has a tag, those of its writes are new and differ, and those of its deletes are of the rows that go
pub record IsLegalBatch (w : Window) (batch : List Op) (tags : List Tag) : Type 0 where
  pub accepted : refusal_of batch (table_at_end w) ≡ None
  pub each : length tags ≡ length batch
  pub apart : AllPairs (λ a b. a ≢ b) (tags_written batch tags)
  pub fresh : All (IsNew w) (tags_written batch tags)
  pub gone : All (IsGone (table_at_end w)) (zip batch tags)

-- the partition key lies before the end of a gap, which does not belong to it
abbrev pub is_short_of : Option (List ℕ) → List ℕ → Bool
is_short_of None pk = true
is_short_of (Some high) pk = is_lt (slice_cmp nat_cmp pk high)

-- no row of the table has a partition key from the one place on and before the other
abbrev pub IsGap : PkFrom → Option (List ℕ) → Table → Type 0
IsGap from to table = (key : Key) → (is_past from key.pk && is_short_of to key.pk) ≡ true → table key ≡ None

-- what the entry says is true at the end of the window
abbrev pub IsTrueAtEnd : Window → What → Type 0
IsTrueAtEnd w (what.Batch batch tags) = IsLegalBatch w batch tags
IsTrueAtEnd w (what.Refused batch) = IsSome (refusal_of batch (table_at_end w))
IsTrueAtEnd w (what.Query pk filter) = Unit {0}
IsTrueAtEnd w (what.Scan pk from upto filter) = Unit {0}
IsTrueAtEnd w (what.Gap from to) = IsGap from to (table_at_end w)
IsTrueAtEnd w what.Fault = Unit {0}

-- ---- numbers

-- the numbers of a caller's entries, in order
abbrev pub numbers_of : ℕ → List Entry → List ℕ
numbers_of caller entries = map (λ e. e.number) (filter (λ e. nat_eq caller e.caller) entries)

-- the number is one more than the caller's last of the window; where there is none, it is 0 in a window from place 0 on
abbrev pub IsNextNumber : Window → Entry → Type 0
IsNextNumber w e = MatchOption (last_or None (numbers_of e.caller w.entries)) (w.first ≡ 0 → e.number ≡ 0) (λ last. e.number ≡ last + 1)

-- ---- legal histories

-- the entry may come next: what it says is true, and its number is its caller's next
pub record IsLegalNext (w : Window) (e : Entry) : Type 0 where
  pub says : IsTrueAtEnd w e.what
  pub number : IsNextNumber w e

-- each entry may come after those before it
abbrev pub IsLegal : Window → Type 0
IsLegal w = (before after : List Entry) (e : Entry) → w.entries ≡ before ++ e ∷ after → IsLegalNext (begun w before) e
