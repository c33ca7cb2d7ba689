-- What an entry is answered at a table.
use Rattle.std.specs.Prelude.{◌≡◌, ℕ, Bool, true, ◌&&◌, IsTrue, bytes_eq, List, [], map, filter as keep, Option, Some, None, if◌then◌else◌}
use Rattle.mt_model.specs.declared.key.Key.{Key}
use Rattle.mt_model.specs.declared.value.Prop.{Prop}
use Rattle.mt_model.specs.declared.entity.Entity.{Entity}
use Rattle.mt_filter.specs.declared.filter.Filter.{Filter}
use Rattle.mt_filter.specs.Tree.{tree_of}
use Rattle.mt_match.specs.Match.{matches}
use Rattle.mt_chain.specs.declared.row.Stored.{Stored}
use Rattle.mt_chain.specs.declared.op.Refusal.{Refusal}
use Rattle.mt_chain.specs.declared.query.RkFrom.{RkFrom}
use Rattle.mt_chain.specs.Rows.{Rows, is_from, is_upto}
use Rattle.mt_chain.specs.Table.{Table, IsListing, entity_of}
use Rattle.mt_chain.specs.Batch.{refusal_of}
use Rattle.mt_history.specs.declared.entry.What.{What}
use Rattle.mt_history.specs.declared.entry.What.TheVariants as what
use Rattle.mt_history.specs.declared.model.Reply.{Reply}
use Rattle.mt_history.specs.declared.model.Reply.TheVariants as reply

-- ---- what is read of a table

-- the key is of that partition
abbrev pub in_partition : List ℕ → Key → Bool
in_partition pk key = bytes_eq pk key.pk

-- the key is of that partition, and its row key lies from the place on and not past the end
abbrev pub in_range : List ℕ → RkFrom → Option (List ℕ) → Key → Bool
in_range pk from upto key = bytes_eq pk key.pk && (is_from from key.rk && is_upto upto key.rk)

-- the filter matches the row, or there is none
abbrev pub is_matched : Option Filter → Key → List Prop → Bool
is_matched None key props = true
is_matched (Some filter) key props = matches (tree_of filter) key props

-- the row, if it passes
abbrev pub kept_if : (Stored → Bool) → Option Stored → Option Stored
kept_if test None = None
kept_if test (Some row) = if test row then Some row else None

-- the rows of the table whose key lies in the region and that the filter matches
abbrev pub selected : (Key → Bool) → Option Filter → Table → Table
selected region filter table key = if region key then kept_if (λ row. is_matched filter key row.props) (table key) else None

-- copies of those rows whose key lies in the region and that the filter matches, in their order
abbrev pub picked : (Key → Bool) → Option Filter → Rows → List Entity
picked region filter rows = map entity_of (keep (λ row. region row.0 && is_matched filter row.0 row.1.props) rows)

-- ---- replies

-- the reply shows the rows of this table
abbrev pub ShowsRows : Reply → Table → Type 0
ShowsRows r table = (entities : List Entity) × (r ≡ reply.Rows entities) × IsListing entities table

-- the reply to a refusal; where nothing refuses there is none
abbrev pub refusal_reply : Option Refusal → Reply
refusal_reply None = reply.NoReply
refusal_reply (Some refusal) = reply.Refused refusal

-- the reply of an entry at a table: a batch its tags, a refused one the refusal, a query and a scan the rows of their region that match, a gap no rows, and a fault no reply
abbrev pub Replies : What → Table → Reply → Type 0
Replies (what.Batch batch tags) table r = r ≡ reply.Written tags
Replies (what.Refused batch) table r = r ≡ refusal_reply (refusal_of batch table)
Replies (what.Query pk filter) table r = ShowsRows r (selected (in_partition pk) filter table)
Replies (what.Scan pk from upto filter) table r = ShowsRows r (selected (in_range pk from upto) filter table)
Replies (what.Gap from to) table r = r ≡ reply.Rows []
Replies what.Fault table r = r ≡ reply.NoReply
