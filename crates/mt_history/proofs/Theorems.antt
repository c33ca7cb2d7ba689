-- What a history comes to: the laws of the definitions.
use Rattle.std.proofs.Common.{◌≡◌, ◌≢◌, ◌++◌, [], ℕ, All, List, length}
use Rattle.std.specs.List.{AllPairs, range_with_len}
use Rattle.mt_model.specs.declared.entity.Entity.{Entity}
use Rattle.mt_model.specs.declared.key.Key.{Key}
use Rattle.mt_model.specs.declared.tag.Tag.{Tag}
use Rattle.mt_model.specs.declared.value.Prop.{Prop}
use Rattle.mt_chain.specs.declared.op.Op.{Op}
use Rattle.mt_chain.specs.Table.{Table, IsFinite, IsListing}
use Rattle.mt_chain.specs.Batch.{table_after}
use Rattle.mt_history.specs.declared.entry.What.{What}
use Rattle.mt_history.specs.declared.entry.What.TheVariants.{Batch}
use Rattle.mt_history.specs.declared.entry.Entry.{Entry}
use Rattle.mt_history.specs.declared.model.Reply.{Reply}
use Rattle.mt_history.specs.Window.{Window, after_entry, replay, table_at_end, with_one}
use Rattle.mt_history.specs.Replies.{Replies}
use Rattle.mt_history.specs.Cases.{two_inserts}
use Rattle.mt_history.specs.Legal.{IsLegal, IsLegalNext, IsTrueAtEnd, HasTag, all_tags, numbers_of}
use Rattle.mt_history.proofs.WindowLaws as windows
use Rattle.mt_history.proofs.CountLaws as counts
use Rattle.mt_history.proofs.CaseLaws as cases
use Rattle.mt_history.proofs.ListingLaws as listings
use Rattle.mt_history.proofs.ReplyLaws as replies

-- to replay entries and then others is to replay them all
pub replays_join : (table : Table) (xs ys : List Entry) → replay table (xs ++ ys) ≡ replay (replay table xs) ys
replays_join = windows.replays_join

-- a window without entries is legal
pub nothing_is_legal : (w : Window) → w.entries ≡ [] → IsLegal w
nothing_is_legal = windows.nothing_is_legal

-- a legal window with a legal next entry is legal, and only such a window with one more is
pub legal_windows_grow : (w : Window) (e : Entry) → IsLegal w → IsLegalNext w e → IsLegal (with_one w e)
legal_windows_grow = windows.legal_grows

pub legal_windows_grew : (w : Window) (e : Entry) → IsLegal (with_one w e) → IsLegal w × IsLegalNext w e
legal_windows_grew w e legal = (windows.legal_was w e legal, windows.legal_next w e legal)

-- on the empty table a row is inserted, and then a second time, which is refused: a legal history
pub two_inserts_are_legal : (caller : ℕ) (key : Key) (props : List Prop) (tag : Tag) → IsLegal (two_inserts caller key props tag)
two_inserts_are_legal = cases.two_inserts_are_legal

-- the numbers of a caller's entries in a legal window rise by one, and where it begins at place 0 they are 0, 1, 2 and so on
pub numbers_count : (w : Window) (caller : ℕ) → IsLegal w → w.first ≡ 0 → numbers_of caller w.entries ≡ range_with_len 0 (length (numbers_of caller w.entries))
numbers_count = counts.numbers_from_zero

pub numbers_rise : (w : Window) (caller : ℕ) → IsLegal w → (start : ℕ) × (numbers_of caller w.entries ≡ range_with_len start (length (numbers_of caller w.entries)))
numbers_rise = counts.numbers_rise

-- a batch that is legal next does to the table what a batch does, and the table at the end of a legal window is finite where that before it is
pub legal_batches_apply : (w : Window) (batch : List Op) (tags : List Tag) → IsTrueAtEnd w (Batch batch tags) → after_entry (table_at_end w) (Batch batch tags) ≡ table_after batch tags (table_at_end w)
legal_batches_apply = windows.legal_batches_apply

pub tables_stay_finite : (w : Window) → IsLegal w → IsFinite w.base → IsFinite (table_at_end w)
tables_stay_finite = windows.tables_stay_finite

-- no two rows that a legal window wrote have one tag, and none has a tag of the table before it
pub tags_come_once : (w : Window) → IsLegal w → AllPairs (λ a b. a ≢ b) (all_tags w.entries)
tags_come_once = windows.tags_differ

pub tags_are_new : (w : Window) → IsLegal w → All (λ tag. HasTag w.base tag → ⊥) (all_tags w.entries)
tags_are_new = windows.tags_are_new

-- the rows of a table have one list, and an entry has one reply at a table
pub listings_are_one : (xs ys : List Entity) (table : Table) → IsListing xs table → IsListing ys table → xs ≡ ys
listings_are_one = listings.one_listing

pub replies_are_one : (said : What) (table : Table) (r s : Reply) → Replies said table r → Replies said table s → r ≡ s
replies_are_one = replies.one_reply
