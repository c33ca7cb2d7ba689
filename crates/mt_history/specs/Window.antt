-- What entries do to a table.
use Rattle.std.specs.Prelude.{ℕ, List, [], ◌∷◌, ◌++◌}
use Rattle.std.specs.List.{fold}
use Rattle.mt_chain.specs.Table.{Table}
use Rattle.mt_chain.specs.Batch.{batch_applied}
use Rattle.mt_history.specs.declared.entry.What.{What}
use Rattle.mt_history.specs.declared.entry.What.TheVariants as what
use Rattle.mt_history.specs.declared.entry.Entry.{Entry}

-- the table after an entry: a batch is applied with its tags, and all else changes nothing
abbrev pub after_entry : Table → What → Table
after_entry table (what.Batch batch tags) = batch_applied batch tags table
after_entry table (what.Refused batch) = table
after_entry table (what.Query pk filter) = table
after_entry table (what.Scan pk from upto filter) = table
after_entry table (what.Gap from to) = table
after_entry table what.Fault = table

-- the table after these entries, one after the other
abbrev pub replay : Table → List Entry → Table
replay table entries = fold (λ t e. after_entry t e.what) table entries

-- a part of a history: the place of its first entry, the table before it, and the entries from there on
pub record Window : Type 0 where
  pub first : ℕ
  pub base : Table
  pub entries : List Entry

-- the table at the end of a window
abbrev pub table_at_end : Window → Table
table_at_end w = replay w.base w.entries

-- the window with the first entries alone
abbrev pub begun : Window → List Entry → Window
begun w entries = record { first = w.first; base = w.base; entries = entries }

-- the window with one entry more at its end
abbrev pub with_one : Window → Entry → Window
with_one w entry = begun w (w.entries ++ entry ∷ [])
