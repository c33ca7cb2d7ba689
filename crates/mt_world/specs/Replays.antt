-- The rows that a history makes of those before it.
use Rattle.std.specs.Prelude.{◌≡◌, ℕ, IsTrue, List, ◌∷◌, ◌++◌, length, None}
use Rattle.mt_chain.specs.Rows.{Rows, are_rising}
use Rattle.mt_chain.specs.Table.{Table, IsSameTable, table_of}
use Rattle.mt_chain.specs.Batch.{refusal_of}
use Rattle.mt_history.specs.declared.entry.What.{What}
use Rattle.mt_history.specs.declared.entry.What.TheVariants as what
use Rattle.mt_history.specs.declared.entry.Entry.{Entry}
use Rattle.mt_history.specs.Window.{replay, after_entry}
use Rattle.mt_world.specs.Worlds.{WorldState, ForPair, table_now}

-- the rows before do not refuse what the entry says
abbrev pub Accepts : Table → What → Type 0
Accepts table (what.Batch batch tags) = refusal_of batch table ≡ None
Accepts table w = Unit {0}

-- no entry is refused by the table at its place
abbrev pub AllAccepted : Table → List Entry → Type 0
AllAccepted table entries = (before after : List Entry) (e : Entry) → entries ≡ before ++ e ∷ after → Accepts (replay table before) e.what

-- the rows after these entries, if none of them is refused
pub record IsReplay (before : Rows) (entries : List Entry) (after : Rows) : Type 0 where
  pub rising : IsTrue (are_rising after)
  pub table : AllAccepted (table_of before) entries → IsSameTable (table_of after) (replay (table_of before) entries)

-- the rows after one
pub record IsAfter (before : Rows) (w : What) (after : Rows) : Type 0 where
  pub rising : IsTrue (are_rising after)
  pub table : Accepts (table_of before) w → IsSameTable (table_of after) (after_entry (table_of before) w)

-- as many rows as the entries leave
abbrev pub LeavesRows : Rows → List Entry → ℕ → Type 0
LeavesRows before entries n = (after : Rows) × IsReplay before entries after × (n ≡ length after)

-- these many rows are those of the table now, where both stores tell
abbrev pub CountsRows : WorldState → ℕ → Type 0
CountsRows w n = ForPair w (λ p. (rows : Rows) × IsTrue (are_rising rows) × IsSameTable (table_of rows) (table_now w) × (n ≡ length rows))
