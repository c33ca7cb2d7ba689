-- A history to try the definitions on: a row is inserted, and then a second time.
use Rattle.std.specs.Prelude.{ℕ, List, [], ◌∷◌}
use Rattle.mt_model.specs.declared.key.Key.{Key}
use Rattle.mt_model.specs.declared.tag.Tag.{Tag}
use Rattle.mt_model.specs.declared.value.Prop.{Prop}
use Rattle.mt_chain.specs.declared.op.Op.TheVariants.{Insert}
use Rattle.mt_chain.specs.Table.{empty_table}
use Rattle.mt_history.specs.declared.entry.What.TheVariants as what
use Rattle.mt_history.specs.declared.entry.Entry.{Entry}
use Rattle.mt_history.specs.Window.{Window}

-- a caller's first entry: the row comes, with that tag
abbrev pub first_insert : ℕ → Key → List Prop → Tag → Entry
first_insert caller key props tag = record { caller = caller; number = 0; what = what.Batch (Insert key props ∷ []) (tag ∷ []) }

-- its second entry: the same insert is refused
abbrev pub second_insert : ℕ → Key → List Prop → Entry
second_insert caller key props = record { caller = caller; number = 1; what = what.Refused (Insert key props ∷ []) }

-- the history of both, from the empty table on
abbrev pub two_inserts : ℕ → Key → List Prop → Tag → Window
two_inserts caller key props tag = record { first = 0; base = empty_table; entries = first_insert caller key props tag ∷ second_insert caller key props ∷ [] }
