-- Entries in blocks as contracts see them.
use Rattle.std.specs.Prelude.{◌≡◌, ℕ, List, length, Vec}
use Rattle.std.specs.List.{flat_map, AllByRecursion}
use Rattle.mt_history.specs.declared.entry.Entry.{Entry}

-- the entries of all blocks in order, and for how many more there is memory in hand
pub record Stack : Type 0 where
  pub entries : List Entry
  pub spare : ℕ

-- the entries of these blocks, one block after the other
abbrev pub joined : {A : Type 0} → List (Vec Entry A) → List Entry
joined blocks = flat_map (λ b. b.items) blocks

-- each block has all the entries that it takes
abbrev pub AreFull : {A : Type 0} → List (Vec Entry A) → Type 0
AreFull blocks = AllByRecursion (λ b. length b.items ≡ 1024) blocks
