-- Rows that are written anew, in one pass from the first to the last.
use Rattle.std.specs.Prelude.{ℕ, List}
use Rattle.mt_mem.specs.Entries.{Row}

-- the rows written so far, the rows left to read, and for how many more there is room
pub record Rewriting : Type 0 where
  pub written : List Row
  pub left : List Row
  pub spare : ℕ
