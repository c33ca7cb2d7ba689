-- A row put into pages, or taken out, by its key.
use Rattle.std.specs.Prelude.{◌≡◌, ◌+◌, ◌≤◌, Option, IsTrue}
use Rattle.mt_model.specs.declared.key.Key.{Key}
use Rattle.mt_chain.specs.declared.row.Stored.{Stored}
use Rattle.mt_chain.specs.Rows.{are_rising}
use Rattle.mt_mem.specs.Changes.{rows_with}
use Rattle.mt_paged.specs.Pages.{Paging, rows_in}

-- this is stored at the key now, or nothing is, and the keys rise
pub record Stores (key : Key) (row : Option Stored) (s t : Paging) : Type 0 where
  pub rows : rows_in t ≡ rows_with key row (rows_in s)
  pub rising : IsTrue (are_rising (rows_in t))
  pub spare : s.spare ≤ t.spare + 1
