-- Rows in the order of their keys, kept in pages.
use Rattle.std.specs.Prelude.{◌≡◌, ℕ, suc, ◌+◌, ◌<◌, ◌≤◌, List, [], ◌∷◌, ◌++◌, length, take, drop, map, Option, Some, None}
use Rattle.std.specs.List.{AllByRecursion, flat_map}
use Rattle.mt_model.specs.declared.key.Key.{Key}
use Rattle.mt_chain.specs.declared.row.Stored.{Stored}
use Rattle.mt_chain.specs.Rows.{Rows}
use Rattle.mt_mem.specs.Entries.{Row, entries}

-- what pages hold, one page after another
abbrev pub joined : {A : Type 0} → List (List A) → List A
joined pages = flat_map (λ page. page) pages

-- no page is empty
abbrev pub AreFilled : {A : Type 0} → List (List A) → Type 0
AreFilled pages = AllByRecursion (λ page. 0 < length page) pages

-- pages of rows, as entries
abbrev pub sheets : List (List Row) → List Rows
sheets pages = map entries pages

-- pages, and for how many more there is memory
pub record Paging : Type 0 where
  pub pages : List (List Row)
  pub spare : ℕ

-- the rows of all pages, as the contents of a store have them
abbrev pub rows_in : Paging → Rows
rows_in paging = entries (joined paging.pages)

-- the page at a place holds these rows now, over one page or two
pub record Rewrites (at : ℕ) (page : List Row) (s t : Paging) : Type 0 where
  pub rows : joined t.pages ≡ joined (take at s.pages) ++ (page ++ joined (drop (suc at) s.pages))
  pub spare : s.spare ≤ t.spare + 1

-- the rows stand, over fewer pages perhaps
pub record Keeps (s t : Paging) : Type 0 where
  pub rows : joined t.pages ≡ joined s.pages
  pub spare : s.spare ≤ t.spare

-- the first of rows
abbrev pub first_of : Rows → Option (Key × Stored)
first_of [] = None
first_of (e ∷ rows) = Some e
