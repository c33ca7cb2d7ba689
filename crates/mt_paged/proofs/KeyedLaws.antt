-- Rows put and taken out where their keys belong, in the whole.
use Rattle.std.proofs.Common.{◌≡◌, ℕ, suc, ◌<◌, List, [], ◌∷◌, ◌++◌, length, take, drop, get_or, set, insert, remove, sym, ap, ◌∙◌, arith, IsTrue, Option, Some, None, Ok, Err}
use Rattle.std.proofs.lemmas.List.{length-map, take-map, drop-map, map-set, map-append}
use Rattle.mt_model.specs.declared.key.Key.{Key}
use Rattle.mt_model.specs.Key.{key_cmp}
use Rattle.mt_chain.specs.declared.row.Stored.{Stored}
use Rattle.mt_chain.specs.Rows.{Rows, are_rising, row_at, key_at}
use Rattle.mt_chain.specs.Places.{EndsAt}
use Rattle.mt_chain.proofs.SearchLaws.{put_at, put_gap, without_at, without_gap}
use Rattle.mt_mem.specs.Entries.{Row, entry, entries}
use Rattle.mt_mem.specs.Changes.{rows_with}
use Rattle.mt_mem.proofs.EditLaws.{rising_with}
use Rattle.mt_paged.specs.Pages.{joined, sheets, rows_in, Paging, Rewrites}
use Rattle.mt_paged.specs.Fronts.{IsHome}
use Rattle.mt_paged.specs.Keyed.{Stores}
use Rattle.mt_paged.proofs.PagesLaws.{around}
use Rattle.mt_paged.proofs.SheetLaws.{joined_sheets, get_sheet, sheet_rising}
use Rattle.mt_paged.proofs.HomeLaws.{find_home, with_home}

entries_insert : (rows : List Row) (at : ℕ) (row : Row) → entries (insert rows at row) ≡ insert (entries rows) at (entry row)
entries_insert rows at row = map-append entry (take at rows) (row ∷ drop at rows) ∙ (λ i. sym (take-map entry at rows) i ++ entry row ∷ sym (drop-map entry at rows) i)

entries_remove : (rows : List Row) (at : ℕ) → entries (remove rows at) ≡ remove (entries rows) at
entries_remove rows at = map-append entry (take at rows) (drop (suc at) rows) ∙ (λ i. sym (take-map entry at rows) i ++ sym (drop-map entry (suc at) rows) i)

-- a page written anew, as entries
pub rewritten : (s t : Paging) (at : ℕ) (page : List Row) → Rewrites at page s t → rows_in t ≡ joined (take at (sheets s.pages)) ++ (entries page ++ joined (drop (suc at) (sheets s.pages)))
rewritten s t at page r =
    ap entries r.rows
    ∙ map-append entry (joined (take at s.pages)) (page ++ joined (drop (suc at) s.pages))
    ∙ ap (λ es. entries (joined (take at s.pages)) ++ es) (map-append entry page (joined (drop (suc at) s.pages)))
    ∙ (λ i. first i ++ (entries page ++ last i)) where
      first : entries (joined (take at s.pages)) ≡ joined (take at (sheets s.pages))
      first = joined_sheets (take at s.pages) ∙ ap joined (sym (take-map entries at s.pages))

      last : entries (joined (drop (suc at) s.pages)) ≡ joined (drop (suc at) (sheets s.pages))
      last = joined_sheets (drop (suc at) s.pages) ∙ ap joined (sym (drop-map entries (suc at) s.pages))

-- the entries of a page
abbrev pub page_of : List (List Row) → ℕ → Rows
page_of pages at = entries (get_or pages at [])

pub within_rows : (key : Key) (pages : List (List Row)) (at : ℕ) → IsHome key (sheets pages) at → at < length pages
within_rows key pages at home = let n = length-map pages entries in let l = home.within in omega (arith, n)

pub own_rising : (pages : List (List Row)) (at : ℕ) → IsTrue (are_rising (entries (joined pages))) → at < length pages → IsTrue (are_rising (page_of pages at))
own_rising pages at up within =
    ap are_rising (sym (get_sheet pages at [] within))
    ∙ sheet_rising (sheets pages) at [] (ap are_rising (sym (joined_sheets pages)) ∙ up) (let n = length-map pages entries in omega (arith, n, within))

pub home_rising : (key : Key) (pages : List (List Row)) (at : ℕ) → IsTrue (are_rising (entries (joined pages))) → IsHome key (sheets pages) at → IsTrue (are_rising (page_of pages at))
home_rising key pages at up home = own_rising pages at up (within_rows key pages at home)

-- the row at a key is the one in the page where the key belongs
pub row_at_home : (pk rk : List ℕ) (pages : List (List Row)) (at : ℕ) → IsHome (key_at pk rk) (sheets pages) at → row_at (entries (joined pages)) pk rk ≡ row_at (page_of pages at) pk rk
row_at_home pk rk pages at home =
    ap (λ rows. row_at rows pk rk) (joined_sheets pages)
    ∙ find_home (key_at pk rk) (sheets pages) at home
    ∙ ap (λ rows. row_at rows pk rk) (get_sheet pages at [] (within_rows (key_at pk rk) pages at home))

-- what is stored in the page at home is stored in the whole
stored_here : (key : Key) (row : Option Stored) (pages : List (List Row)) (at : ℕ) → IsHome key (sheets pages) at
    → rows_with key row (entries (joined pages)) ≡ joined (take at (sheets pages)) ++ (rows_with key row (page_of pages at) ++ joined (drop (suc at) (sheets pages)))
stored_here key row pages at home =
    ap (rows_with key row) (joined_sheets pages)
    ∙ with_home key row (sheets pages) at home
    ∙ ap (λ (p : Rows). joined (take at (sheets pages)) ++ (rows_with key row p ++ joined (drop (suc at) (sheets pages)))) (get_sheet pages at [] (within_rows key pages at home))

stored_by : (key : Key) (row : Option Stored) (s t : Paging) (at : ℕ) (page : List Row) → IsTrue (are_rising (rows_in s)) → IsHome key (sheets s.pages) at
    → rows_with key row (page_of s.pages at) ≡ entries page → Rewrites at page s t → Stores key row s t
stored_by key row s t at page up home is r =
    let same = rewritten s t at page r
    ∙ ap (λ (p : Rows). joined (take at (sheets s.pages)) ++ (p ++ joined (drop (suc at) (sheets s.pages)))) (sym is)
    ∙ sym (stored_here key row s.pages at home) in
    record { rows = same; rising = ap are_rising same ∙ rising_with key row (rows_in s) up; spare = r.spare }

pub put_over : (row : Row) (s t : Paging) (at place : ℕ) → IsTrue (are_rising (rows_in s)) → IsHome (entry row).0 (sheets s.pages) at
    → EndsAt (λ k. key_cmp k (entry row).0) (page_of s.pages at) (Ok place) → Rewrites at (set (get_or s.pages at []) place row) s t → Stores (entry row).0 (Some (entry row).1) s t
put_over row s t at place up home ends r = stored_by (entry row).0 (Some (entry row).1) s t at (set (get_or s.pages at []) place row) up home
    (put_at (entry row).0 (entry row).1 (page_of s.pages at) place (entry row) (home_rising (entry row).0 s.pages at up home) ends.0 (ends.1 (entry row))
    ∙ sym (map-set entry (get_or s.pages at []) place row)) r

pub put_between : (row : Row) (s t : Paging) (at place : ℕ) → IsTrue (are_rising (rows_in s)) → IsHome (entry row).0 (sheets s.pages) at
    → EndsAt (λ k. key_cmp k (entry row).0) (page_of s.pages at) (Err place) → Rewrites at (insert (get_or s.pages at []) place row) s t → Stores (entry row).0 (Some (entry row).1) s t
put_between row s t at place up home ends r = stored_by (entry row).0 (Some (entry row).1) s t at (insert (get_or s.pages at []) place row) up home
    (put_gap (entry row).0 (entry row).1 (page_of s.pages at) place ends
    ∙ sym (entries_insert (get_or s.pages at []) place row)) r

pub taken_out : (key : Key) (d : Key × Stored) (s t : Paging) (at place : ℕ) → IsTrue (are_rising (rows_in s)) → IsHome key (sheets s.pages) at
    → EndsAt (λ k. key_cmp k key) (page_of s.pages at) (Ok place) → Rewrites at (remove (get_or s.pages at []) place) s t → Stores key None s t
taken_out key d s t at place up home ends r = stored_by key None s t at (remove (get_or s.pages at []) place) up home
    (without_at key (page_of s.pages at) place d (home_rising key s.pages at up home) ends.0 (ends.1 d)
    ∙ sym (entries_remove (get_or s.pages at []) place)) r

pub not_there : (key : Key) (s : Paging) (at place : ℕ) → IsTrue (are_rising (rows_in s)) → IsHome key (sheets s.pages) at
    → EndsAt (λ k. key_cmp k key) (page_of s.pages at) (Err place) → Stores key None s s
not_there key s at place up home ends = record {
  rows = sym (stored_here key None s.pages at home
      ∙ ap (λ (p : Rows). joined (take at (sheets s.pages)) ++ (p ++ joined (drop (suc at) (sheets s.pages)))) (without_gap key (page_of s.pages at) place ends ∙ sym (get_sheet s.pages at [] (within_rows key s.pages at home)))
      ∙ sym (around (sheets s.pages) at [] home.within) ∙ sym (joined_sheets s.pages));
  rising = up;
  spare = omega arith;
}

abbrev pub some_entry : Key × Stored
some_entry = (key_at [] [], record { props = []; tag = record { store = 0; n = 0 } })
