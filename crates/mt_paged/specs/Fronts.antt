-- Where the first rows of pages end that pass a test.
use Rattle.std.specs.Prelude.{◌≡◌, ◌⊎◌, ℕ, suc, ◌<◌, Bool, true, false, List, [], ◌∷◌, ◌++◌, length, take, drop, slice_index_or}
use Rattle.std.specs.List.{AllByRecursion}
use Rattle.std.specs.Ordering.{is_le}
use Rattle.std.specs.declared.cmp.Ordering.TheVariants.{Less, Greater}
use Rattle.mt_model.specs.declared.key.Key.{Key}
use Rattle.mt_model.specs.Key.{key_cmp}
use Rattle.mt_chain.specs.declared.query.PkFrom.TheVariants.{From}
use Rattle.mt_chain.specs.Rows.{Rows, key_at}
use Rattle.mt_chain.specs.Places.{is_before, is_passed}
use Rattle.mt_paged.specs.declared.front.Front.{Front}
use Rattle.mt_paged.specs.declared.front.Front.TheVariants.{UpTo, BeforeRange, BeforePartition, BeforePlace}
use Rattle.mt_paged.specs.Pages.{joined}

-- the key passes the test
abbrev pub is_in_front : Front → Key → Bool
is_in_front (UpTo pk rk) key = is_le (key_cmp key (key_at pk.now rk.now))
is_in_front (BeforeRange pk from) key = is_before pk.now from.now key
is_in_front (BeforePartition pk) key = is_passed (From pk.now) key
is_in_front (BeforePlace at) key = is_passed at.now key

abbrev pub AllPass : (Key → Bool) → Rows → Type 0
AllPass test rows = AllByRecursion (λ e. test e.0 ≡ true) rows

abbrev pub NonePasses : (Key → Bool) → Rows → Type 0
NonePasses test rows = AllByRecursion (λ e. test e.0 ≡ false) rows

-- the first key of a page passes
abbrev pub begins_in : (Key → Bool) → Rows → Bool
begins_in test [] = true
begins_in test (e ∷ rows) = test e.0

-- the last page that begins with a row that passes, or the first of all: all rows before it pass, and none after it
pub record IsLastIn (test : Key → Bool) (pages : List Rows) (at : ℕ) : Type 0 where
  pub within : at < length pages
  pub begins : (at ≡ 0) ⊎ (begins_in test (slice_index_or pages at []) ≡ true)
  pub before : AllPass test (joined (take at pages))
  pub after : NonePasses test (joined (drop (suc at) pages))

-- the place in a page where the rows that pass end: all before it pass, and none from it on, in that page and after it
pub record IsSpot (test : Key → Bool) (pages : List Rows) (at place : ℕ) : Type 0 where
  pub within : at < length pages
  pub whole : joined pages ≡ (joined (take at pages) ++ take place (slice_index_or pages at [])) ++ (drop place (slice_index_or pages at []) ++ joined (drop (suc at) pages))
  pub before : AllPass test (joined (take at pages) ++ take place (slice_index_or pages at []))
  pub from : NonePasses test (drop place (slice_index_or pages at []) ++ joined (drop (suc at) pages))

abbrev pub AllBelow : Key → Rows → Type 0
AllBelow key rows = AllByRecursion (λ e. key_cmp e.0 key ≡ Less) rows

abbrev pub AllAbove : Key → Rows → Type 0
AllAbove key rows = AllByRecursion (λ e. key_cmp e.0 key ≡ Greater) rows

-- the page where a key belongs: all rows before it are below the key, and all after it above
pub record IsHome (key : Key) (pages : List Rows) (at : ℕ) : Type 0 where
  pub within : at < length pages
  pub below : AllBelow key (joined (take at pages))
  pub above : AllAbove key (joined (drop (suc at) pages))
