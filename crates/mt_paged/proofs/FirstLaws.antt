-- The first row at a place of a page or behind it.
use Rattle.std.proofs.Common.{◌≡◌, ℕ, zero, suc, ◌<◌, ◌≤◌, List, [], ◌∷◌, ◌++◌, length, drop, get_or, refl, sym, ap, ◌∙◌, arith, drop-cons, Some, option_map}
use Rattle.std.proofs.lemmas.List.{length-map, drop_all}
use Rattle.std.specs.List.{slice_get}
use Rattle.mt_chain.specs.Rows.{Rows}
use Rattle.mt_mem.specs.Entries.{Row, entry, entries}
use Rattle.mt_paged.specs.Pages.{joined, AreFilled, sheets, first_of}
use Rattle.mt_paged.proofs.SheetLaws.{get_sheet}
use Rattle.mt_paged.proofs.PagesLaws.{filled_at}

pub first_here : (page : List Row) (place : ℕ) (rest : Rows) (d : Row) → place < length page → Some (entry (get_or page place d)) ≡ first_of (drop place (entries page) ++ rest)
first_here [] place rest d l = absurd (omega arith)
first_here (r ∷ page) zero rest d l = refl
first_here (r ∷ page) (suc place) rest d l = first_here page place rest d (omega arith)

pub first_behind : (page : List Row) (place : ℕ) (rest : Rows) → length page ≤ place → first_of rest ≡ first_of (drop place (entries page) ++ rest)
first_behind page place rest l = sym (ap (λ (es : Rows). first_of (es ++ rest)) (drop_all place (entries page) (omega (arith, l, length-map page entry))))

first_some : (page : List Row) (rest : Rows) → 0 < length page → option_map entry (slice_get page 0) ≡ first_of (entries page ++ rest)
first_some [] rest l = absurd (omega arith)
first_some (r ∷ page) rest l = refl

pub first_sheet : (pages : List (List Row)) (at : ℕ) → AreFilled pages → at < length pages → option_map entry (slice_get (get_or pages at []) 0) ≡ first_of (joined (drop at (sheets pages)))
first_sheet pages at f l =
    first_some (get_or pages at []) (joined (drop (suc at) (sheets pages))) (filled_at pages at [] f l)
    ∙ ap (λ (es : Rows). first_of (es ++ joined (drop (suc at) (sheets pages)))) (sym (get_sheet pages at [] l))
    ∙ sym (ap (λ (ps : List Rows). first_of (joined ps)) (drop-cons (sheets pages) at [] (omega (arith, l, length-map pages entries))))
