use Rattle.std.proofs.Common.{◌≡◌, ◌+◌, ◌<◌, ◌≤◌, ◌++◌, [], ap, sym, ◌∙◌, subst, List, length, drop, get_or, suc, arith, Some}
use Rattle.mt_chain.specs.Rows.{Rows}
use Rattle.mt_mem.specs.Entries.{Row, entry}
use Rattle.mt_paged.specs.Pages.{joined, sheets, first_of}
use Rattle.mt_paged.proofs.SheetLaws.{get_sheet}
use Rattle.mt_paged.proofs.FirstLaws.{first_here, first_behind}
use Rattle.mt_paged.proofs.pages.Pages.first_from.Goals as goal

pub returns-then-place-page : goal.returns-then-place-page
returns-then-place-page c =
    let pages = c.args.self.now.pages in
    let row = c.index-page-place.result in
    let rest : Rows = joined (drop (suc c.args.at) (sheets pages)) in
    ap (λ (r : Row). Some (entry r)) (c.index-page-place.is ∙ ap (λ (p : List Row). get_or p c.args.place row) c.page-page.ensures.now)
    ∙ first_here (get_or pages c.args.at []) c.args.place rest row (subst (λ (p : List Row). c.args.place < length p) c.page-page.ensures.now c.if-place-page.true)
    ∙ ap (λ (es : Rows). first_of (drop c.args.place es ++ rest)) (sym (get_sheet pages c.args.at [] c.requires.within))

pub returns-then-len-at-gt1 : goal.returns-then-len-at-gt1
returns-then-len-at-gt1 c =
    let pages = c.args.self.now.pages in
    let on : c.args.at + 1 ≡ suc c.args.at = omega arith in
    let rest : Rows = joined (drop (suc c.args.at) (sheets pages)) in
    c.first_of_page.ensures
    ∙ ap (λ n. first_of (joined (drop n (sheets pages)))) on
    ∙ first_behind (get_or pages c.args.at []) c.args.place rest (subst (λ (p : List Row). length p ≤ c.args.place) c.page-page.ensures.now c.if-place-page.false)
    ∙ ap (λ (es : Rows). first_of (drop c.args.place es ++ rest)) (sym (get_sheet pages c.args.at [] c.requires.within))
