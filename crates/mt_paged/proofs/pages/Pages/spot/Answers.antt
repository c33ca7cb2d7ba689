use Rattle.std.proofs.Common.{◌<◌, ◌≤◌, [], get_or, ap, sym, ◌∙◌, subst, length, List, arith}
use Rattle.std.proofs.lemmas.List.{length-map}
use Rattle.mt_chain.specs.Rows.{Rows, are_rising}
use Rattle.mt_chain.specs.Places.{IsCut}
use Rattle.mt_mem.specs.Entries.{Row, entry, entries}
use Rattle.mt_paged.specs.Pages.{sheets}
use Rattle.mt_paged.specs.Fronts.{is_in_front}
use Rattle.mt_paged.proofs.SheetLaws.{get_sheet}
use Rattle.mt_paged.proofs.FrontLaws.{spot_found}
use Rattle.mt_paged.proofs.KeyedLaws.{own_rising}
use Rattle.mt_paged.proofs.pages.Pages.spot.Goals as goal

pub end_in-requires : goal.end_in-requires
end_in-requires c =
    let pages = c.args.self.now.pages in
    let at = c.last_in-at.result in
    let within : at < length pages = (let n = length-map pages entries in let l = c.last_in-at.ensures.within in omega (arith, n)) in
    ap (λ (p : List Row). are_rising (entries p)) c.page.ensures.now
    ∙ own_rising pages at c.requires.rising within

pub returns-clause-spot : goal.returns-clause-spot
returns-clause-spot c =
    let pages = c.args.self.now.pages in
    let at = c.last_in-at.result in
    let test = is_in_front c.args.front in
    let within : at < length pages = (let n = length-map pages entries in let l = c.last_in-at.ensures.within in omega (arith, n)) in
    spot_found test (sheets pages) at c.end_in.result c.last_in-at.ensures
    (subst (λ (es : Rows). IsCut test es c.end_in.result) (ap entries c.page.ensures.now ∙ sym (get_sheet pages at [] within)) c.end_in.ensures)

pub returns-clause-place : goal.returns-clause-place
returns-clause-place c =
    let long = length-map (get_or c.args.self.now.pages c.last_in-at.result []) entry in
    let bound = subst (λ (p : List Row). c.end_in.result ≤ length (entries p)) c.page.ensures.now c.end_in.ensures.0 in
    omega (arith, long, bound)
