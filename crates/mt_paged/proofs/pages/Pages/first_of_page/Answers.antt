use Rattle.std.proofs.Common.{ap, ◌∙◌, subst, List, option_map}
use Rattle.std.specs.List.{slice_get}
use Rattle.mt_mem.specs.Entries.{Row, entry}
use Rattle.mt_paged.specs.Pages.{AreFilled, Paging}
use Rattle.mt_paged.proofs.FirstLaws.{first_sheet}
use Rattle.mt_paged.proofs.pages.Pages.first_of_page.Goals as goal

pub returns : goal.returns
returns c =
    let filled : AreFilled c.args.self.now.pages = subst (λ (v : Paging). AreFilled v.pages) c.self.view_is c.self.invariant.0 in
    ap (option_map entry) (c.first.ensures.value ∙ ap (λ (p : List Row). slice_get p 0) c.page.ensures.now)
    ∙ first_sheet c.args.self.now.pages c.args.at filled c.requires
