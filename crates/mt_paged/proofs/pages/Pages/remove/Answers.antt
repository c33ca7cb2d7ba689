use Rattle.std.proofs.Common.{List, ◌≡◌, [], length, get_or, subst, sym, ap, ◌∙◌}
use Rattle.mt_paged.specs.Pages.{Rewrites}
use Rattle.mt_mem.specs.Entries.{Row}
use Rattle.mt_paged.proofs.PagesLaws.{none_left}
use Rattle.mt_paged.proofs.pages.Pages.remove.Goals as goal

pub returns-then-page-eq1 : goal.returns-then-page-eq1
returns-then-page-eq1 c =
    let page : List Row = get_or c.args.self.now.pages c.args.at [] in
    let one : length page ≡ 1 = ap length (sym c.page.ensures.now) ∙ c.if-page-eq1.true in
    subst (λ (p : List Row). Rewrites c.args.at p c.args.self.now c.remove_page.new.self) (sym (none_left page c.args.place one c.requires.place)) c.remove_page.ensures
