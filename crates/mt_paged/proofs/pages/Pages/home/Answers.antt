use Rattle.std.proofs.Common.{ap, sym, ◌∙◌, subst}
use Rattle.mt_chain.specs.Rows.{are_rising, key_at}
use Rattle.mt_paged.specs.Pages.{AreFilled, sheets, Paging}
use Rattle.mt_paged.proofs.SheetLaws.{joined_sheets, filled_sheets}
use Rattle.mt_paged.proofs.HomeLaws.{home_found}
use Rattle.mt_paged.proofs.pages.Pages.home.Goals as goal

pub returns : goal.returns
returns c =
    let pages = c.args.self.now.pages in
    let filled : AreFilled pages = subst (λ (v : Paging). AreFilled v.pages) c.self.view_is c.self.invariant.0 in
    home_found (key_at c.args.pk.now c.args.rk.now) (sheets pages) c.last_in.result (filled_sheets pages filled) (ap are_rising (sym (joined_sheets pages)) ∙ c.requires.rising) c.last_in.ensures
