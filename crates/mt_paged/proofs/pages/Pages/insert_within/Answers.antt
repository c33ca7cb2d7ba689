use Rattle.std.proofs.Common.{List, ap, refl, arith, insert}
use Rattle.mt_paged.specs.Pages.{Paging}
use Rattle.mt_mem.specs.Entries.{Row}
use Rattle.mt_paged.proofs.PagesLaws.{rewrote_one}
use Rattle.mt_paged.proofs.pages.Pages.insert_within.Goals as goal

pub returns : goal.returns
returns c =
    let spare = ap (λ (v : Paging). v.spare) c.self.view_is in
    rewrote_one (λ (page : List Row). insert page c.args.place c.args.row) c.args.self.now _ c.self.inside.list.items c.args.at c.index_mut.result.now c.insert.new.self
    (ap (λ (v : Paging). v.pages) c.self.view_is) c.requires.within c.index_mut.ensures.value c.insert.ensures refl (omega (arith, spare))
