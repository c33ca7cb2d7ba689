use Rattle.std.proofs.Common.{ap, ◌∙◌, subst, List, Ok, Err}
use Rattle.mt_model.specs.Key.{key_cmp}
use Rattle.mt_chain.specs.Rows.{are_rising, key_at}
use Rattle.mt_chain.specs.Places.{EndsAt}
use Rattle.mt_mem.specs.Entries.{Row, entry, entries}
use Rattle.mt_paged.proofs.KeyedLaws.{home_rising, within_rows, put_over, put_between}
use Rattle.mt_paged.proofs.keyed.put.Goals as goal

pub page-requires : goal.page-requires
page-requires c = within_rows (key_at c.args.row.0 c.args.row.1.rk) c.args.pages.now.pages c.home-at.result c.home-at.ensures

pub place_of-requires : goal.place_of-requires
place_of-requires c =
    ap (λ (p : List Row). are_rising (entries p)) c.page.ensures.now
    ∙ home_rising (key_at c.args.row.0 c.args.row.1.rk) c.args.pages.now.pages c.home-at.result c.requires.rising c.home-at.ensures

pub returns-in-Ok : goal.returns-in-Ok
returns-in-Ok c = put_over c.args.row c.args.pages.now c.set.new.self c.home-at.result c.in-Ok.place c.requires.rising c.home-at.ensures
    (subst (λ (p : List Row). EndsAt (λ k. key_cmp k (entry c.args.row).0) (entries p) (Ok c.in-Ok.place)) c.page.ensures.now c.in-Ok.ensures) c.set.ensures

pub returns-in-Err : goal.returns-in-Err
returns-in-Err c = put_between c.args.row c.args.pages.now c.insert.new.self c.home-at.result c.in-Err.place c.requires.rising c.home-at.ensures
    (subst (λ (p : List Row). EndsAt (λ k. key_cmp k (entry c.args.row).0) (entries p) (Err c.in-Err.place)) c.page.ensures.now c.in-Err.ensures) c.insert.ensures
