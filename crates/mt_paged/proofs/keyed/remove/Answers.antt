use Rattle.std.proofs.Common.{ap, ◌∙◌, subst, List, Ok, Err}
use Rattle.mt_model.specs.Key.{key_cmp}
use Rattle.mt_chain.specs.Rows.{are_rising, key_at}
use Rattle.mt_chain.specs.Places.{EndsAt}
use Rattle.mt_mem.specs.Entries.{Row, entries}
use Rattle.mt_paged.proofs.KeyedLaws.{home_rising, within_rows, taken_out, not_there, some_entry}
use Rattle.mt_paged.proofs.keyed.remove.Goals as goal

pub page-requires : goal.page-requires
page-requires c = within_rows (key_at c.args.pk.now c.args.rk.now) c.args.pages.now.pages c.home-at.result c.home-at.ensures

pub place_of-requires : goal.place_of-requires
place_of-requires c =
    ap (λ (p : List Row). are_rising (entries p)) c.page.ensures.now
    ∙ home_rising (key_at c.args.pk.now c.args.rk.now) c.args.pages.now.pages c.home-at.result c.requires c.home-at.ensures

pub returns-in-Ok : goal.returns-in-Ok
returns-in-Ok c =
    let key = key_at c.args.pk.now c.args.rk.now in
    taken_out key some_entry c.args.pages.now c.remove.new.self c.home-at.result c.in-Ok.place c.requires c.home-at.ensures
    (subst (λ (p : List Row). EndsAt (λ k. key_cmp k key) (entries p) (Ok c.in-Ok.place)) c.page.ensures.now c.in-Ok.ensures) c.remove.ensures

pub returns-in-Err : goal.returns-in-Err
returns-in-Err c =
    let key = key_at c.args.pk.now c.args.rk.now in
    not_there key c.args.pages.now c.home-at.result c.in-Err.field-0 c.requires c.home-at.ensures
    (subst (λ (p : List Row). EndsAt (λ k. key_cmp k key) (entries p) (Err c.in-Err.field-0)) c.page.ensures.now c.in-Err.ensures)
