use Rattle.std.proofs.Common.{ap, sym, ◌∙◌, List, option_map, option_copied}
use Rattle.mt_chain.specs.Rows.{are_rising, row_at, shown, key_at}
use Rattle.mt_mem.specs.Entries.{Row, entries}
use Rattle.mt_paged.proofs.KeyedLaws.{home_rising, within_rows, row_at_home}
use Rattle.mt_paged.proofs.lookup.row_at.Goals as goal

pub page-requires : goal.page-requires
page-requires c = within_rows (key_at c.args.pk.now c.args.rk.now) c.args.pages.now.pages c.home-at.result c.home-at.ensures

pub row_at-requires : goal.row_at-requires
row_at-requires c =
    ap (λ (p : List Row). are_rising (entries p)) c.page.ensures.now
    ∙ home_rising (key_at c.args.pk.now c.args.rk.now) c.args.pages.now.pages c.home-at.result c.requires c.home-at.ensures

pub returns-clause-stored : goal.returns-clause-stored
returns-clause-stored c =
    c.row_at.ensures.stored
    ∙ ap (λ (p : List Row). row_at (entries p) c.args.pk.now c.args.rk.now) c.page.ensures.now
    ∙ sym (row_at_home c.args.pk.now c.args.rk.now c.args.pages.now.pages c.home-at.result c.home-at.ensures)

pub returns-clause-shown : goal.returns-clause-shown
returns-clause-shown c =
    c.row_at.ensures.shown
    ∙ ap (λ (p : List Row). option_map (shown c.args.rk.now) (row_at (entries p) c.args.pk.now c.args.rk.now)) c.page.ensures.now
    ∙ ap (option_map (shown c.args.rk.now)) (sym (row_at_home c.args.pk.now c.args.rk.now c.args.pages.now.pages c.home-at.result c.home-at.ensures))
