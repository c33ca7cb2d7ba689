use Rattle.std.proofs.Common.{ap, ◌∙◌, subst, Some, None, option_map, option_copied}
use Rattle.mt_chain.specs.declared.query.PkFrom.TheVariants.{From}
use Rattle.mt_chain.specs.Places.{is_passed}
use Rattle.mt_mem.specs.Entries.{entry}
use Rattle.mt_paged.specs.Pages.{rows_in}
use Rattle.mt_paged.specs.Walks.{IsFirstPast}
use Rattle.mt_paged.proofs.PastLaws.{next_past, has_next}
use Rattle.mt_paged.proofs.lookup.has_partition.Goals as goal

pub returns-in-None : goal.returns-in-None
returns-in-None c =
    let pk = c.args.pk.now in
    let rows = rows_in c.args.pages.now in
    has_next pk rows None (next_past (From pk) rows None c.requires
    (subst (IsFirstPast (is_passed (From pk)) rows) (ap (option_map entry) (ap option_copied c.in-None.is)) c.first_past.ensures))

pub returns-in-Some : goal.returns-in-Some
returns-in-Some c =
    let pk = c.args.pk.now in
    let rows = rows_in c.args.pages.now in
    let row = c.in-Some.row.now in
    c.eq.ensures
    ∙ has_next pk rows (Some row.0) (next_past (From pk) rows (Some (entry row)) c.requires
    (subst (IsFirstPast (is_passed (From pk)) rows) (ap (option_map entry) (ap option_copied c.in-Some.is)) c.first_past.ensures))
