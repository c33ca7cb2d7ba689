use Rattle.std.proofs.Common.{ap, sym, subst, Some, None, option_map, option_copied}
use Rattle.mt_chain.specs.Places.{is_passed}
use Rattle.mt_chain.specs.StoreCall.{IsNext}
use Rattle.mt_mem.specs.Entries.{entry}
use Rattle.mt_paged.specs.Pages.{rows_in}
use Rattle.mt_paged.specs.Walks.{IsFirstPast}
use Rattle.mt_paged.proofs.PastLaws.{next_past}
use Rattle.mt_paged.proofs.answer.next_key.Goals as goal

pub returns-in-None-clause-next : goal.returns-in-None-clause-next
returns-in-None-clause-next c =
    let rows = rows_in c.args.pages.now in
    next_past c.args.at.now rows None c.requires
    (subst (IsFirstPast (is_passed c.args.at.now) rows) (ap (option_map entry) (ap option_copied c.in-None.is)) c.first_past.ensures)

pub returns-in_ok-copy-in-Some-clause-next : goal.returns-in_ok-copy-in-Some-clause-next
returns-in_ok-copy-in-Some-clause-next c =
    let rows = rows_in c.args.pages.now in
    subst (λ pk. IsNext c.args.at.now (Some pk) rows) (sym c.in_ok-copy-in-Some.ensures)
    (next_past c.args.at.now rows (Some (entry c.in-Some.row.now)) c.requires
    (subst (IsFirstPast (is_passed c.args.at.now) rows) (ap (option_map entry) (ap option_copied c.in-Some.is)) c.first_past.ensures))
