use Rattle.std.proofs.Common.{◌≡◌, Bool, List, [], ap, sym, ◌∙◌, Ok, Err, IfOk}
use Rattle.mt_chain.specs.declared.row.StoredRow.{StoredRow}
use Rattle.mt_chain.specs.StoreCall.{range_answer, range_has_more}
use Rattle.mt_paged.specs.Pages.{rows_in}
use Rattle.mt_paged.specs.Walks.{walk}
use Rattle.mt_paged.proofs.WalkLaws.{range_walked, rows_from}
use Rattle.mt_paged.proofs.answer.range_rows.Goals as goal

pub returns-in-Some-clause-first : goal.returns-in-Some-clause-first
returns-in-Some-clause-first c =
    let rows = rows_in c.args.pages.now in
    let pk = c.args.pk.now in
    let range = c.in-Some.range in
    let spot = c.spot-first.result in
    let walked = range_walked pk range c.args.pages.now.pages spot.0 spot.1 c.requires c.spot-first.ensures.spot in
    elim c.walk_from.result as (λ r. IfOk r (λ p. (p.0.items, p.1) ≡ walk pk range [] (rows_from c.args.pages.now.pages spot.0 spot.1)) → IfOk r (λ p. p.0.items ≡ range_answer rows pk c.args.range.now)) [
      | Ok p ↦ λ h. ap (λ (a : List StoredRow × Bool). a.0) (h ∙ walked) ∙ sym (ap (range_answer rows pk) c.in-Some.is)
      | Err e ↦ λ h. h
    ] c.walk_from.ensures

pub returns-in-Some-clause-more : goal.returns-in-Some-clause-more
returns-in-Some-clause-more c =
    let rows = rows_in c.args.pages.now in
    let pk = c.args.pk.now in
    let range = c.in-Some.range in
    let spot = c.spot-first.result in
    let walked = range_walked pk range c.args.pages.now.pages spot.0 spot.1 c.requires c.spot-first.ensures.spot in
    elim c.walk_from.result as (λ r. IfOk r (λ p. (p.0.items, p.1) ≡ walk pk range [] (rows_from c.args.pages.now.pages spot.0 spot.1)) → IfOk r (λ p. p.1 ≡ range_has_more rows pk c.args.range.now)) [
      | Ok p ↦ λ h. ap (λ (a : List StoredRow × Bool). a.1) (h ∙ walked) ∙ sym (ap (range_has_more rows pk) c.in-Some.is)
      | Err e ↦ λ h. h
    ] c.walk_from.ensures
