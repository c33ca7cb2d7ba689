use Rattle.std.proofs.Common.{◌≡◌, ◌∷◌, [], rules, length, sym, ap, ◌∙◌, arith}
use Rattle.std.proofs.lemmas.List.{nil_from_length}
use Rattle.std.specs.Vec.Iter.{into_iter_items}
use Rattle.mt_mem.specs.Changes.{edits_of, edited}
use Rattle.mt_paged.specs.Pages.{rows_in}
use Rattle.mt_paged.proofs.change.make_all.Goals as goal

pub make-requires-clause-spare : goal.make-requires-clause-spare
make-requires-clause-spare c = (let room = c.loop-change.invariant.spare in let short = ap length c.in-Some.ensures.steps.0 in omega (arith, room, short))

pub loop-change-preserved : goal.loop-change-preserved
loop-change-preserved c =
    let at = c.loop-change in
    let pk = c.args.pk.now in
    let rest = into_iter_items c.next.new.self in
    let steps : into_iter_items at.change-iterator ≡ c.in-Some.change ∷ rest = c.in-Some.ensures.steps.0 in
    let short = ap length steps in
    record {
      made = ap (edited (edits_of pk rest)) c.make.ensures.rows
          ∙ sym (ap (λ is. edited (edits_of pk is) (rows_in at.pages)) steps)
          ∙ at.invariant.made;
      rising = c.make.ensures.rising;
      spare = (let room = at.invariant.spare in let more = c.make.ensures.spare in omega (arith, short));
      long = (let was = at.invariant.long in let gone = c.in-Some.ensures.steps.1 in omega (arith, short));
    }

pub returns-clause-rows : goal.returns-clause-rows
returns-clause-rows c =
    let at = c.loop-change in
    let pk = c.args.pk.now in
    let empty : into_iter_items at.change-iterator ≡ [] = nil_from_length _ (sym at.invariant.long ∙ c.in-None.ensures.steps.0) in
    sym (ap (λ is. edited (edits_of pk is) (rows_in at.pages)) empty)
    ∙ at.invariant.made
    ∙ ap (λ is. edited (edits_of pk is) (rows_in c.args.pages.now)) c.into_iter-change-iterator.ensures.into_iter_gives.0
