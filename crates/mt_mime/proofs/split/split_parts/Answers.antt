use Rattle.std.proofs.Common.{rules, sym, subst, List, ℕ, Bor}
use Rattle.mt_mime.specs.Parts.{Begun}
use Rattle.mt_mime.proofs.PartLaws.{first_none, begun_first, begun_cut, begun_stuck, begun_next, begun_ended}
use Rattle.mt_mime.proofs.split.split_parts.Goals as goal

pub returns-in_default-clause-bad : goal.returns-in_default-clause-bad
returns-in_default-clause-bad c = λ _. first_none c.args.boundary.now c.args.body.now c.in_default.ensures

pub parts-init : goal.parts-init
parts-init c =
    subst (λ (ts : List (Bor (List ℕ))). Begun c.args.boundary.now c.args.body.now c.in-Some.first ts) (sym c.new-parts.ensures.items)
    (begun_first c.args.boundary.now c.args.body.now c.in-Some.first c.in-Some.ensures)

pub returns-in_default-rest-clause-bad : goal.returns-in_default-rest-clause-bad
returns-in_default-rest-clause-bad c = λ _. begun_cut c.args.boundary.now c.args.body.now c.parts.mark c.parts.parts.items c.parts.invariant c.parts-test.true c.in_default-rest.is

pub returns-in_default-to_mark-clause-bad : goal.returns-in_default-to_mark-clause-bad
returns-in_default-to_mark-clause-bad c = λ _.
    begun_stuck c.args.boundary.now c.args.body.now c.parts.mark c.parts.parts.items c.in-Some-rest.rest c.parts.invariant c.parts-test.true c.in-Some-rest.is c.in_default-to_mark.ensures

pub parts-preserved : goal.parts-preserved
parts-preserved c =
    let more = begun_next c.args.boundary.now c.args.body.now c.parts.mark c.parts.parts.items c.in-Some-rest.rest c.in-Some-to_mark.next c.without_end.result
    c.parts.invariant c.parts-test.true c.in-Some-rest.is c.in-Some-to_mark.ensures c.without_end.ensures in
    subst (λ (ts : List (Bor (List ℕ))). Begun c.args.boundary.now c.args.body.now c.in-Some-to_mark.next ts) (search rules) more

pub returns-clause-parts : goal.returns-clause-parts
returns-clause-parts c = begun_ended c.args.boundary.now c.args.body.now c.parts.mark c.parts.parts.items c.parts.invariant c.parts-test.false
