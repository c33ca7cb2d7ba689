use Rattle.std.proofs.Common.{◌≡◌, ◌∷◌, ◌++◌, [], true, rules, length, sym, ap, subst, ◌∙◌, arith}
use Rattle.std.proofs.lemmas.List.{map-append, nil_from_length}
use Rattle.std.proofs.lemmas.List.Sorted.{IsPermutation-map, length_permutation}
use Rattle.std.specs.List.{AllByRecursion}
use Rattle.std.specs.Vec.Iter.{into_iter_items}
use Rattle.std.specs.FinMap.Entries.{is_sorted}
use Rattle.mt_model.specs.Key.{key_cmp}
use Rattle.mt_mem.specs.Entries.{entry, entries}
use Rattle.mt_mem.specs.Changes.{Edit, AreEdits, edit_of, edits_of, edited}
use Rattle.mt_mem.proofs.EditLaws.{any_order, permuted, edits_rise}
use Rattle.mt_mem.proofs.PassLaws.{made_more, rising_more, sorted_more}
use Rattle.mt_mem.proofs.change.make_all.Goals as goal

pub make-requires-clause-rising : goal.make-requires-clause-rising
make-requires-clause-rising c = c.loop-change.invariant.rising

pub make-requires-clause-spare : goal.make-requires-clause-spare
make-requires-clause-spare c = (let room = c.loop-change.invariant.room in let short = ap length c.in-Some.ensures.steps.0 in omega (arith, room, short))

pub make-requires-clause-own : goal.make-requires-clause-own
make-requires-clause-own c =
    let pk = c.args.pk.now in
    (subst (λ is. AllByRecursion (λ (e : Edit). e.0.pk ≡ pk) (edits_of pk is)) c.in-Some.ensures.steps.0 c.loop-change.invariant.own).0

pub loop-change-preserved : goal.loop-change-preserved
loop-change-preserved c =
    let at = c.loop-change in
    let pk = c.args.pk.now in
    let change = c.in-Some.change in
    let rest = into_iter_items c.next.new.self in
    let steps : into_iter_items at.change-iterator ≡ change ∷ rest = c.in-Some.ensures.steps.0 in
    let short = ap length steps in
    let edit = edit_of pk change in
    let edits = edits_of pk rest in
    let sorted : is_sorted key_cmp (edit ∷ edits) ≡ true = subst (λ is. is_sorted key_cmp (edits_of pk is) ≡ true) steps at.invariant.sorted in
    record {
      made = made_more edit edits at.pass c.make.new.pass sorted c.make.ensures
          ∙ sym (ap (λ is. entries at.pass.written ++ edited (edits_of pk is) (entries at.pass.left)) steps)
          ∙ at.invariant.made;
      rising = rising_more edit at.pass c.make.new.pass at.invariant.rising c.make.ensures;
      sorted = sorted_more edit edits sorted;
      own = (subst (λ is. AllByRecursion (λ (e : Edit). e.0.pk ≡ pk) (edits_of pk is)) steps at.invariant.own).1;
      room = (let room = at.invariant.room in let more = c.make.ensures.spare in omega (arith, short));
      long = (let was = at.invariant.long in let gone = c.in-Some.ensures.steps.1 in omega (arith, short));
    }

pub loop-change-init : goal.loop-change-init
loop-change-init c =
    let pk = c.args.pk.now in
    let changes = c.args.changes.items in
    let sorted = c.sorted-change-items.result.items in
    let items = into_iter_items c.into_iter-change-iterator.result in
    let is : items ≡ sorted = c.into_iter-change-iterator.ensures.into_iter_gives.0 in
    let permutation = c.sorted-change-items.ensures.permutation in
    let edits : AreEdits pk (edits_of pk sorted) = permuted pk (edits_of pk changes) (edits_of pk sorted) (IsPermutation-map (edit_of pk) changes sorted permutation) c.requires.edits in
    record {
      made = ap (λ ws. entries ws ++ edited (edits_of pk items) (entries c.args.pass.left)) c.requires.begin;
      rising = c.requires.rising;
      sorted = subst (λ is. is_sorted key_cmp (edits_of pk is) ≡ true) (sym is) (edits_rise pk sorted c.sorted-change-items.ensures.sorted edits);
      own = subst (λ is. AllByRecursion (λ (e : Edit). e.0.pk ≡ pk) (edits_of pk is)) (sym is) edits.own;
      room = (let long = ap length is in let same = length_permutation changes sorted permutation in let room = c.requires.room in omega (arith, long, same));
      long = search rules;
    }

pub returns : goal.returns
returns c =
    let at = c.loop-change in
    let pk = c.args.pk.now in
    let changes = c.args.changes.items in
    let sorted = c.sorted-change-items.result.items in
    let rows = entries c.args.pass.left in
    let none = c.in-None.ensures.steps in
    let empty : into_iter_items at.change-iterator ≡ [] = nil_from_length _ (sym at.invariant.long ∙ none.0) in
    let same = IsPermutation-map (edit_of pk) changes sorted c.sorted-change-items.ensures.permutation in
    ap entries c.finish.ensures
    ∙ map-append entry at.pass.written at.pass.left
    ∙ sym (ap (λ is. entries at.pass.written ++ edited (edits_of pk is) (entries at.pass.left)) empty)
    ∙ at.invariant.made
    ∙ ap (λ is. edited (edits_of pk is) rows) c.into_iter-change-iterator.ensures.into_iter_gives.0
    ∙ sym (any_order (edits_of pk changes) (edits_of pk sorted) rows same c.requires.edits.apart c.requires.rising)
