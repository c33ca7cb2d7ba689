use Rattle.std.proofs.Common.{◌≡◌, ◌∷◌, ◌++◌, ◌+◌, [], drop, append-nil, ap, sym, subst, ◌∙◌, arith}
use Rattle.std.proofs.lemmas.List.{drop_all}
use Rattle.mt_chain.specs.Puts.{all_counter_after, tags_of}
use Rattle.mt_mem.specs.Changes.{edits_of, edit_by, edits_by, IsChange}
use Rattle.mt_chain.proofs.PutLaws.{counter_one}
use Rattle.mt_mem.proofs.PlanLaws.{next_item, edits_more, edits_pushed, edits_kept, tags_more, counter_more, planned_edits, planned_rows}
use Rattle.mt_mem.proofs.change.prepare.Goals as goal
use Rattle.mt_mem.proofs.change.prepare.Goals.{in-Some+in_ok-push-in-Some, in-None}

pub loop-put-preserved : goal.loop-put-preserved
loop-put-preserved c =
    let at = c.loop-put in
    let store = c.args.store in
    let pk = c.args.pk.now in
    let puts = c.args.puts.now in
    let put = c.put-item.result in
    let count = c.counter_after-counter.ensures in
    let next : drop at.put-index puts ≡ put ∷ drop (at.put-index + 1) puts = next_item puts at.put-index put c.loop-put-test.true c.put-item.is in
    let more : edits_of pk c.match-branch-4.changes.items ≡ edits_of pk at.changes.items ++ edit_by store at.counter pk put = elim c.match-branch-4.branch [
      | in-Some+in_ok-push-in-Some w ↦
          edits_pushed store at.counter pk put at.changes.items c.match-branch-4.changes.items w.in-Some.change
          (ap (λ cs. cs.items) w.changes-is ∙ w.in_ok-push-in-Some.ensures.items) (subst (IsChange store at.counter pk put) w.in-Some.is c.in_ok-change.ensures)
      | in-None w ↦
          edits_kept store at.counter pk put at.changes.items c.match-branch-4.changes.items
          (ap (λ cs. cs.items) w.changes-is) (subst (IsChange store at.counter pk put) w.in-None.is c.in_ok-change.ensures)
    ] in
    record {
      edits = edits_more store at.counter c.counter_after-counter.result pk puts at.put-index put (edits_of pk at.changes.items) (edits_of pk c.match-branch-4.changes.items) next count more ∙ at.invariant.edits;
      tags = tags_more store at.counter c.counter_after-counter.result puts at.put-index put at.tags.items c.push-in-loop-put.new.self.items c.tag_of.result next count c.tag_of.ensures c.in_ok-push.ensures.items ∙ at.invariant.tags;
      counter = counter_more at.counter c.counter_after-counter.result puts at.put-index put next count ∙ at.invariant.counter;
      bound = (let one = (counter_one at.counter put).1 in let was = at.invariant.bound in omega (arith, count));
    }

pub returns : goal.returns
returns c =
    let at = c.loop-put in
    let store = c.args.store in
    let pk = c.args.pk.now in
    let puts = c.args.puts.now in
    let none : drop at.put-index puts ≡ [] = drop_all at.put-index puts c.loop-put-test.false in
    let edits : edits_of pk at.changes.items ≡ edits_by store c.args.counter pk puts =
    sym (append-nil (edits_of pk at.changes.items))
    ∙ ap (λ ps. edits_of pk at.changes.items ++ edits_by store at.counter pk ps) (sym none)
    ∙ at.invariant.edits in
    record {
      edits = planned_edits store c.args.counter pk puts (edits_of pk at.changes.items) c.requires.can.apart edits;
      rows = planned_rows store c.args.counter pk puts (edits_of pk at.changes.items) edits;
      tags = sym (append-nil at.tags.items) ∙ ap (λ ps. at.tags.items ++ tags_of store at.counter ps) (sym none) ∙ at.invariant.tags;
      counter = ap (all_counter_after at.counter) (sym none) ∙ at.invariant.counter;
    }
