use Rattle.std.proofs.Common.{List, [], Option, option_map, option_copied, ap, sym, subst, ◌∙◌}
use Rattle.mt_model.specs.declared.entity.Entity.{Entity}
use Rattle.mt_chain.specs.declared.row.StoredRow.{StoredRow}
use Rattle.mt_history.proofs.ListingLaws.{keys_rise}
use Rattle.mt_chain.specs.TwoLists.{first_row, rows_past}
use Rattle.mt_query_plan.specs.Answers.{wanted_over, with_key, with_one}
use Rattle.mt_query_plan.proofs.WalkLaws.{Walked, walk_start, walk_more}
use Rattle.mt_query_plan.proofs.answer.answer.Goals as goal

pub loop-rk-init : goal.loop-rk-init
loop-rk-init c =
    let pk = c.args.pk.now in
    let test = c.args.filter.now in
    let rows = c.args.rows.now in
    let entries = c.args.entries.now in
    subst (λ (found : List Entity). Walked pk test c.args.phase rows entries found c.as_slice-old.result.now c.as_slice-new.result.now) (sym c.new-found.ensures.items)
    (subst (λ (old : List StoredRow). Walked pk test c.args.phase rows entries [] old c.as_slice-new.result.now) (sym c.as_slice-old.ensures.value)
    (subst (λ (new : List StoredRow). Walked pk test c.args.phase rows entries [] rows new) (sym c.as_slice-new.ensures.value)
    (walk_start pk test c.args.phase rows entries c.as_slice-old.ensures.rising c.as_slice-new.ensures.rising)))

pub loop-rk-preserved : goal.loop-rk-preserved
loop-rk-preserved c =
    let pk = c.args.pk.now in
    let test = c.args.filter.now in
    let phase = c.args.phase in
    let rows = c.args.rows.now in
    let entries = c.args.entries.now in
    let found = c.loop-rk.found.items in
    let old = c.loop-rk.old.now in
    let new = c.loop-rk.new.now in
    let m = c.in-Some.rk.now in
    let pushed =
    c.in_ok-push_one.ensures ∙ ap (with_one found) (c.in_ok-one.ensures
    ∙ ap (λ (r : Option StoredRow). option_map (with_key pk m) (wanted_over pk test phase m r (option_copied c.first_row-entry.result))) c.first_row-row.ensures
    ∙ ap (λ (r : Option StoredRow). option_map (with_key pk m) (wanted_over pk test phase m (first_row m old) r)) c.first_row-entry.ensures) in
    subst (λ (f : List Entity). Walked pk test phase rows entries f c.rows_past-old.result.now c.rows_past-new.result.now) (sym pushed)
    (subst (λ (o : List StoredRow). Walked pk test phase rows entries (with_one found (option_map (with_key pk m) (wanted_over pk test phase m (first_row m old) (first_row m new)))) o c.rows_past-new.result.now) (sym c.rows_past-old.ensures)
    (subst (λ (n : List StoredRow). Walked pk test phase rows entries (with_one found (option_map (with_key pk m) (wanted_over pk test phase m (first_row m old) (first_row m new)))) (rows_past m old) n) (sym c.rows_past-new.ensures)
    (walk_more pk test phase rows entries found old new m c.loop-rk.invariant (sym c.in-Some.ensures))))

pub of-requires : goal.of-requires
of-requires c = keys_rise c.loop-rk.found.items c.loop-rk.invariant.rising
