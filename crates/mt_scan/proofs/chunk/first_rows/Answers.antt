use Rattle.std.proofs.Common.{Bool, nat_lt, List, length, Option, option_map, option_copied, ap, sym, subst, ◌∙◌}
use Rattle.mt_model.specs.declared.entity.Entity.{Entity}
use Rattle.mt_chain.specs.declared.row.StoredRow.{StoredRow}
use Rattle.mt_chain.specs.TwoLists.{first_row, rows_past}
use Rattle.mt_query_plan.specs.Answers.{wanted_over, with_key, with_one}
use Rattle.mt_scan.specs.Chunks.{next_key}
use Rattle.mt_scan.proofs.ChunkLaws.{Finding, none_found, found_more, all_found}
use Rattle.mt_scan.proofs.chunk.first_rows.Goals as goal

pub loop-rk-init : goal.loop-rk-init
loop-rk-init c =
    subst (λ (found : List Entity). Finding c.args.pk.now c.args.filter.now c.args.phase c.args.rows.now c.args.entries.now c.args.room (option_copied c.args.end) found c.args.rows.now c.args.entries.now) (sym c.new-found.ensures.items)
    (none_found c.args.pk.now c.args.filter.now c.args.phase c.args.rows.now c.args.entries.now c.args.room (option_copied c.args.end) c.requires.rising.0 c.requires.rising.1)

pub loop-rk-preserved : goal.loop-rk-preserved
loop-rk-preserved c =
    let pk = c.args.pk.now in
    let test = c.args.filter.now in
    let phase = c.args.phase in
    let rows = c.args.rows.now in
    let entries = c.args.entries.now in
    let found = c.loop-rk.found.items in
    let old = c.loop-rk.old.now in
    let new = c.loop-rk.new.now in
    let m = c.in-Some.rk.now in
    let pushed =
    c.in_ok-push_one.ensures ∙ ap (with_one found) (c.in_ok-one.ensures
    ∙ ap (λ (r : Option StoredRow). option_map (with_key pk m) (wanted_over pk test phase m r (option_copied c.first_row-entry.result))) c.first_row-row.ensures
    ∙ ap (λ (r : Option StoredRow). option_map (with_key pk m) (wanted_over pk test phase m (first_row m old) r)) c.first_row-entry.ensures) in
    subst (λ (f : List Entity). Finding pk test phase rows entries c.args.room (option_copied c.args.end) f c.rows_past-old.result.now c.rows_past-new.result.now) (sym pushed)
    (subst (λ (o : List StoredRow). Finding pk test phase rows entries c.args.room (option_copied c.args.end) (with_one found (option_map (with_key pk m) (wanted_over pk test phase m (first_row m old) (first_row m new)))) o c.rows_past-new.result.now) (sym c.rows_past-old.ensures)
    (subst (λ (n : List StoredRow). Finding pk test phase rows entries c.args.room (option_copied c.args.end) (with_one found (option_map (with_key pk m) (wanted_over pk test phase m (first_row m old) (first_row m new)))) (rows_past m old) n) (sym c.rows_past-new.ensures)
    (found_more pk test phase rows entries c.args.room (option_copied c.args.end) found old new m c.loop-rk.invariant
    (ap (λ (es : List Entity). next_key (nat_lt (length es) c.args.room) (option_copied c.args.end) old new) (sym c.deref.ensures.value)
    ∙ ap (λ (b : Bool). next_key b (option_copied c.args.end) old new) (sym c.has_room.ensures) ∙ sym c.in-Some.ensures))))

pub returns : goal.returns
returns c = all_found c.args.pk.now c.args.filter.now c.args.phase c.args.rows.now c.args.entries.now c.args.room (option_copied c.args.end) c.loop-rk.found.items c.loop-rk.old.now c.loop-rk.new.now c.requires.room c.loop-rk.invariant
    (ap (λ (es : List Entity). next_key (nat_lt (length es) c.args.room) (option_copied c.args.end) c.loop-rk.old.now c.loop-rk.new.now) (sym c.deref.ensures.value)
    ∙ ap (λ (b : Bool). next_key b (option_copied c.args.end) c.loop-rk.old.now c.loop-rk.new.now) (sym c.has_room.ensures) ∙ sym c.in_default.ensures)
