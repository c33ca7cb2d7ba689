use Rattle.std.proofs.Common.{List, [], length, sym, subst, ap, arith}
use Rattle.mt_model.specs.declared.entity.Entity.{Entity}
use Rattle.mt_chain.specs.Rows.{Rows}
use Rattle.mt_open.specs.Holdings.{pair_in}
use Rattle.mt_chain.specs.Table.{IsListing}
use Rattle.mt_meta.specs.Steps.{logical_table}
use Rattle.mt_open.specs.Table.{entity_at, with_one}
use Rattle.mt_open.specs.Walk.{rows_past}
use Rattle.mt_open.proofs.WalkLaws.{Tabled, tabled_start, tabled_more, tabled_end, fewer}
use Rattle.mt_open.proofs.walk.logical_table.Goals as goal

pub loop-key-init : goal.loop-key-init
loop-key-init c =
    let p = pair_in c.args.stores.now in
    subst (λ (es : List Entity). Tabled p es c.rows-old.result.now c.rows-new.result.now) (sym c.new-items.ensures.items)
    (subst (λ (rows : Rows). Tabled p [] rows c.rows-new.result.now) (sym c.rows-old.ensures.value)
    (subst (λ (rows : Rows). Tabled p [] p.old.rows rows) (sym c.rows-new.ensures.value)
    (tabled_start p c.rows-old.ensures.rising c.rows-new.ensures.rising)))

pub first_key-requires : goal.first_key-requires
first_key-requires c = (c.loop-key.invariant.old_rising, c.loop-key.invariant.new_rising)

pub rows_past-old-requires : goal.rows_past-old-requires
rows_past-old-requires c = (c.loop-key.invariant.old_rising, c.in-Some.ensures.1)

pub rows_past-new-requires : goal.rows_past-new-requires
rows_past-new-requires c = (c.loop-key.invariant.new_rising, c.in-Some.ensures.2)

pub loop-key-smaller : goal.loop-key-smaller
loop-key-smaller c =
    let less = fewer c.in-Some.key.now c.loop-key.old.now c.loop-key.new.now c.in-Some.ensures.0 in
    let old = ap (λ (rows : Rows). length rows) c.rows_past-old.ensures in
    let new = ap (λ (rows : Rows). length rows) c.rows_past-new.ensures in
    omega (arith, less, old, new)

pub loop-key-preserved : goal.loop-key-preserved
loop-key-preserved c =
    let p = pair_in c.args.stores.now in
    let key = c.in-Some.key.now in
    subst (λ (es : List Entity). Tabled p es c.rows_past-old.result.now c.rows_past-new.result.now) (sym c.in_ok-push_entity.ensures)
    (subst (λ (rows : Rows). Tabled p (with_one c.loop-key.items.items (entity_at p key)) rows c.rows_past-new.result.now) (sym c.rows_past-old.ensures)
    (subst (λ (rows : Rows). Tabled p (with_one c.loop-key.items.items (entity_at p key)) (rows_past key c.loop-key.old.now) rows) (sym c.rows_past-new.ensures)
    (tabled_more p c.loop-key.items.items c.loop-key.old.now c.loop-key.new.now key c.loop-key.invariant c.in-Some.ensures)))

pub of-requires : goal.of-requires
of-requires c = c.loop-key.invariant.rising

pub returns : goal.returns
returns c =
    let p = pair_in c.args.stores.now in
    subst (λ es. IsListing es (logical_table p)) (sym c.of.ensures) (tabled_end p c.loop-key.items.items c.loop-key.old.now c.loop-key.new.now c.loop-key.invariant c.in_default.ensures)
