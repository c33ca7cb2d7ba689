use Rattle.std.proofs.Common.{◌≡◌, rules, subst, sym, refl, ap, ◌∙◌, Ok, []}
use Rattle.mt_chain.specs.declared.query.PkFrom.TheVariants as start
use Rattle.mt_chain.specs.declared.query.RkFrom.TheVariants as place
use Rattle.mt_chain.specs.Places.{is_before}
use Rattle.mt_open.specs.Reading.{Walked, AllPass, ReadsPartition}
use Rattle.mt_open.proofs.ReadingLaws.{walk_start, walk_shape, walk_more, walk_end}
use Rattle.mt_open.proofs.reading.read_store.Goals as goal

pub loop-next-init : goal.loop-next-init
loop-next-init g c =
    let s = g.K.Keeper.state c.args.keeper.now in
    let none : c.new-rows.result.items ≡ [] = search rules in
    subst (λ rows. Walked s (start.From c.in_ok-of.field-0) rows s) (sym none) (subst (λ pk. Walked s (start.From pk) [] s) (sym c.in_ok-of.ensures) (walk_start s))

pub returns-in-None : goal.returns-in-None
returns-in-None g c =
    let s = g.K.Keeper.state c.args.keeper.now in
    let t = g.K.Keeper.state c.loop-next.keeper in
    let u = g.K.Keeper.state c.next_partition.new.keeper in
    walk_end s t u c.loop-next.at (record { rows = c.of-in-None.result; sealed = c.in-Ok.next.sealed }) c.in-Ok.next
    (subst (λ rows. Walked s c.loop-next.at rows t) (sym c.of-in-None.ensures) c.loop-next.invariant)
    c.in-Ok.ensures c.in-None.is refl

pub read_next-requires : goal.read_next-requires
read_next-requires g c =
    let s = g.K.Keeper.state c.args.keeper.now in
    let t = g.K.Keeper.state c.loop-next.keeper in
    let u = g.K.Keeper.state c.next_partition.new.keeper in
    subst (λ pk. AllPass (is_before pk place.Start) c.loop-next.rows.items) (sym c.in-Some.pk-is)
    (walk_shape s t u c.loop-next.at c.loop-next.rows.items c.in-Ok.next c.in-Some.pk c.loop-next.invariant c.in-Ok.ensures c.in-Some.is)

pub loop-next-preserved : goal.loop-next-preserved
loop-next-preserved g c =
    let s = g.K.Keeper.state c.args.keeper.now in
    let t = g.K.Keeper.state c.loop-next.keeper in
    let u = g.K.Keeper.state c.next_partition.new.keeper in
    let v = g.K.Keeper.state c.read_next.new.keeper in
    let now = c.loop-next.rows.items in
    let after = c.read_next.new.rows.items in
    subst (λ at. Walked s at after v) (sym (c.in-Ok-read_next.ensures.place ∙ ap start.After c.in-Some.pk-is))
    (walk_more s t u v c.loop-next.at now after c.in-Ok.next c.in-Some.pk c.loop-next.invariant c.in-Ok.ensures c.in-Some.is
    (subst (λ pk. ReadsPartition u pk now (Ok tt) after v) c.in-Some.pk-is c.in-Ok-read_next.ensures.reads))
