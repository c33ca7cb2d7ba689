use Rattle.std.proofs.Common.{subst, ap, ◌∙◌, Ok}
use Rattle.mt_open.specs.Reading.{ReadsChunk}
use Rattle.mt_open.proofs.ReadingLaws.{part_start, part_more, part_end}
use Rattle.mt_open.proofs.reading.read_partition.Goals as goal

pub loop-place-init : goal.loop-place-init
loop-place-init g c = part_start (g.K.Keeper.state c.args.keeper.now) c.args.pk.now c.args.rows.now.items c.requires

pub loop-place-preserved : goal.loop-place-preserved
loop-place-preserved g c =
    let s = g.K.Keeper.state c.args.keeper.now in
    let t = g.K.Keeper.state c.loop-place.keeper in
    let u = g.K.Keeper.state c.read_chunk.new.keeper in
    let now = c.loop-place.rows.items in
    let after = c.read_chunk.new.rows.items in
    part_more s t u c.args.pk.now c.args.rows.now.items c.loop-place.from now after c.in-Ok-Some.place c.loop-place.invariant
    (subst (λ r. ReadsChunk t c.args.pk.now c.loop-place.from now r after u) (c.in-Ok-Some.is ∙ ap Ok c.in-Ok-Some.field-0-is) c.read_chunk.ensures)

pub returns-in-Ok-None : goal.returns-in-Ok-None
returns-in-Ok-None g c =
    let s = g.K.Keeper.state c.args.keeper.now in
    let t = g.K.Keeper.state c.loop-place.keeper in
    let u = g.K.Keeper.state c.read_chunk.new.keeper in
    let now = c.loop-place.rows.items in
    let after = c.read_chunk.new.rows.items in
    part_end s t u c.args.pk.now c.args.rows.now.items c.loop-place.from now after c.loop-place.invariant
    (subst (λ r. ReadsChunk t c.args.pk.now c.loop-place.from now r after u) (c.in-Ok-None.is ∙ ap Ok c.in-Ok-None.field-0-is) c.read_chunk.ensures)
