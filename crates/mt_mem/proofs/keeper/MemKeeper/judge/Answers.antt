use Rattle.std.proofs.Common.{ap, ◌∙◌}
use Rattle.mt_mem.specs.Entries.{entries}
use Rattle.mt_mem.specs.Changes.{edits_of, edited}
use Rattle.mt_mem.specs.Memory.{Memory}
use Rattle.mt_mem.proofs.TagLaws.{memory_planned}
use Rattle.mt_mem.proofs.keeper.MemKeeper.judge.Goals as goal

pub invariant_of-self-2 : goal.invariant_of-self-2
invariant_of-self-2 c =
    let inside = c.self.inside in
    let m : Memory = record { store = inside.store; rows = entries inside.rows.items; sealed = inside.sealed; counter = inside.counter; calls = inside.calls; faults = inside.faults; failing = inside.failing.items } in
    let pk = c.args.pk.now in
    let puts = c.as_slice-puts.result.now in
    let plan = c.in-Ok.ensures in
    memory_planned m pk puts (entries c.make_all.result.items) c.in-Ok.plan.counter
    (c.make_all.ensures
    ∙ ap (λ rs. edited (edits_of pk c.in-Ok.plan.changes.items) (entries rs)) (c.new-2.ensures.left ∙ ap (λ v. v.items) c.replace-rows.ensures.value ∙ c.try_reserve.ensures.items)
    ∙ plan.rows (entries inside.rows.items))
    plan.counter c.self.invariant
