use Rattle.std.proofs.Common.{List, ap, ◌∙◌}
use Rattle.mt_mem.specs.Entries.{Row, entries}
use Rattle.mt_mem.specs.Changes.{edits_of, edited}
use Rattle.mt_mem.specs.Memory.{Memory}
use Rattle.mt_mem.proofs.TagLaws.{memory_planned}
use Rattle.mt_paged.specs.Pages.{joined, rows_in}
use Rattle.mt_paged.proofs.keeper.PagedKeeper.judge.Goals as goal

pub invariant_of-self-2 : goal.invariant_of-self-2
invariant_of-self-2 c =
    let inside = c.self.inside in
    let m : Memory = record { store = inside.store; rows = rows_in inside.pages; sealed = inside.sealed; counter = inside.counter; calls = inside.calls; faults = inside.faults; failing = inside.failing.items } in
    let pk = c.args.pk.now in
    let plan = c.in-Ok.ensures in
    memory_planned m pk c.as_slice-puts.result.now (rows_in c.make_all.new.pages) c.in-Ok.plan.counter
    (c.make_all.ensures.rows
    ∙ ap (λ (ps : List (List Row)). edited (edits_of pk c.in-Ok.plan.changes.items) (entries (joined ps))) c.reserve.ensures.pages
    ∙ plan.rows (rows_in inside.pages))
    plan.counter c.self.invariant
