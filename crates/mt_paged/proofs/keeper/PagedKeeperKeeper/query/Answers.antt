use Rattle.std.proofs.Common.{◌≡◌, false, Ok, cond, sym, ap, subst, ◌∙◌}
use Rattle.mt_chain.specs.StoreCall.{Contents, IsFound}
use Rattle.mt_chain.specs.Store.{Queries}
use Rattle.mt_mem.specs.Memory.{contents_of, store_of, counted, failed, is_failing}
use Rattle.mt_mem.proofs.MemoryLaws.{queries_found}
use Rattle.mt_paged.specs.Pages.{rows_in}
use Rattle.mt_paged.specs.Paged.{Paged}
use Rattle.mt_paged.proofs.keeper.PagedKeeperKeeper.query.Goals as goal

pub find-requires-clause-can : goal.find-requires-clause-can
find-requires-clause-can c = c.requires

pub returns-clause-keeper : goal.returns-clause-keeper
returns-clause-keeper c =
    let m = c.args.self.now.memory in
    let q = c.args.query.now in
    let inside = c.self.inside in
    let found = c.in-Ok.found in
    let after : c.count_call.new.self.memory ≡ counted m = c.count_call.ensures.after ∙ ap (λ b. cond b (failed m) (counted m)) c.if-fails.false in
    let fails : is_failing m ≡ false = sym c.is_failing-fails.ensures ∙ c.if-fails.false in
    let kept : Contents = record { rows = rows_in inside.pages; sealed = inside.sealed; counter = inside.counter } in
    let seen : kept ≡ contents_of m = ap (λ (v : Paged). contents_of v.memory) c.self.view_is ∙ ap contents_of after in
    subst (λ n. Queries (store_of m) q (Ok found) (store_of n)) (sym after)
    (queries_found m q found fails c.count_call.ensures.memory c.count_call.ensures.grew.0 (subst (IsFound q found) seen (c.in-Ok.ensures inside.counter)))
