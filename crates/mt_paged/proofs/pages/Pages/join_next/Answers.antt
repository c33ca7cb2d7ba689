use Rattle.std.proofs.Common.{◌+◌, ◌<◌, [], length, get_or, set, List, ap, sym, subst, ◌∙◌, arith}
use Rattle.std.proofs.lemmas.List.{length-append}
use Rattle.mt_paged.specs.Pages.{Paging, AreFilled}
use Rattle.mt_mem.specs.Entries.{Row}
use Rattle.mt_paged.proofs.PagesLaws.{filled_at}
use Rattle.mt_paged.proofs.PagesLaws.{joined_two, filled-set, filled-remove}
use Rattle.mt_paged.proofs.pages.Pages.join_next.Goals as goal

pub invariant_of-self : goal.invariant_of-self
invariant_of-self c =
    let list : List (List Row) = c.self.inside.list.items in
    let l : c.args.at + 1 < length list = subst (λ (v : Paging). c.args.at + 1 < length v.pages) (sym c.self.view_is) c.requires.within in
    let some : 0 < length c.take_page-next.result = subst (λ (p : List Row). 0 < length p) (sym c.take_page-next.ensures.page) (filled_at list (c.args.at + 1) [] c.self.invariant.0 l) in
    let filled : AreFilled c.take_page-next.new.list.items = subst AreFilled (sym c.take_page-next.ensures.items) (filled-remove list (c.args.at + 1) c.self.invariant.0) in
    (filled-set c.take_page-next.new.list.items c.args.at c.join.new.self filled (let n = ap length c.join.ensures ∙ length-append c.index_mut.result.now c.take_page-next.result in omega (arith, n)), c.self.invariant.1)

pub returns : goal.returns
returns c =
    let spare = ap (λ (v : Paging). v.spare) c.self.view_is in
    joined_two c.args.self.now _ c.self.inside.list.items c.args.at c.index_mut.result.now c.take_page-next.result c.join.new.self
    (ap (λ (v : Paging). v.pages) c.self.view_is) c.requires.within c.take_page-next.ensures.page
    (c.index_mut.ensures.value ∙ ap (λ (ps : List (List Row)). get_or ps c.args.at c.index_mut.result.now) c.take_page-next.ensures.items)
    c.join.ensures (ap (λ (ps : List (List Row)). set ps c.args.at c.join.new.self) c.take_page-next.ensures.items)
    (let a = c.take_page-next.ensures.len in let b = c.take_page-next.ensures.capacity in omega (arith, spare, a, b))
