use Rattle.std.proofs.Common.{◌≡◌, ◌+◌, ◌-◌, take, set, sym, subst, vec_len, List, ap, arith, insert}
use Rattle.mt_paged.specs.Pages.{Paging, AreFilled}
use Rattle.mt_mem.specs.Entries.{Row}
use Rattle.mt_paged.proofs.PagesLaws.{rewrote_two, filled-insert, filled-set, still_empty}
use Rattle.mt_paged.proofs.pages.Pages.insert_split.Goals as goal

pub returns-in-Some : goal.returns-in-Some
returns-in-Some c =
    let spare = ap (λ (v : Paging). v.spare) c.self.view_is in
    rewrote_two (λ (page : List Row). insert page c.args.place c.args.row) c.args.self.now _ c.self.inside.list.items c.args.at c.index_mut.result.now c.insert_split.new.self c.insert_split.new.other
    (ap (λ (v : Paging). v.pages) c.self.view_is) c.requires.within c.index_mut.ensures.value c.insert_split.ensures.all c.place_page.ensures.items (grind (arith, spare))

pub invariant_of-self : goal.invariant_of-self
invariant_of-self c =
    let list : List (List Row) = c.self.inside.list.items in
    let n = vec_len c.self.inside.pool - 1 in
    let rest : c.pop.new.self.items ≡ take n c.self.inside.pool.items = c.in-Some.ensures.rest in (
      subst AreFilled (sym c.place_page.ensures.items) (filled-insert (set list c.args.at c.insert_split.new.self) (c.args.at + 1) c.insert_split.new.other (filled-set list c.args.at c.insert_split.new.self c.self.invariant.0 c.insert_split.ensures.left) c.insert_split.ensures.right),
      rw rest (still_empty c.self.inside.pool.items n c.self.invariant.1),
    )
