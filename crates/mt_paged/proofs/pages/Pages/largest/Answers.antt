use Rattle.std.proofs.Common.{◌≡◌, ◌+◌, ◌<◌, ◌≤◌, [], max, List, map, length, drop, ap, sym, subst, ◌∙◌, arith}
use Rattle.std.proofs.lemmas.List.{drop_all}
use Rattle.mt_mem.specs.Entries.{Row}
use Rattle.mt_paged.specs.Pages.{AreFilled, Paging}
use Rattle.mt_paged.specs.Paged.{greatest}
use Rattle.mt_paged.proofs.SizeLaws.{are_sizes, one_more}
use Rattle.mt_paged.proofs.pages.Pages.largest.Goals as goal

pub loop-at-preserved : goal.loop-at-preserved
loop-at-preserved c =
    let at = c.loop-at in
    let pages = c.args.self.now.pages in
    let within : at.at < length pages = (let l = c.loop-at-test.true in let n = c.len-at-end.ensures in omega (arith, l, n)) in
    let grown = c.greater-largest.ensures in
    record {
      left = ap (λ n. max n (greatest (map length (drop (at.at + 1) pages)))) (grown ∙ ap (λ (p : List Row). max at.largest (length p)) c.page.ensures.now)
          ∙ one_more pages at.at at.largest within
          ∙ at.invariant.left;
      few = (let one = c.page.ensures.few in let was = at.invariant.few in omega (arith, grown, one, was));
    }

pub returns-clause-sizes : goal.returns-clause-sizes
returns-clause-sizes c =
    let at = c.loop-at in
    let pages = c.args.self.now.pages in
    let filled : AreFilled pages = subst (λ (v : Paging). AreFilled v.pages) c.self.view_is c.self.invariant.0 in
    let none : drop at.at pages ≡ [] = drop_all at.at pages (let l = c.loop-at-test.false in let n = c.len-at-end.ensures in omega (arith, l, n)) in
    let all : max at.largest 0 ≡ greatest (map length pages) = ap (λ (ps : List (List Row)). max at.largest (greatest (map length ps))) (sym none) ∙ at.invariant.left in
    are_sizes c.args.self.now filled (let few = at.invariant.few in omega (arith, all, few))
