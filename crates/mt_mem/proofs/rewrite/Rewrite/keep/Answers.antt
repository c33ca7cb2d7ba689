use Rattle.std.proofs.Common.{◌≡◌, ◌++◌, take, drop, append_assoc, [], ap, sym, ◌∙◌, arith, eqb-true, deque_len}
use Rattle.std.proofs.lemmas.List.{nil_from_length, drop-drop}
use Rattle.mt_mem.proofs.RewriteLaws.{all_stayed_written, take_and}
use Rattle.mt_mem.proofs.rewrite.Rewrite.keep.Goals as goal

pub returns-then-is_empty-clause-written : goal.returns-then-is_empty-clause-written
returns-then-is_empty-clause-written c =
    let s = c.self.inside in
    let none : s.waiting.items ≡ [] = nil_from_length s.waiting.items (let empty = eqb-true (deque_len s.waiting) 0 (sym c.is_empty.ensures ∙ c.if-is_empty.true) in let ok = s.waiting.ok.0 in omega (arith, empty)) in
    all_stayed_written s.rows.items s.waiting.items s.filled s.read c.args.count c.if-self.true none
    ∙ ap (λ v. v.written ++ take c.args.count v.left) c.self.view_is

pub loop-preserved : goal.loop-preserved
loop-preserved c =
    let at = c.loop in
    let first = c.args.self.now in
    record {
      written = c.keep_one.ensures.written
          ∙ ap (λ xs. xs ++ take 1 at.self.left) at.invariant.written
          ∙ ap (λ ls. (first.written ++ take at.counter first.left) ++ take 1 ls) at.invariant.left
          ∙ append_assoc first.written (take at.counter first.left) (take 1 (drop at.counter first.left))
          ∙ sym (ap (λ xs. first.written ++ xs) (take_and at.counter 1 first.left));
      left = c.keep_one.ensures.left ∙ ap (drop 1) at.invariant.left ∙ drop-drop 1 at.counter first.left;
      spare = c.keep_one.ensures.spare ∙ at.invariant.spare;
    }
