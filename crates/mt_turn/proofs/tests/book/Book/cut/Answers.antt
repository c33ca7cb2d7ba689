use Rattle.std.proofs.Common.{rules, ◌≡◌, ◌<◌, ◌∙◌, ap, List, [], ◌∷◌, length, remove, slice_index_or, sym, arith}
use Rattle.mt_turn.proofs.Theorems.{gives_cut}
use Rattle.mt_turn.proofs.tests.book.Book.cut.Goals as goal

front_and_rest : {A : Type 0} (xs : List A) (x : A) → 0 < length xs → x ≡ slice_index_or xs 0 x → xs ≡ x ∷ remove xs 0
front_and_rest [] x lt e = absurd (omega arith)
front_and_rest (y ∷ ys) x lt e = λ i. sym e i ∷ ys

pub returns-then-not-is_empty-clause-may : goal.returns-then-not-is_empty-clause-may
returns-then-not-is_empty-clause-may c = λ caller. gives_cut _ _ caller _ c.remove.result c.remove.new.self.items
    (front_and_rest c.args.self.now.lines.items c.remove.result (search rules) c.remove.ensures.value ∙ ap (λ l. c.remove.result ∷ l) (sym c.remove.ensures.items))
