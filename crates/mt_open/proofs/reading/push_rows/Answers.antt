use Rattle.std.proofs.Common.{◌≡◌, ◌∷◌, ◌++◌, [], append-nil, length, arith, sym, ap, ◌∙◌}
use Rattle.std.proofs.lemmas.List.{nil_from_length, append_assoc}
use Rattle.std.specs.Vec.Iter.{into_iter_items}
use Rattle.mt_open.specs.Reading.{keyed_row, keyed}
use Rattle.mt_open.proofs.reading.push_rows.Goals as goal

pub loop-row-preserved : goal.loop-row-preserved
loop-row-preserved c =
    let at = c.loop-row in
    let pk = c.args.pk.now in
    let row = c.in-Some.row in
    let rest = into_iter_items c.next.new.self in
    let steps : into_iter_items at.row-iterator ≡ row ∷ rest = c.in-Some.ensures.steps.0 in
    let short = ap length steps in
    let now = at.rows.items in
    let more : c.push.new.self.items ≡ now ++ keyed_row pk row ∷ [] = c.in_ok-push.ensures.items ∙ ap (λ r. now ++ r ∷ []) c.in_ok-row_of.ensures in
    record {
      pushed = ap (λ rs. rs ++ keyed pk rest) more
          ∙ append_assoc now (keyed_row pk row ∷ []) (keyed pk rest)
          ∙ sym (ap (λ is. now ++ keyed pk is) steps)
          ∙ at.invariant.pushed;
      long = (let was = at.invariant.long in let gone = c.in-Some.ensures.steps.1 in omega (arith, short));
    }

pub returns : goal.returns
returns c =
    let at = c.loop-row in
    let pk = c.args.pk.now in
    let none : into_iter_items at.row-iterator ≡ [] = nil_from_length _ (sym at.invariant.long ∙ c.in-None.ensures.steps.0) in
    sym (append-nil at.rows.items)
    ∙ ap (λ is. at.rows.items ++ keyed pk is) (sym none)
    ∙ at.invariant.pushed
    ∙ ap (λ is. c.args.rows.now.items ++ keyed pk is) c.into_iter-row-iterator.ensures.into_iter_gives.0
