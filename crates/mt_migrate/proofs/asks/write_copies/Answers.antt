use Rattle.std.proofs.Common.{◌∷◌, sym, subst, ap, ◌∙◌, arith}
use Rattle.mt_chain.specs.Puts.{CanApply}
use Rattle.mt_migrate.proofs.Merging.{can_write}
use Rattle.mt_migrate.proofs.asks.write_copies.Goals as goal

pub returns-clause-can : goal.returns-clause-can
returns-clause-can c =
    let made = c.in_ok-puts.ensures in
    let few = c.requires in
    subst CanApply (sym (c.of.ensures ∙ made.1 ∙ ap (λ first. first ∷ made.0) c.in_ok-check.ensures))
    (can_write c.args.upto.now c.args.rows.now c.args.entries.now c.args.copying.now.epoch made.0 made.2 (let n = made.3 in let a = few.0.0 in let b = few.1.0 in omega (arith, n, a, b)))
