use Rattle.std.proofs.Common.{sym, ◌∙◌, ap, refl}
use Rattle.mt_target.specs.Paths.{opened_text}
use Rattle.mt_target.proofs.PathLaws.{no_keys}
use Rattle.mt_target.proofs.paths.read_keys.Goals as goal

pub returns-in-None : goal.returns-in-None
returns-in-None c x e =
    no_keys c.in-Some.behind.now c.args.opened x (ap opened_text c.in-Some.is) (sym c.eq.ensures ∙ c.if-eq.false) (λ pk rk f. (rw c.in-None.is at c.in_ok-pk.ensures) (pk, rk) f) e
