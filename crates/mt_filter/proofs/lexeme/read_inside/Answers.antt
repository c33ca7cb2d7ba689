use Rattle.std.proofs.Common.{List, ℕ, subst, refl}
use Rattle.mt_time.specs.Moment.{HasNoTicks}
use Rattle.mt_filter.proofs.lexeme.read_inside.Goals as goal

pub returns-in-Err-clause-value : goal.returns-in-Err-clause-value
returns-in-Err-clause-value c =
    let P : List ℕ → Type 0 = λ bs. HasNoTicks bs in
    rw c.in-Moment.is (subst P c.as_bytes.ensures.value c.in-Err.ensures.bad, refl)
