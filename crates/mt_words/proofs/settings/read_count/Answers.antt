use Rattle.std.proofs.Common.{◌≡◌, ◌<◌, ◌^◌, arith, sym, ◌∙◌}
use Rattle.std.proofs.lemmas.Fmt.{decimal_injective}
use Rattle.mt_words.proofs.settings.read_count.Goals as goal
use Rattle.mt_words.proofs.settings.read_count.Goals.{then-n-lt1-via-then-n-lt1, then-n-lt1-via-else-n-lt1+then-n-greatest}

pub returns-then-n-lt1 : goal.returns-then-n-lt1
returns-then-n-lt1 c n from upto e =
    let small : n < 2 ^ 64 = omega (arith, upto) in
    let same : c.in-Some.n ≡ n = decimal_injective c.in-Some.n n (omega arith) small (sym c.in-Some.ensures ∙ e) in
    elim c.then-n-lt1.branch [ then-n-lt1-via-then-n-lt1 w ↦ absurd (omega (arith, w.if-n-lt1, same, from)) | then-n-lt1-via-else-n-lt1+then-n-greatest w ↦ absurd (omega (arith, w.if-n-greatest, same, upto)) ]
