use Rattle.std.proofs.Common.{◌≡◌, ◌<◌, ◌^◌, arith, sym, ◌∙◌}
use Rattle.std.proofs.lemmas.Fmt.{decimal_injective}
use Rattle.mt_options.proofs.numbers.read_number.Goals as goal
use Rattle.mt_options.proofs.numbers.read_number.Goals.{then-n-least-via-then-n-least, then-n-least-via-else-n-least+then-n-most}

pub returns-then-n-least : goal.returns-then-n-least
returns-then-n-least c n from upto e =
    let small : n < 2 ^ 64 = omega (arith, upto) in
    let same : c.in-Some.n ≡ n = decimal_injective c.in-Some.n n (omega arith) small (sym c.in-Some.ensures ∙ e) in
    elim c.then-n-least.branch [ then-n-least-via-then-n-least w ↦ absurd (omega (arith, w.if-n-least, same, from)) | then-n-least-via-else-n-least+then-n-most w ↦ absurd (omega (arith, w.if-n-most, same, upto)) ]
