use Rattle.mt_options.proofs.TokenLaws.{no_row}
use Rattle.mt_options.proofs.tokens.read_row.Goals as goal

pub returns : goal.returns
returns c =
    no_row c.args.pk.now c.args.rk.now c.in-Some.pk c.in-Some-2.rk (rw c.in-Some.is at c.in_ok-pk.ensures) (rw c.in-Some-2.is at c.in_ok-rk.ensures)
    (rw (c.as_str.ensures, c.as_str-2.ensures) at (rw c.in-None.is at c.in_ok-key.ensures))
