use Rattle.mt_options.proofs.TokenLaws.{no_partition}
use Rattle.mt_options.proofs.tokens.read_partition.Goals as goal

pub returns : goal.returns
returns c =
    no_partition c.args.mark.now c.args.text.now c.in-Some.pk (rw c.in-Some.is at c.in_ok-pk.ensures)
    (rw c.as_str.ensures at (rw c.in-None.is at c.in_ok-key.ensures))
