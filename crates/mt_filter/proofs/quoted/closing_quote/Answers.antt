use Rattle.std.proofs.Common.{◌≡◌, Some, None, arith}
use Rattle.std.proofs.lemmas.Grind.{common_steps}
use Rattle.mt_filter.proofs.Closing.{closing, closed_text, not_closed}
use Rattle.mt_filter.proofs.quoted.closing_quote.Goals as goal

pub returns-else-at-bytes-clause-value : goal.returns-else-at-bytes-clause-value
returns-else-at-bytes-clause-value c =
    let is : closing 0 c.args.bytes.now ≡ Some c.loop-at.at = grind (arith, common_steps) in
    closed_text c.args.bytes.now c.loop-at.at is

pub returns-clause-value : goal.returns-clause-value
returns-clause-value c =
    let is : closing 0 c.args.bytes.now ≡ None = grind (arith, common_steps) in
    not_closed c.args.bytes.now is
