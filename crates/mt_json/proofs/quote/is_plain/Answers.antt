use Rattle.std.proofs.Common.{rules}
use Rattle.json.specs.Print.{escape_byte}
use Rattle.mt_json.proofs.quote.is_plain.Goals as goal

pub returns : goal.returns
unfolding escape_byte
returns c = search rules
