use Rattle.std.proofs.Common.{rules}
use Rattle.httparse.specs.Grammar.{trim_ows}
use Rattle.mt_http_in.proofs.framing.trimmed.Goals as goal

pub returns : goal.returns
unfolding trim_ows
returns c = search rules
