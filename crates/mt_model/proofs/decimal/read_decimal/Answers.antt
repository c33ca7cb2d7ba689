use Rattle.std.proofs.Common.{◌≡◌}
use Rattle.std.proofs.lemmas.Fmt.{parse-decimal}
use Rattle.std.proofs.lemmas.Slice.Eq.{bytes_eq-Decides}
use Rattle.mt_model.proofs.decimal.read_decimal.Goals as goal

pub returns-in_default : goal.returns-in_default
returns-in_default c n small e = let r = parse-decimal 64 n _ _ small small e c.parse.ensures.value.0 in cc

pub returns-else-eq : goal.returns-else-eq
returns-else-eq c n small e =
    let r = parse-decimal 64 n _ _ small small e c.parse.ensures.value.0 in
    let same : c.format.result.now ≡ c.args.text.now = cc in
    let yes = (bytes_eq-Decides c.format.result.now c.args.text.now).1 same in
    cc
