use Rattle.std.proofs.Common.{◌≢◌, lit<, append-nil, sym}
use Rattle.std.proofs.lemmas.Str.Pattern.{split_parts}
use Rattle.mt_target.proofs.SplitLaws.{by_place}
use Rattle.mt_target.proofs.paths.split_name.Goals as goal

pub returns-in-Some : goal.returns-in-Some
returns-in-Some c =
    let parts = rw c.in-Some.is at (split_parts 40 c.args.text.now c.split_once.result c.split_once.ensures.cases (lit< tt)) in
    record { whole = parts.0; lacks = by_place (λ b. b ≢ 40) c.in-Some.name.now parts.1 }

pub returns-in-None : goal.returns-in-None
returns-in-None c =
    let lacks = rw c.in-None.is at (split_parts 40 c.args.text.now c.split_once.result c.split_once.ensures.cases (lit< tt)) in
    record { whole = sym (append-nil c.args.text.now); lacks = by_place (λ b. b ≢ 40) c.args.text.now lacks }
