use Rattle.std.proofs.Common.{◌≡◌, ◌<◌, ℕ, ◌+◌, ◌==◌, length, take, drop, sym, ap, ◌∙◌, arith, rules}
use Rattle.std.specs.List.{position_or_len}
use Rattle.std.proofs.lemmas.List.Sums.{position_or_len_is}
use Rattle.std.proofs.lemmas.List.{take_rest}
use Rattle.mt_target.proofs.split.split_once.Goals as goal

pub returns-in-Some : goal.returns-in-Some
returns-in-Some c =
    let input = c.args.bytes.now in
    let found : position_or_len (λ (b : ℕ). b == c.args.separator) input ≡ c.in-Some.at = position_or_len_is (λ (b : ℕ). b == c.args.separator) input c.in-Some.at 0 (search rules) (search rules) (search rules) in
    let inside : c.in-Some.at < length input = search rules in
    (omega (arith, found, inside), ap (λ n. take n input) (sym found), take_rest input _ ∙ ap (λ n. drop (n + 1) input) (sym found))

pub returns-in-None : goal.returns-in-None
returns-in-None c = position_or_len_is (λ (b : ℕ). b == c.args.separator) c.args.bytes.now (length c.args.bytes.now) 0 (omega arith) (search rules) (search rules)
