use Rattle.std.proofs.Common.{◌≡◌, ℕ, length, drop, sym, ap, ◌∙◌, arith, rules}
use Rattle.std.specs.List.{position_or_len}
use Rattle.std.proofs.lemmas.List.Sums.{position_or_len_is}
use Rattle.std.proofs.lemmas.List.{take_rest, drop_all}
use Rattle.mt_target.specs.Options.{ends_authority}
use Rattle.mt_target.proofs.targets.after_authority.Goals as goal

pub returns-in-Some : goal.returns-in-Some
returns-in-Some c =
    let bytes = c.args.bytes.now in
    let found : position_or_len ends_authority bytes ≡ c.in-Some.at = position_or_len_is ends_authority bytes c.in-Some.at 0 (search rules) (search rules) (search rules) in
    take_rest bytes c.in-Some.at ∙ ap (λ n. drop n bytes) (sym found)

pub returns-in-None : goal.returns-in-None
returns-in-None c =
    let bytes = c.args.bytes.now in
    let none : position_or_len ends_authority bytes ≡ length bytes = position_or_len_is ends_authority bytes (length bytes) 0 (omega arith) (search rules) (search rules) in
    sym (ap (λ n. drop n bytes) none ∙ drop_all (length bytes) bytes (omega arith))
