use Rattle.std.proofs.Common.{◌∙◌, sym, ap, subst, ℕ, ◌+◌, List}
use Rattle.std.specs.Str.{IsCharBoundary}
use Rattle.std.proofs.lemmas.Str.{IsCharBoundary-from_rest}
use Rattle.mt_filter.specs.Lexeme.{IsWithin, mark_length, begins_mark}
use Rattle.mt_filter.proofs.Within.{whole_within, mark_end, if_read}
use Rattle.mt_filter.proofs.lexeme.read_number.Goals as goal

pub returns-clause-within : goal.returns-clause-within
returns-clause-within c =
    let bs = c.args.text.now in
    let sign = c.sign_length-sign.result in
    let digits = c.run_length-digits.result in
    let rest = c.split_at-2.result.1.now in
    let P : List ℕ → Type 0 = λ xs. IsCharBoundary xs digits in
    let Q : ℕ → Type 0 = λ n. IsCharBoundary bs n in
    let cut = IsCharBoundary-from_rest bs sign digits c.sign_length-sign.ensures.boundary.0 (subst P c.split_at.ensures.back c.run_length-digits.ensures.boundary) in
    let end = mark_end bs rest (sign + digits) c.utf8.text cut c.split_at-2.ensures.back in
    if_read _ (IsWithin bs) c.read_number_before.result
    (λ x h. whole_within bs x c.utf8.text (subst Q (sym (h.2 ∙ ap (λ (n : ℕ). n + mark_length (begins_mark rest)) c.split_at-2.ensures.front_len)) end) h.0 h.1)
    c.read_number_before.ensures.places
