use Rattle.std.proofs.Common.{◌≡◌, ◌∙◌, ap, get_or, sym, arith}
use Rattle.std.proofs.lemmas.Str.{IsCharBoundary-after_ascii, IsCharBoundary-start}
use Rattle.mt_filter.proofs.lexeme.sign_length.Goals as goal

pub returns-then-bytes-eq45-clause-boundary : goal.returns-then-bytes-eq45-clause-boundary
returns-then-bytes-eq45-clause-boundary c =
    let minus : get_or c.args.text.now 0 0 ≡ 45 = ap (λ bs. get_or bs 0 0) (sym c.as_bytes-bytes.ensures.value) ∙ c.if-bytes-eq45.true in
    IsCharBoundary-after_ascii c.args.text.now 0 c.utf8.text (grind arith) (omega arith)

pub returns-else-not-is_empty-clause-boundary : goal.returns-else-not-is_empty-clause-boundary
returns-else-not-is_empty-clause-boundary c = IsCharBoundary-start c.args.text.now c.utf8.text
