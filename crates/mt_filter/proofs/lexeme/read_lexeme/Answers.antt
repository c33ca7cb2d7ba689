use Rattle.std.proofs.Common.{◌∙◌, sym, ap, subst, ℕ}
use Rattle.std.specs.Str.{IsCharBoundary}
use Rattle.mt_filter.specs.declared.lexeme.Lexeme.{Lexeme}
use Rattle.mt_filter.proofs.Within.{whole_within, open_first, close_first}
use Rattle.mt_filter.proofs.lexeme.read_lexeme.Goals as goal

pub returns-in-Open-clause-within : goal.returns-in-Open-clause-within
returns-in-Open-clause-within c =
    let len = ap (λ (x : Lexeme). x.len) c.whole.ensures in
    let P : ℕ → Type 0 = λ n. IsCharBoundary c.args.text.now n in
    whole_within c.args.text.now c.whole.result c.utf8.text (subst P (sym len) (open_first c.args.text.now (sym c.in-Open.ensures) c.utf8.text))
    (ap (λ (x : Lexeme). x.from) c.whole.ensures) (ap (λ (x : Lexeme). x.to) c.whole.ensures ∙ sym len)

pub returns-in-Close-clause-within : goal.returns-in-Close-clause-within
returns-in-Close-clause-within c =
    let len = ap (λ (x : Lexeme). x.len) c.whole-in-Close.ensures in
    let P : ℕ → Type 0 = λ n. IsCharBoundary c.args.text.now n in
    whole_within c.args.text.now c.whole-in-Close.result c.utf8.text (subst P (sym len) (close_first c.args.text.now (sym c.in-Close.ensures) c.utf8.text))
    (ap (λ (x : Lexeme). x.from) c.whole-in-Close.ensures) (ap (λ (x : Lexeme). x.to) c.whole-in-Close.ensures ∙ sym len)
