use Rattle.std.proofs.Common.{◌≡◌, ◌∙◌, sym, ap, subst, ℕ, List, take, drop, Ok, Option, Some, MatchOption}
use Rattle.std.specs.Str.{IsCharBoundary}
use Rattle.mt_filter.specs.declared.lexeme.Lexeme.{Lexeme}
use Rattle.mt_filter.specs.declared.classes.Class.TheVariants.{Letter}
use Rattle.mt_filter.specs.declared.lexeme.LexemeKind.TheVariants.{Word}
use Rattle.mt_filter.specs.declared.quoted.Quoted.{Quoted}
use Rattle.mt_filter.specs.Class.{run_length}
use Rattle.mt_filter.specs.Lexeme.{lexeme, quoted_kind, IsQuoted}
use Rattle.mt_filter.proofs.Within.{whole_within}
use Rattle.mt_filter.proofs.lexeme.read_word.Goals as goal

pub returns-in-None-clause-within : goal.returns-in-None-clause-within
returns-in-None-clause-within c =
    let len = ap (λ (x : Lexeme). x.len) c.whole.ensures in
    let P : ℕ → Type 0 = λ n. IsCharBoundary c.args.text.now n in
    whole_within c.args.text.now c.whole.result c.utf8.text (subst P (sym len) c.run_length-len.ensures.boundary)
    (ap (λ (x : Lexeme). x.from) c.whole.ensures) (ap (λ (x : Lexeme). x.to) c.whole.ensures ∙ sym len)

pub returns-in-Some-clause-value : goal.returns-in-Some-clause-value
returns-in-Some-clause-value c =
    let bs = c.args.text.now in
    let kind = c.in-Some.kind in
    let n = run_length Letter bs in
    let back = c.split_at.result.1.now in
    let here : quoted_kind c.split_at.result.0.now back ≡ Some kind = sym c.quoted_kind.ensures ∙ c.in-Some.is in
    let F : List ℕ → Type 0 = λ front. quoted_kind front back ≡ Some kind in
    let B : List ℕ → Type 0 = λ rest. quoted_kind (take c.run_length-len.result bs) rest ≡ Some kind in
    let N : ℕ → Type 0 = λ m. quoted_kind (take m bs) (drop m bs) ≡ Some kind in
    let is = subst N c.run_length-len.ensures.value (subst B c.split_at.ensures.back (subst F c.split_at.ensures.front here)) in
    let Q : ℕ → Type 0 = λ m. IsQuoted kind m bs c.read_quoted.result in
    let M : Option Quoted → Type 0 = λ o. MatchOption o (c.read_quoted.result ≡ Ok (lexeme Word 0 n n)) (λ k. IsQuoted k n bs c.read_quoted.result) in
    subst M (sym is) (subst Q c.run_length-len.ensures.value c.read_quoted.ensures.value)
