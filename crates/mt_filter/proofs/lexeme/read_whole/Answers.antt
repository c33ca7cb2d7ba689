use mir.Val.{bool_byte}
use Rattle.std.proofs.Common.{Bool, true, false, ◌≡◌, ◌∙◌, ap, refl, subst, sym, ℤ, ℕ, ◌+◌, length, w64}
use Rattle.std.proofs.lemmas.Int.{to_z-of_z}
use Rattle.std.specs.Prelude.{FitsSigned}
use Rattle.std.specs.Str.Parse.{signed_digits_value}
use Rattle.mt_filter.specs.Lexeme.{whole_kind, mark_length, lexeme}
use Rattle.mt_filter.specs.declared.lexeme.Lexeme.{Lexeme}
use Rattle.mt_filter.proofs.lexeme.read_whole.Goals as goal

byte_is : (b : Bool) → bool_byte b ≡ mark_length b
byte_is true = refl
byte_is false = refl

pub returns-in_default-clause-value : goal.returns-in_default-clause-value
returns-in_default-clause-value c = (c.in_default.ensures.value.0, refl)

pub returns-clause-value : goal.returns-clause-value
returns-clause-value c =
    let value = c.in-Ok.ensures.value.0 in
    let P : ℤ → Type 0 = λ z. FitsSigned w64 z in
    let same = to_z-of_z w64 c.in-Ok.n (subst P (sym value.1) value.0.1) in
    let kind : c.whole_kind.result ≡ whole_kind c.args.is_long (signed_digits_value 10 c.args.numeral.now) =
    c.whole_kind.ensures ∙ ap (whole_kind c.args.is_long) (same ∙ value.1) in
    let mark = c.from.ensures ∙ byte_is c.args.is_long in
    let same_lexeme : lexeme c.whole_kind.result 0 (length c.args.numeral.now + c.from.result) (length c.args.numeral.now + c.from.result)
    ≡ lexeme (whole_kind c.args.is_long (signed_digits_value 10 c.args.numeral.now)) 0 (length c.args.numeral.now + mark_length c.args.is_long) (length c.args.numeral.now + mark_length c.args.is_long) =
    rw (kind, mark) refl in
    (value.0, c.whole.ensures ∙ same_lexeme)

pub returns-clause-places : goal.returns-clause-places
returns-clause-places c =
    let len = ap (λ (x : Lexeme). x.len) c.whole.ensures in
    let mark = c.from.ensures ∙ byte_is c.args.is_long in
    (ap (λ (x : Lexeme). x.from) c.whole.ensures, ap (λ (x : Lexeme). x.to) c.whole.ensures ∙ sym len, len ∙ ap (λ (n : ℕ). length c.args.numeral.now + n) mark)
