use Rattle.std.proofs.Common.{◌≡◌, ◌∙◌, sym, ap, ℕ, ◌+◌, ◌-◌, ◌<◌, List, length, drop, length-drop, get_or, arith, subst, inr, refl}
use Rattle.std.proofs.lemmas.List.{get_or-drop}
use Rattle.std.proofs.lemmas.Str.{IsCharBoundary-after_ascii}
use Rattle.mt_filter.specs.Quoted.{Closes}
use Rattle.mt_filter.specs.Lexeme.{IsWithin}
use Rattle.mt_filter.proofs.Within.{quoted_within, if_read}
use Rattle.mt_filter.proofs.lexeme.read_quoted.Goals as goal

pub split_at-requires : goal.split_at-requires
split_at-requires c =
    let quote : get_or c.args.text.now c.args.quote 0 ≡ 39 = c.requires.quote in
    IsCharBoundary-after_ascii c.args.text.now c.args.quote c.utf8.text c.requires.within (omega arith)

pub returns-in-Some-clause-within : goal.returns-in-Some-clause-within
returns-in-Some-clause-within c =
    let bs = c.args.text.now in
    let quote = c.args.quote in
    let end = c.in-Some.end in
    let back : c.as_bytes.result.now ≡ drop (quote + 1) bs = c.as_bytes.ensures.value ∙ c.split_at.ensures.back in
    let size : length c.as_bytes.result.now ≡ length bs - (quote + 1) = ap (λ (xs : List ℕ). length xs) back ∙ length-drop (quote + 1) bs in
    let last : get_or bs (quote + 1 + end) 0 ≡ 39 =
    sym (get_or-drop (quote + 1) bs end 0) ∙ ap (λ (xs : List ℕ). get_or xs end 0) (sym back) ∙ c.in-Some.ensures.quote.1 in
    let within : quote + 1 + end < length bs = omega (arith, size, c.in-Some.ensures.quote.0) in
    let inside = c.split_at-in-Some.ensures.front_len in
    if_read _ (IsWithin bs) c.read_inside.result
    (λ x h. quoted_within bs x quote (quote + 1 + end) c.utf8.text c.requires.within c.requires.quote within last (omega arith)
    h.0 (h.1 ∙ ap (λ (n : ℕ). quote + 1 + n) inside) (h.2 ∙ ap (λ (n : ℕ). quote + 1 + n + 1) inside))
    c.read_inside.ensures.places

pub returns-in-None-clause-value : goal.returns-in-None-clause-value
returns-in-None-clause-value c =
    let back : c.as_bytes.result.now ≡ drop (c.args.quote + 1) c.args.text.now = c.as_bytes.ensures.value ∙ c.split_at.ensures.back in
    let P : List ℕ → Type 0 = λ bs. (text : List ℕ) → Closes bs text → ⊥ in
    inr (subst P back c.in-None.ensures.value, refl)
