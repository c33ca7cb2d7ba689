-- The pieces between commas, one after another.
use Rattle.std.proofs.Common.{◌≡◌, ℕ, ◌+◌, Bool, true, false, cond, List, [], ◌∷◌, take, drop, zero, suc, length, get_or, ◌<◌, ◌≤◌, arith, Some, None, refl, sym, ap, ◌∙◌}
use Rattle.std.specs.Prelude.{◌||◌}
use Rattle.std.specs.List.{position, position_or_len, list_any}
use Rattle.std.proofs.lemmas.List.Quantifiers.{position-Some}
use Rattle.std.proofs.lemmas.Grind.{common_steps}
use Rattle.std.proofs.lemmas.List.Sums.{fails_before_first}
use Rattle.httparse.specs.Grammar.{trim_ows}
use Rattle.mt_http_in.specs.Fields.{is_same, is_comma, onto, pieces, has_word}

or_false : (b : Bool) → (b || false) ≡ b
or_false true = refl
or_false false = refl

comma_first : (c : ℕ) (cs : List ℕ) → is_comma c ≡ true → pieces (c ∷ cs) ≡ [] ∷ pieces cs
comma_first c cs e = ap (λ b. cond b ([] ∷ pieces cs) (onto c (pieces cs))) e

other_first : (c : ℕ) (cs : List ℕ) → is_comma c ≡ false → pieces (c ∷ cs) ≡ onto c (pieces cs)
other_first c cs e = ap (λ b. cond b ([] ∷ pieces cs) (onto c (pieces cs))) e

pieces_whole : (v : List ℕ) → ((k : ℕ) → k < length v → is_comma (get_or v k 0) ≡ false) → pieces v ≡ v ∷ []
pieces_whole [] none = refl
pieces_whole (c ∷ cs) none = other_first c cs (none 0 (omega arith)) ∙ ap (onto c) (pieces_whole cs (λ k less. none (suc k) (omega (arith, less))))

pieces_until : (v : List ℕ) (at : ℕ) → at < length v → is_comma (get_or v at 0) ≡ true → ((k : ℕ) → k < at → is_comma (get_or v k 0) ≡ false) → pieces v ≡ take at v ∷ pieces (drop (at + 1) v)
pieces_until [] at less here none = absurd (omega (arith, less))
pieces_until (c ∷ cs) zero less here none = comma_first c cs here
pieces_until (c ∷ cs) (suc at) less here none =
    let next : suc at + 1 ≡ suc (at + 1) = omega arith in
    other_first c cs (none 0 (omega arith))
    ∙ ap (onto c) (pieces_until cs at (omega (arith, less)) here (λ k low. none (suc k) (omega (arith, low))))
    ∙ ap (λ k. (c ∷ take at cs) ∷ pieces (drop k (c ∷ cs))) (sym next)

no_comma : (v : List ℕ) → position is_comma v ≡ None → (k : ℕ) → k < length v → is_comma (get_or v k 0) ≡ false
no_comma v e k less =
    let all : length v ≤ position_or_len is_comma v = grind (arith, common_steps) in
    fails_before_first is_comma v k 0 (omega (arith, all, less))

pieces_none : (v : List ℕ) → position is_comma v ≡ None → pieces v ≡ v ∷ []
pieces_none v e = pieces_whole v (no_comma v e)

pieces_some : (v : List ℕ) (at : ℕ) → position is_comma v ≡ Some at → pieces v ≡ take at v ∷ pieces (drop (at + 1) v)
pieces_some v at e = let found = position-Some is_comma v at 0 e in pieces_until v at found.0 found.1 found.2

word_last : (word v : List ℕ) → position is_comma v ≡ None → has_word word v ≡ is_same (trim_ows v) word
word_last word v e = ap (list_any (λ p. is_same (trim_ows p) word)) (pieces_none v e) ∙ or_false (is_same (trim_ows v) word)

word_first : (word v : List ℕ) (at : ℕ) → position is_comma v ≡ Some at → has_word word v ≡ (is_same (trim_ows (take at v)) word || has_word word (drop (at + 1) v))
word_first word v at e = ap (list_any (λ p. is_same (trim_ows p) word)) (pieces_some v at e)

-- the first piece is the word
pub word_here : (word v rest slice : List ℕ) (at : ℕ) → has_word word v ≡ has_word word rest → position is_comma rest ≡ Some at → slice ≡ trim_ows (take at rest) → is_same slice word ≡ true → true ≡ has_word word v
word_here word v rest slice at was e same equal = sym (was ∙ word_first word rest at e ∙ ap (λ b. b || has_word word (drop (at + 1) rest)) (ap (λ p. is_same p word) (sym same) ∙ equal))

-- the first piece is another
pub word_later : (word v rest slice : List ℕ) (at : ℕ) → has_word word v ≡ has_word word rest → position is_comma rest ≡ Some at → slice ≡ trim_ows (take at rest) → is_same slice word ≡ false
    → has_word word v ≡ has_word word (drop (at + 1) rest)
word_later word v rest slice at was e same none =
    was ∙ word_first word rest at e ∙ ap (λ b. b || has_word word (drop (at + 1) rest)) (ap (λ p. is_same p word) (sym same) ∙ none)

-- there is no other piece
pub word_only : (word v rest slice : List ℕ) → has_word word v ≡ has_word word rest → position is_comma rest ≡ None → slice ≡ trim_ows rest → is_same slice word ≡ has_word word v
word_only word v rest slice was e same = ap (λ p. is_same p word) same ∙ sym (was ∙ word_last word rest e)
