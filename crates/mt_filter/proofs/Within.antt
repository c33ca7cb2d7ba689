-- Where a text can be cut at a lexeme.
use Rattle.std.proofs.Common.{◌≡◌, ◌∙◌, sym, ap, subst, ℕ, ◌+◌, ◌<◌, Bool, true, false, ◌==◌, List, [], ◌∷◌, length, drop, get_or, arith, length-drop, Result, Ok, Err, IfOk, add-zero, refl}
use Rattle.std.specs.Str.{IsUtf8, IsCharBoundary}
use Rattle.std.proofs.lemmas.List.{get_or-drop}
use Rattle.std.proofs.lemmas.Str.{IsCharBoundary-after_ascii, IsCharBoundary-before_ascii, IsCharBoundary-start}
use Rattle.mt_filter.specs.declared.filter.FilterKind.{FilterKind}
use Rattle.mt_filter.specs.declared.lexeme.Lexeme.{Lexeme}
use Rattle.mt_filter.specs.declared.lexeme.Front.TheVariants.{Open as AtOpen, Close as AtClose}
use Rattle.mt_filter.specs.Lexeme.{IsWithin, front_of, mark_length, begins_mark}

-- a lexeme of which the whole says its value
pub whole_within : (bs : List ℕ) (x : Lexeme) → IsUtf8 bs → IsCharBoundary bs x.len → x.from ≡ 0 → x.to ≡ x.len → IsWithin bs x
whole_within bs x u b from to =
    let P : ℕ → Type 0 = λ n. IsCharBoundary bs n in
    record {
      order = omega (arith, from);
      end = b;
      from = subst P (sym from) (IsCharBoundary-start bs u);
      to = subst P (sym to) b;
    }

-- a lexeme between quotes
pub quoted_within : (bs : List ℕ) (x : Lexeme) (quote end : ℕ) → IsUtf8 bs → quote < length bs → get_or bs quote 0 ≡ 39
    → end < length bs → get_or bs end 0 ≡ 39 → quote < end → x.from ≡ quote + 1 → x.to ≡ end → x.len ≡ end + 1 → IsWithin bs x
quoted_within bs x quote end u l q m r less from to len =
    let P : ℕ → Type 0 = λ n. IsCharBoundary bs n in
    record {
      order = omega (arith, from, to, less);
      end = subst P (sym len) (IsCharBoundary-after_ascii bs end u m (omega (arith, r)));
      from = subst P (sym from) (IsCharBoundary-after_ascii bs quote u l (omega (arith, q)));
      to = subst P (sym to) (IsCharBoundary-before_ascii bs end m (omega (arith, r)));
    }

first_is : (bs rest : List ℕ) (n r : ℕ) → r ∷ rest ≡ drop n bs → (n < length bs) × (get_or bs n 0 ≡ r)
first_is bs rest n r e =
    let zero_more : n + 0 ≡ n = omega arith in
    let size : length (r ∷ rest) ≡ length (drop n bs) = ap (λ (xs : List ℕ). length xs) e in
    (omega (arith, size, length-drop n bs), sym (ap (λ (xs : List ℕ). get_or xs 0 0) e ∙ get_or-drop n bs 0 0 ∙ ap (λ (i : ℕ). get_or bs i 0) zero_more))

mark_end_by : (bs rest : List ℕ) (n r : ℕ) (t : Bool) → (r == 76) ≡ t → IsUtf8 bs → IsCharBoundary bs n → r ∷ rest ≡ drop n bs → IsCharBoundary bs (n + mark_length t)
mark_end_by bs rest n r true is u b e =
    let first = first_is bs rest n r e in
    let small : get_or bs n 0 < 128 = grind (arith, is, first.1) in
    IsCharBoundary-after_ascii bs n u first.0 small
mark_end_by bs rest n r false is u b e = rw add-zero b

-- the mark of Int64 is one byte
pub mark_end : (bs rest : List ℕ) (n : ℕ) → IsUtf8 bs → IsCharBoundary bs n → rest ≡ drop n bs → IsCharBoundary bs (n + mark_length (begins_mark rest))
mark_end bs [] n u b e = rw add-zero b
mark_end bs (r ∷ rest) n u b e = mark_end_by bs rest n r (r == 76) refl u b e

pub open_first : (bs : List ℕ) → front_of bs ≡ AtOpen → IsUtf8 bs → IsCharBoundary bs 1
open_first [] e u = absurd (cc)
open_first (b ∷ bs) e u =
    let is : b ≡ 40 = grind (arith, e) in
    IsCharBoundary-after_ascii (b ∷ bs) 0 u (omega arith) (omega (arith, is))

pub close_first : (bs : List ℕ) → front_of bs ≡ AtClose → IsUtf8 bs → IsCharBoundary bs 1
close_first [] e u = absurd (cc)
close_first (b ∷ bs) e u =
    let is : b ≡ 41 = grind (arith, e) in
    IsCharBoundary-after_ascii (b ∷ bs) 0 u (omega arith) (omega (arith, is))

-- what holds of a lexeme that was read, by what else does
pub if_read : (P Q : Lexeme → Type 0) (r : Result Lexeme FilterKind) → ((x : Lexeme) → P x → Q x) → IfOk r P → IfOk r Q
if_read P Q (Ok x) f h = f x h
if_read P Q (Err e) f h = h
