-- Lines are spelled in one way.
use Rattle.std.proofs.Common.{◌≡◌, ℕ, ◌+◌, ◌<◌, ◌≤◌, List, [], ◌∷◌, ◌++◌, length, take, drop, Option, Some, None, Bor, refl, sym, ap, ◌∙◌, arith, append_assoc, append-nil, length-append}
use Rattle.std.proofs.lemmas.List.{take-append-drop, length-take-le}
use Rattle.std.proofs.Math.Seq.{drop-append_seam}
use Rattle.mt_mime.specs.Lines.{line_end, IsLine, print_line, Follows, NoEndBefore, left}

pub line_tail : (c : ℕ) (l : List ℕ) → IsLine (c ∷ l) → IsLine l
line_tail c l is = λ a b e. is (c ∷ a) b (ap (λ (x : List ℕ). c ∷ x) e)

same_lines : (l x m y : List ℕ) → IsLine l → IsLine m → l ++ 13 ∷ 10 ∷ x ≡ m ++ 13 ∷ 10 ∷ y → (l ≡ m) × (x ≡ y)
same_lines [] x [] y i k e = (refl, cc)
same_lines [] x (c ∷ []) y i k e = absurd (cc)
same_lines [] x (c ∷ d ∷ m) y i k e = absurd (k [] m (cc))
same_lines (c ∷ []) x [] y i k e = absurd (cc)
same_lines (c ∷ d ∷ l) x [] y i k e = absurd (i [] l (cc))
same_lines (c ∷ l) x (d ∷ m) y i k e =
    let tails : l ++ 13 ∷ 10 ∷ x ≡ m ++ 13 ∷ 10 ∷ y = cc in
    let more = same_lines l x m y (line_tail c l i) (line_tail d m k) tails in
    let front : l ≡ m = more.0 in
    (cc, more.1)

-- the first line of the same bytes
pub line_unique : (l x m y : List ℕ) → IsLine l → IsLine m → print_line l ++ x ≡ print_line m ++ y → (l ≡ m) × (x ≡ y)
line_unique l x m y i k e = same_lines l x m y i k (sym (append_assoc l line_end x) ∙ e ∙ append_assoc m line_end y)

-- bytes in which no line ends
pub no_end : (bytes : List ℕ) (at : ℕ) → at ≤ length bytes → NoEndBefore bytes at → IsLine (take at bytes)
no_end bytes at within none = λ a b e.
    let size : length (take at bytes) ≡ at = length-take-le at bytes within in
    let parts : length (take at bytes) ≡ length a + length (line_end ++ b) = ap (λ (x : List ℕ). length x) e ∙ length-append a (line_end ++ b) in
    let before : length a < at = omega (arith, size, parts) in
    let whole : bytes ≡ a ++ (line_end ++ b ++ drop at bytes) =
    sym (take-append-drop at bytes) ∙ ap (λ (x : List ℕ). x ++ drop at bytes) e ∙ append_assoc a (line_end ++ b) (drop at bytes) in
    none (length a) before (b ++ drop at bytes)
    (ap (λ (x : List ℕ). drop (length a) x) whole ∙ drop-append_seam a (line_end ++ b ++ drop at bytes))

pub end_found : (bytes rest : List ℕ) (at : ℕ) → drop at bytes ≡ line_end ++ rest → bytes ≡ print_line (take at bytes) ++ rest
end_found bytes rest at e =
    sym (take-append-drop at bytes) ∙ ap (λ (x : List ℕ). take at bytes ++ x) e ∙ sym (append_assoc (take at bytes) line_end rest)

-- the end of the last line is added
pub follows_left : (bytes text : List ℕ) (rest : Option (Bor (List ℕ))) → Follows bytes text rest → print_line bytes ≡ print_line text ++ left rest
follows_left bytes text None f = ap print_line f ∙ sym (append-nil (print_line text))
follows_left bytes text (Some rest) f = ap print_line f ∙ append_assoc (print_line text) rest.now line_end
