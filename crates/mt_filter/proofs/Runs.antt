-- One step over a text's characters.
use Rattle.std.proofs.Common.{◌≡◌, ℕ, ◌+◌, Bool, true, false, List, [], ◌∷◌, ◌++◌, ◌∙◌, length, length-append, if◌then◌else◌, refl, arith}
use Rattle.std.specs.Prelude.{encode_utf8}
use Rattle.std.specs.Char.{len_utf8}
use Rattle.std.specs.List.{take_while}
use Rattle.std.proofs.lemmas.List.Sums.{take_while-cons}
use Rattle.std.specs.Str.{IsUtf8, chars, encode_utf8_all}
use Rattle.std.proofs.lemmas.Str.{chars_past_char, length-encode, chars-nil}
use Rattle.mt_filter.specs.declared.classes.Class.{Class}
use Rattle.mt_filter.specs.Class.{is_in, run_length}

-- where the row of characters of a class that begins at byte `at` ends
abbrev pub run_end : Class → ℕ → List ℕ → ℕ
run_end class at [] = at
run_end class at (c ∷ cs) = if is_in class c then run_end class (at + len_utf8 c) cs else at

row_by : (class : Class) (at c : ℕ) (cs : List ℕ) (t : Bool) → is_in class c ≡ t
    → ((at : ℕ) → run_end class at cs ≡ at + length (encode_utf8_all (take_while (is_in class) cs)))
    → run_end class at (c ∷ cs) ≡ at + length (encode_utf8_all (take_while (is_in class) (c ∷ cs)))
row_by class at c cs true e ih =
    let more = take_while-cons (is_in class) c cs in
    let size = length-append (encode_utf8 c) (encode_utf8_all (take_while (is_in class) cs)) in
    rw (more, e) (ih (at + len_utf8 c) ∙ omega (arith, size, length-encode c))
row_by class at c cs false e ih =
    let more = take_while-cons (is_in class) c cs in
    rw (more, e) (omega arith)

row_is : (class : Class) (cs : List ℕ) (at : ℕ) → run_end class at cs ≡ at + length (encode_utf8_all (take_while (is_in class) cs))
row_is class [] at = omega arith
row_is class (c ∷ cs) at = row_by class at c cs (is_in class c) refl (row_is class cs)

pub run_is : (class : Class) (bs : List ℕ) → run_end class 0 (chars bs) ≡ run_length class bs
run_is class bs = row_is class (chars bs) 0 ∙ omega arith

pub run_on : (class : Class) (at : ℕ) (bs rest : List ℕ) (c : ℕ) → IsUtf8 bs → bs ≡ encode_utf8 c ++ rest
    → is_in class c ≡ true → run_end class at (chars bs) ≡ run_end class (at + length (encode_utf8 c)) (chars rest)
run_on class at bs rest c u e y = rw (chars_past_char bs rest c u e, y, length-encode c) refl

pub run_stops : (class : Class) (at : ℕ) (bs rest : List ℕ) (c : ℕ) → IsUtf8 bs → bs ≡ encode_utf8 c ++ rest
    → is_in class c ≡ false → run_end class at (chars bs) ≡ at
run_stops class at bs rest c u e n = rw (chars_past_char bs rest c u e, n) refl

pub run_whole : (class : Class) (at : ℕ) (bs : List ℕ) → length bs ≡ 0 → run_end class at (chars bs) ≡ at
run_whole class at [] e = rw chars-nil refl
run_whole class at (b ∷ bs) e = absurd (omega arith)
