-- One step over the characters of an inside.
use Rattle.std.proofs.Common.{◌≡◌, ℕ, Bool, true, false, ◌&&◌, ◌==◌, List, [], ◌∷◌, ◌++◌, length, refl, arith, append_assoc, append-nil}
use Rattle.std.specs.Prelude.{encode_utf8}
use Rattle.std.specs.Str.{IsUtf8, chars, encode_utf8_all}
use Rattle.std.proofs.lemmas.Str.{chars_past_char, chars-nil}
use Rattle.mt_filter.specs.Literal.{single_quotes}

pub second_skipped : (after : Bool) (out bs rest : List ℕ) (c : ℕ) → IsUtf8 bs → bs ≡ encode_utf8 c ++ rest → (after && (c == 39)) ≡ true
    → out ++ encode_utf8_all (single_quotes after (chars bs)) ≡ out ++ encode_utf8_all (single_quotes false (chars rest))
second_skipped after out bs rest c u e y = rw (chars_past_char bs rest c u e, y) refl

pub other_kept : (after : Bool) (out bs rest : List ℕ) (c : ℕ) → IsUtf8 bs → bs ≡ encode_utf8 c ++ rest → (after && (c == 39)) ≡ false
    → out ++ encode_utf8_all (single_quotes after (chars bs)) ≡ (out ++ encode_utf8 c) ++ encode_utf8_all (single_quotes (c == 39) (chars rest))
other_kept after out bs rest c u e n = rw (chars_past_char bs rest c u e, n, append_assoc) refl

pub all_taken : (after : Bool) (out bs : List ℕ) → length bs ≡ 0 → out ++ encode_utf8_all (single_quotes after (chars bs)) ≡ out
all_taken after out [] e = rw chars-nil (append-nil out)
all_taken after out (b ∷ bs) e = absurd (omega arith)
