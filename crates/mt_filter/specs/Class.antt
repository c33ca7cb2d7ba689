-- Characters that stand in a row.
use Rattle.std.specs.Prelude.{ℕ, Bool, ◌==◌, List, length}
use Rattle.std.specs.Char.{is_ascii_digit}
use Rattle.std.specs.List.{take_while}
use Rattle.std.specs.Str.{chars, encode_utf8_all}
use Rattle.unicode_ident.specs.Ident.{is_xid_continue}
use Rattle.mt_filter.specs.declared.classes.Class.{Class}
use Rattle.mt_filter.specs.declared.classes.Class.TheVariants.{Blank, Digit, Letter}

-- the characters of a class
abbrev pub is_in : Class → ℕ → Bool
is_in Blank c = c == 32
is_in Digit c = is_ascii_digit c
is_in Letter c = is_xid_continue c

-- how many bytes at the front of a text are characters of the class
abbrev pub run_length : Class → List ℕ → ℕ
run_length class bs = length (encode_utf8_all (take_while (is_in class) (chars bs)))
