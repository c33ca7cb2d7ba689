-- When a text is a table's name, and when two texts name one table.
use Rattle.std.specs.Prelude.{ℕ, Bool, false, not, nat_le, ◌||◌, ◌&&◌, List, [], ◌∷◌, length, codes}
use Rattle.std.specs.List.{list_all}
use Rattle.std.specs.Str.{str_eq_ignore_ascii_case}

-- A to Z and a to z
abbrev pub is_letter : ℕ → Bool
is_letter c = (nat_le 65 c && nat_le c 90) || (nat_le 97 c && nat_le c 122)

-- 0 to 9
abbrev pub is_digit : ℕ → Bool
is_digit c = nat_le 48 c && nat_le c 57

-- the first character is a letter
abbrev pub begins_with_letter : List ℕ → Bool
begins_with_letter [] = false
begins_with_letter (c ∷ cs) = is_letter c

-- equal without regard to the case of ASCII letters
abbrev pub is_same_table : List ℕ → List ℕ → Bool
is_same_table a b = str_eq_ignore_ascii_case a b

-- 3 to 63 ASCII letters and digits that begin with a letter, and not `Tables` in any case
abbrev pub is_table_name : List ℕ → Bool
is_table_name bs =
    nat_le 3 (length bs) && nat_le (length bs) 63 && begins_with_letter bs && list_all (λ c. is_letter c || is_digit c) bs
    && not (is_same_table bs (codes "Tables"))
