-- The line that names the first damage of two stores.
use Rattle.std.specs.Prelude.{ℕ, ◌/◌, ◌%◌, List, [], ◌∷◌, ◌++◌, flat_map, codes, decimal}
use Rattle.std.specs.Char.{digit_char}
use Rattle.mt_model.specs.declared.key.Key.{Key}

-- a byte as two digits of base 16, in lower case
abbrev pub hex_byte : ℕ → List ℕ
hex_byte b = digit_char (b / 16) ∷ digit_char (b % 16) ∷ []

abbrev pub hex_of : List ℕ → List ℕ
hex_of bytes = flat_map hex_byte bytes

-- the store and the rule in decimal, the two parts of the key as the bytes of their texts
abbrev pub damage_line : ℕ → Key → ℕ → List ℕ
damage_line store key rule = codes "damaged store=" ++ decimal store ++ codes " rule=" ++ decimal rule ++ codes " pk=" ++ hex_of key.pk ++ codes " rk=" ++ hex_of key.rk ++ codes "\n"
