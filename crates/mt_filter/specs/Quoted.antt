-- Literals between quotes, and what may stand in them.
use Rattle.std.specs.Prelude.{◌≡◌, ℕ, ◌%◌, Bool, false, ◌&&◌, ◌||◌, ◌==◌, List, [], ◌∷◌, ◌++◌, length, Option, Some, None, codes, bytes_eq, if◌then◌else◌}
use Rattle.std.specs.List.{flat_map, list_all}
use Rattle.std.specs.Char.{is_ascii_hexdigit}
use Rattle.mt_filter.specs.declared.quoted.Quoted.{Quoted}
use Rattle.mt_filter.specs.declared.quoted.Quoted.TheVariants.{Moment, Guid, Binary}

-- what a literal is whose quotes stand right after this word
abbrev pub quoted_by : List ℕ → Option Quoted
quoted_by word =
    if bytes_eq word (codes "datetime") then Some Moment
    else if bytes_eq word (codes "guid") then Some Guid
    else if bytes_eq word (codes "X") || bytes_eq word (codes "binary") then Some Binary
    else None

-- a text with each of its quotes (39) doubled
abbrev pub doubled : List ℕ → List ℕ
doubled text = flat_map (λ c. if c == 39 then 39 ∷ 39 ∷ [] else c ∷ []) text

-- a quote stands first
abbrev pub begins_quote : List ℕ → Bool
begins_quote [] = false
begins_quote (b ∷ bs) = b == 39

-- the inside at the front is this text with its quotes doubled: a quote that no quote follows ends it
abbrev pub Closes : List ℕ → List ℕ → Type 0
Closes bs text = (rest : List ℕ) × (bs ≡ doubled text ++ (39 ∷ rest)) × (begins_quote rest ≡ false)

-- hexadecimal digits of either case, two for each byte
abbrev pub is_hex : List ℕ → Bool
is_hex inside = (length inside % 2 == 0) && list_all is_ascii_hexdigit inside
