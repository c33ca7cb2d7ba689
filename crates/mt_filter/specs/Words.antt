-- The words of the grammar.
use Rattle.std.specs.Prelude.{ℕ, Bool, ◌||◌, List, take, drop, is_some, Option, Some, None, codes, bytes_eq, if◌then◌else◌}
use Rattle.mt_model.specs.Name.{is_plain_name}
use Rattle.mt_filter.specs.Class.{run_length}
use Rattle.mt_filter.specs.declared.classes.Class.TheVariants.{Blank, Letter}
use Rattle.mt_filter.specs.declared.filter.Compare.{Compare}
use Rattle.mt_filter.specs.declared.filter.Compare.TheVariants.{Eq, Ne, Gt, Ge, Lt, Le}
use Rattle.mt_filter.specs.declared.filter.Field.{Field}
use Rattle.mt_filter.specs.declared.filter.Field.TheVariants.{PartitionKey, RowKey, Property}

-- a text without the blanks at its front
abbrev pub skipped : List ℕ → List ℕ
skipped bs = drop (run_length Blank bs) bs

-- the word at the front of a text, after blanks, and what follows it
abbrev pub first_word : List ℕ → List ℕ
first_word bs = take (run_length Letter (skipped bs)) (skipped bs)

abbrev pub after_first_word : List ℕ → List ℕ
after_first_word bs = drop (run_length Letter (skipped bs)) (skipped bs)

-- the first word of a text is this one
abbrev pub begins_with_word : List ℕ → List ℕ → Bool
begins_with_word word bs = bytes_eq (first_word bs) word

-- the comparison that a word names
abbrev pub compare_of : List ℕ → Option Compare
compare_of word =
    if bytes_eq word (codes "eq") then Some Eq
    else if bytes_eq word (codes "ne") then Some Ne
    else if bytes_eq word (codes "gt") then Some Gt
    else if bytes_eq word (codes "ge") then Some Ge
    else if bytes_eq word (codes "lt") then Some Lt
    else if bytes_eq word (codes "le") then Some Le
    else None

-- a word that the grammar has for itself
abbrev pub is_grammar_word : List ℕ → Bool
is_grammar_word word =
    bytes_eq word (codes "or") || bytes_eq word (codes "and") || bytes_eq word (codes "not") || bytes_eq word (codes "true")
    || bytes_eq word (codes "false") || is_some (compare_of word)

-- the field that a word names: a key or a property, unless it is a word of the grammar or no name
abbrev pub field_of : List ℕ → Option Field
field_of word =
    if is_grammar_word word then None
    else if bytes_eq word (codes "PartitionKey") then Some PartitionKey
    else if bytes_eq word (codes "RowKey") then Some RowKey
    else if is_plain_name word then Some (Property word)
    else None
