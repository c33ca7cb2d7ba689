-- The tag that a text spells.
use Rattle.std.specs.Prelude.{ℕ, ◌^◌, Bool, nat_lt, ◌&&◌, ◌==◌, bytes_eq, List, [], ◌∷◌, drop, Option, Some, None, if◌then◌else◌}
use Rattle.std.specs.Str.Parse.{digits_value}
use Rattle.mt_model.specs.declared.tag.Tag.{Tag}
use Rattle.mt_model.specs.Tag.{tag_text}

-- what stands before the first byte b
abbrev pub before : ℕ → List ℕ → List ℕ
before b [] = []
before b (c ∷ cs) = if c == b then [] else c ∷ before b cs

-- what stands after the first byte b
abbrev pub after : ℕ → List ℕ → List ℕ
after b [] = []
after b (c ∷ cs) = if c == b then cs else after b cs

-- the numbers of a text W/"s.n"
abbrev pub spelled : List ℕ → Tag
spelled text = record { store = digits_value 10 (before 46 (drop 3 text)); n = digits_value 10 (before 34 (after 46 text)) }

-- the numbers are those of the type
abbrev pub is_tag : Tag → Bool
is_tag t = nat_lt t.store (2 ^ 32) && nat_lt t.n (2 ^ 64)

-- the tag whose text this is
abbrev pub read_tag : List ℕ → Option Tag
read_tag text = if is_tag (spelled text) && bytes_eq text (tag_text (spelled text)) then Some (spelled text) else None
