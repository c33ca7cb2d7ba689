-- The level that `$format` and Accept name.
use Rattle.std.specs.Prelude.{ℕ, Bool, true, false, ◌&&◌, ◌||◌, List, [], ◌∷◌, codes, Option, Some, None, if◌then◌else◌}
use Rattle.std.specs.Char.{eq_ignore_ascii_case}
use Rattle.mt_json.specs.declared.write.Level.{Level}
use Rattle.mt_json.specs.declared.write.Level.TheVariants as level

-- the word stands at the front, without regard to case
abbrev pub begins_with : List ℕ → List ℕ → Bool
begins_with [] value = true
begins_with (c ∷ word) [] = false
begins_with (c ∷ word) (d ∷ value) = eq_ignore_ascii_case d c && begins_with word value

-- the word stands somewhere in the value, without regard to case
abbrev pub stands_in : List ℕ → List ℕ → Bool
stands_in word [] = begins_with word []
stands_in word (c ∷ value) = begins_with word (c ∷ value) || stands_in word value

-- the level that the value of one of the two names
abbrev pub named_level : List ℕ → Level
named_level value = if stands_in (codes "odata=nometadata") value then level.None else level.Minimal

-- `$format` wins where it is there
abbrev pub level_by : Option (List ℕ) → Option (List ℕ) → Level
level_by (Some format) accept = named_level format
level_by None (Some accept) = named_level accept
level_by None None = level.Minimal
