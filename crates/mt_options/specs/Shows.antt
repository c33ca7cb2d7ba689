-- What a read shows of a row.
use Rattle.std.specs.Prelude.{ℕ, ◌==◌, Bool, List, codes, Option, option_map}
use Rattle.std.specs.List.{slice_split}
use Rattle.mt_json.specs.declared.write.Level.{Level}
use Rattle.mt_target.specs.declared.target.QueryOption.{QueryOption}
use Rattle.mt_options.specs.Values.{value_of}
use Rattle.mt_options.specs.Levels.{level_by}

abbrev pub is_comma : ℕ → Bool
is_comma c = c == 44

-- the names between commas, where there is a value
abbrev pub names_in : Option (List ℕ) → Option (List (List ℕ))
names_in select = option_map (slice_split is_comma) select

-- the level by `$format`, and by this value of Accept
abbrev pub shown_level : List QueryOption → Option (List ℕ) → Level
shown_level options accept = level_by (value_of (codes "$format") options) accept

-- the names that `$select` chooses; without it all are shown
abbrev pub shown_names : List QueryOption → Option (List (List ℕ))
shown_names options = names_in (value_of (codes "$select") options)
