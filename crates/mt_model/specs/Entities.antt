-- Rows with rising keys.
use Rattle.std.specs.Prelude.{List, map}
use Rattle.std.specs.List.Sorted.{IsStrictlySortedBy}
use Rattle.mt_model.specs.declared.entity.Entity.{Entity}
use Rattle.mt_model.specs.Key.{key_cmp}

-- each key is below those after it
abbrev pub RisingKeys : List Entity → Type 0
RisingKeys es = IsStrictlySortedBy key_cmp (map (λ e. e.key) es)
