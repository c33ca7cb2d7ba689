-- A history as contracts see it.
use Rattle.std.specs.Prelude.{ℕ, ◌+◌, ◌-◌, ◌^◌, ◌≤◌, Bool, ◌&&◌, nat_lt, nat_le, List, length, Option, None, if◌then◌else◌}
use Rattle.std.specs.List.{slice_get}
use Rattle.mt_history.specs.declared.entry.Entry.{Entry}
use Rattle.mt_history.specs.Weight.{total_weight}

-- a history: the place of its first entry, its entries, how many it may have, and for how many more there is memory in hand
pub record Kept : Type 0 where
  pub first : ℕ
  pub entries : List Entry
  pub limit : ℕ
  pub spare : ℕ

-- one more entry and this weight stay within the limit of entries and within the weight of 2^30
abbrev pub has_room : Kept → ℕ → Bool
has_room h weight = nat_lt (length h.entries) h.limit && nat_le (total_weight h.entries + weight) (2 ^ 30)

-- the entry at a place, if it is kept
abbrev pub entry_at : Kept → ℕ → Option Entry
entry_at h place = if nat_lt place h.first then None else slice_get h.entries (place - h.first)

-- what each history keeps: entries and weight are within their limits
pub record IsKept (h : Kept) : Type 0 where
  pub few : length h.entries ≤ h.limit
  pub some : 1 ≤ h.limit
  pub bounded : h.limit ≤ 1048576
  pub light : total_weight h.entries ≤ 2 ^ 30
