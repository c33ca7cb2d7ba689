-- The two ends over memory as contracts see them, and exactly what their calls do.
use Rattle.std.specs.Prelude.{◌≡◌, ℕ, ◌+◌, ◌^◌, ◌≤◌, min, max, List, [], ◌∷◌, ◌++◌, length, drop, Bool, false, Some, ◌⊎◌}
use Rattle.std.specs.List.{Contains}
use Rattle.mt_io.specs.Ends.{Input, Output, raised}

-- a source: the bytes that it will give, the sizes of the pieces to come, and the reads that fail
pub record MemoryInput : Type 0 where
  pub number : ℕ
  pub left : List ℕ
  pub pieces : List ℕ
  pub failing : List ℕ
  pub calls : ℕ
  pub faults : ℕ
  pub «open» : Bool

-- a sink: the bytes that it took, and the calls that fail
pub record MemoryOutput : Type 0 where
  pub number : ℕ
  pub held : List ℕ
  pub failing : List ℕ
  pub calls : ℕ
  pub faults : ℕ
  pub «open» : Bool

-- what such a source tells as an end that is read
abbrev pub input_of : MemoryInput → Input
input_of s = record { number = s.number; left = Some s.left; calls = s.calls; faults = s.faults; «open» = s.open }

-- what such a sink tells as an end that is written
abbrev pub output_of : MemoryOutput → Output
output_of s = record { number = s.number; held = Some s.held; calls = s.calls; faults = s.faults; «open» = s.open }

-- the next read fails: the source is closed, the read is listed, or it has the number 2^32 or a later one
abbrev pub ReadFails : MemoryInput → Type 0
ReadFails s = ((s.open ≡ false) ⊎ Contains s.failing (raised s.calls)) ⊎ (2 ^ 32 ≤ s.calls + 1)

-- the next call fails: the sink is closed, or the call is listed
abbrev pub CallFails : MemoryOutput → Type 0
CallFails s = (s.open ≡ false) ⊎ Contains s.failing (raised s.calls)

-- the greatest size of the next piece: 0 counts as 1, and without sizes it is all that is left
abbrev pub next_size : List ℕ → ℕ → ℕ
next_size [] left = left
next_size (size ∷ sizes) left = max size 1

-- the sizes after one read: the last one repeats
abbrev pub later_sizes : List ℕ → List ℕ
later_sizes [] = []
later_sizes (size ∷ []) = size ∷ []
later_sizes (size ∷ next ∷ sizes) = next ∷ sizes

-- how many bytes the next read gives where there is room for so many
abbrev pub count_given : MemoryInput → ℕ → ℕ
count_given s room = min (min (next_size s.pieces (length s.left)) room) (length s.left)

-- the source after a read that gave n bytes
abbrev pub after_read : MemoryInput → ℕ → MemoryInput
after_read s n = record s { left = drop n s.left; pieces = later_sizes s.pieces; calls = raised s.calls }

-- the source after a read that failed
abbrev pub after_failed_read : MemoryInput → MemoryInput
after_failed_read s = record s { calls = raised s.calls; faults = raised s.faults }

-- the sink after it took these bytes
abbrev pub after_write : MemoryOutput → List ℕ → MemoryOutput
after_write s bytes = record s { held = s.held ++ bytes; calls = raised s.calls }

-- the sink after a call that failed
abbrev pub after_failed_call : MemoryOutput → MemoryOutput
after_failed_call s = record s { calls = raised s.calls; faults = raised s.faults }
