-- How far filling a reader has come, before anything is spent.
use Rattle.std.specs.Prelude.{◌≡◌, ℕ, ◌+◌, ◌-◌, ◌≤◌, List, ◌++◌, length}
use Rattle.mt_io.specs.Ends.{Input, before_known}
use Rattle.mt_http_in.specs.Reading.{ahead, Later}

-- reads alone came between, whose bytes are kept behind the others; a whole unit at the front has at least `due` bytes, and each read brought one of them
pub record Reached (Unit : List ℕ → Type 0) (kept : List ℕ) (s : Input) (kept' : List ℕ) (t : Input) : Type 0 where
  pub later : Later s t
  pub more : List ℕ
  pub grew : kept' ≡ kept ++ more
  pub left : s.left ≡ before_known more t.left
  pub due : ℕ
  pub within : due ≤ length kept'
  pub paid : t.calls ≤ s.calls + (due - length kept)
  pub needed : (bytes rest : List ℕ) → Unit bytes → kept' ≡ bytes ++ rest → due ≤ length bytes

-- reads alone came between, and these bytes of n were spent
pub record Moving (n : ℕ) (kept : List ℕ) (s : Input) (spent kept' : List ℕ) (t : Input) : Type 0 where
  pub later : Later s t
  pub same : ahead kept s ≡ before_known spent (ahead kept' t)
  pub within : length kept ≤ length spent + length kept'
  pub due : ℕ
  pub there : due ≤ length spent + length kept'
  pub wanted : due ≤ n
  pub paid : t.calls ≤ s.calls + (due - length kept)
