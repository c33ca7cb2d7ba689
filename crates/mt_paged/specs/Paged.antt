-- A store in memory whose rows stand in pages.
use Rattle.std.specs.Prelude.{◌≡◌, ℕ, ◌<◌, ◌≤◌, max, All, List, [], ◌∷◌, length}
use Rattle.std.specs.List.{sum}
use Rattle.mt_mem.specs.Memory.{Memory, without_faults}

-- what it holds, and how many rows each of its pages has
pub record Paged : Type 0 where
  pub memory : Memory
  pub sizes : List ℕ

-- the count of faults was taken, and nothing else changed
abbrev pub cleared : Paged → Paged
cleared p = record { memory = without_faults p.memory; sizes = p.sizes }

-- the greatest of numbers, 0 where there are none
abbrev pub greatest : List ℕ → ℕ
greatest [] = 0
greatest (n ∷ ns) = max n (greatest ns)

-- no page is empty, none has more than 128 rows, and together they have all rows
pub record AreSizes (sizes : List ℕ) (rows : ℕ) : Type 0 where
  pub some : All (λ n. 0 < n) sizes
  pub few : All (λ n. n ≤ 128) sizes
  pub all : sum sizes ≡ rows
