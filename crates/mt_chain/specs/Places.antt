-- Places in rows that rise, as searches answer them.
use Rattle.std.specs.Prelude.{◌≡◌, ℕ, ◌<◌, ◌≤◌, Bool, true, false, not, ◌||◌, ◌&&◌, bytes_eq, List, length, Option, Result, Ok, Err}
use Rattle.std.specs.List.Sorted.{IsPartitionPoint}
use Rattle.std.specs.Ordering.{nat_cmp, is_lt}
use Rattle.std.specs.declared.cmp.Ordering.{Ordering}
use Rattle.std.specs.declared.cmp.Ordering.TheVariants.{Less, Equal, Greater}
use Rattle.std.specs.Cmp.Lexicographic.{slice_cmp}
use Rattle.std.specs.List.{HoldsAt}
use Rattle.mt_model.specs.declared.key.Key.{Key}
use Rattle.mt_chain.specs.declared.query.RkFrom.{RkFrom}
use Rattle.mt_chain.specs.declared.query.PkFrom.{PkFrom}
use Rattle.mt_chain.specs.Rows.{Rows, is_from, is_upto, is_past}

-- where a search by `ord`, which rises along the list, ends: at an element that is Equal, or between the Less and the Greater
abbrev pub EndsBy : {X : Type 0} → (X → Ordering) → List X → Result ℕ ℕ → Type 0
EndsBy ord xs (Ok at) = (at < length xs) × HoldsAt (λ x. ord x ≡ Equal) xs at
EndsBy ord xs (Err at) = (at ≤ length xs) × IsPartitionPoint (λ x. ord x ≡ Less) (λ x. ord x ≡ Greater) xs at

-- the same for a search among rows by their keys
abbrev pub EndsAt : (Key → Ordering) → Rows → Result ℕ ℕ → Type 0
EndsAt ord rows r = EndsBy (λ e. ord e.0) rows r

-- all rows before the place pass, and none from it on
abbrev pub IsCut : (Key → Bool) → Rows → ℕ → Type 0
IsCut test rows at = (at ≤ length rows) × IsPartitionPoint (λ e. test e.0 ≡ true) (λ e. test e.0 ≡ false) rows at

-- the key lies before the range of a partition that begins there
abbrev pub is_before : List ℕ → RkFrom → Key → Bool
is_before pk from key = is_lt (slice_cmp nat_cmp key.pk pk) || (bytes_eq key.pk pk && not (is_from from key.rk))

-- the key does not lie past the range of a partition that ends there
abbrev pub is_not_past : List ℕ → Option (List ℕ) → Key → Bool
is_not_past pk upto key = is_lt (slice_cmp nat_cmp key.pk pk) || (bytes_eq key.pk pk && is_upto upto key.rk)

-- the key's partition lies before the place
abbrev pub is_passed : PkFrom → Key → Bool
is_passed at key = not (is_past at key.pk)
