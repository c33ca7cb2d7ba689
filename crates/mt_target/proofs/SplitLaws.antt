-- Texts that are cut at a byte.
use Rattle.std.proofs.Common.{◌≡◌, ◌≢◌, ℕ, ◌+◌, ◌-◌, ◌<◌, ◌==◌, suc, Bool, true, false, List, [], ◌∷◌, ◌++◌, length, take, drop, get_or, refl, sym, ap, ◌∙◌, arith, subst, take-append-drop}
use Rattle.std.specs.Prelude.{nat_eq, All, Option, Some, None, MatchOption}
use Rattle.std.specs.Borrow.{Bor}
use Rattle.std.specs.List.{AllByRecursion, slice_split, position_or_len, before_first, after_first}
use Rattle.std.proofs.lemmas.List.{length-drop}
use Rattle.std.proofs.lemmas.List.Splits.{slice_split_first, slice_split_none}
use Rattle.std.proofs.lemmas.List.Sums.{fails_before_first}

-- what holds of each byte by its place holds of all
pub by_place : (P : ℕ → Type 0) (bs : List ℕ) → ((i : ℕ) → i < length bs → P (get_or bs i 0)) → AllByRecursion P bs
by_place P [] h = tt
by_place P (x ∷ xs) h = (h 0 (omega arith), by_place P xs (λ i l. h (suc i) (omega (arith, l))))

-- the parts behind a first separator, where it is there
pub split_more : (p : ℕ → Bool) (bs x y : List ℕ) → position_or_len p bs < length bs → x ≡ before_first p bs → y ≡ after_first p bs → (slice_split p bs ≡ x ∷ slice_split p y) × (length y < length bs)
split_more p bs x y inside front back =
    let long : length y ≡ length bs - (position_or_len p bs + 1) = ap length back ∙ length-drop (position_or_len p bs + 1) bs in (
      slice_split_first p bs 0 inside ∙ ap (λ (z : List ℕ). z ∷ slice_split p (after_first p bs)) (sym front) ∙ ap (λ (z : List ℕ). x ∷ slice_split p z) (sym back),
      omega (arith, inside, long),
    )

-- and where it is not
pub split_none : (p : ℕ → Bool) (bs : List ℕ) → position_or_len p bs ≡ length bs → slice_split p bs ≡ bs ∷ []
split_none p bs none = slice_split_none p bs (λ k d l. fails_before_first p bs k d (omega (arith, none, l)))
