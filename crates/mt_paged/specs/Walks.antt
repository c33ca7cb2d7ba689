-- A walk through rows from the place where a range begins.
use Rattle.std.specs.Prelude.{◌≡◌, ℕ, ◌==◌, Bool, true, false, List, [], ◌∷◌, ◌++◌, length, Option, Some, None, if◌then◌else◌}
use Rattle.mt_model.specs.declared.key.Key.{Key}
use Rattle.mt_chain.specs.declared.row.Stored.{Stored}
use Rattle.mt_chain.specs.declared.row.StoredRow.{StoredRow}
use Rattle.mt_chain.specs.declared.query.Range.{Range}
use Rattle.mt_chain.specs.Rows.{Rows}
use Rattle.mt_chain.specs.Places.{is_not_past}
use Rattle.mt_mem.specs.Entries.{Row, entry}
use Rattle.mt_paged.specs.declared.answer.Reach.{Reach}
use Rattle.mt_paged.specs.declared.answer.Reach.TheVariants.{Open, Ended}
use Rattle.mt_paged.specs.Pages.{first_of}
use Rattle.mt_paged.specs.Fronts.{AllPass, NonePasses}

-- so many rows are all that are wanted
abbrev pub is_full : Option ℕ → ℕ → Bool
is_full None count = false
is_full (Some limit) count = count == limit

-- what a walk finds beside what it has: it ends past the range, or where there are more rows than are wanted
abbrev pub walk : List ℕ → Range → List StoredRow → List Row → List StoredRow × Bool
walk pk range found [] = (found, false)
walk pk range found (row ∷ rows) = if is_not_past pk range.upto (entry row).0 then (if is_full range.limit (length found) then (found, true) else walk pk range (found ++ row.1 ∷ []) rows) else (found, false)

-- a walk went through these rows, or ended among them
abbrev pub Walked : List ℕ → Range → List StoredRow → List Row → Reach → List StoredRow → Type 0
Walked pk range found rows Open after = (rest : List Row) → walk pk range found (rows ++ rest) ≡ walk pk range after rest
Walked pk range found rows (Ended more) after = (rest : List Row) → walk pk range found (rows ++ rest) ≡ (after, more)

-- the first of the rows that do not pass, where those that pass are the first ones
pub record IsFirstPast (test : Key → Bool) (rows : Rows) (next : Option (Key × Stored)) : Type 0 where
  pub before : Rows
  pub rest : Rows
  pub whole : rows ≡ before ++ rest
  pub pass : AllPass test before
  pub none : NonePasses test rest
  pub first : next ≡ first_of rest
