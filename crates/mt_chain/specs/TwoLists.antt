-- Two lists of rows whose row keys rise, walked as one: the first key of both, and what is left past it.
use Rattle.std.specs.Prelude.{ℕ, bytes_eq, List, [], ◌∷◌, Option, Some, None, if◌then◌else◌}
use Rattle.std.specs.Ordering.{nat_cmp, is_le}
use Rattle.std.specs.Cmp.Lexicographic.{slice_cmp}
use Rattle.mt_chain.specs.declared.row.StoredRow.{StoredRow}

-- the lesser of the first keys
abbrev pub first_key : List StoredRow → List StoredRow → Option (List ℕ)
first_key [] [] = None
first_key (r ∷ rows) [] = Some r.rk
first_key [] (e ∷ entries) = Some e.rk
first_key (r ∷ rows) (e ∷ entries) = if is_le (slice_cmp nat_cmp r.rk e.rk) then Some r.rk else Some e.rk

-- the first row, where it has that key
abbrev pub first_row : List ℕ → List StoredRow → Option StoredRow
first_row rk [] = None
first_row rk (r ∷ rows) = if bytes_eq r.rk rk then Some r else None

-- the rows behind a key, where it is that of the first
abbrev pub rows_past : List ℕ → List StoredRow → List StoredRow
rows_past rk [] = []
rows_past rk (r ∷ rows) = if bytes_eq r.rk rk then rows else r ∷ rows
