-- A walk from the place where a range begins finds the rows of the range.
use Rattle.std.proofs.Common.{◌≡◌, ◌≢◌, ℕ, zero, suc, ◌+◌, ◌<◌, ◌≤◌, Bool, true, false, cond, not, ◌&&◌, ◌==◌, nat_lt, List, [], ◌∷◌, ◌++◌, map, length, take, drop, get_or, filter, refl, sym, ap, ◌∙◌, arith, append_assoc, inl, inr, bytes_eq, Option, Some, None, eqb-true}
use Rattle.std.proofs.lemmas.Bool.{and_parts, cases_lt, lt-ltb, le-ltb, eq-eqb}
use Rattle.std.proofs.lemmas.List.{append-nil, length_push, length-map, map-append, drop-map}
use Rattle.std.specs.Ordering.{is_lt}
use Rattle.std.specs.FinMap.Entries.{below_all}
use Rattle.mt_model.specs.declared.key.Key.{Key}
use Rattle.mt_model.specs.Key.{key_cmp}
use Rattle.mt_chain.specs.declared.row.Stored.{Stored}
use Rattle.mt_chain.specs.declared.row.StoredRow.{StoredRow}
use Rattle.mt_chain.specs.declared.query.Range.{Range}
use Rattle.mt_chain.specs.Rows.{Rows, are_rising, is_within, rows_within, shown, limited, is_beyond}
use Rattle.mt_chain.specs.Places.{is_before, is_not_past}
use Rattle.mt_chain.proofs.OrderLaws.{in_range, lt_less, not_past_falls}
use Rattle.mt_chain.proofs.SearchLaws.{rest_rising, head_below}
use Rattle.mt_mem.specs.Entries.{Row, entry, entries}
use Rattle.mt_mem.proofs.EditLaws.{last_rising}
use Rattle.mt_paged.specs.Pages.{joined, sheets}
use Rattle.mt_paged.specs.Fronts.{AllPass, NonePasses, IsSpot}
use Rattle.mt_paged.specs.Walks.{is_full, walk}
use Rattle.mt_paged.proofs.SheetLaws.{joined_sheets, get_sheet}
use Rattle.mt_paged.proofs.FrontLaws.{fails_on}

abbrev Entry : Type 0
Entry = Key × Stored

-- how many rows more are wanted, beside so many
abbrev IsLeft : Option ℕ → ℕ → Option ℕ → Type 0
IsLeft None count None = Unit {0}
IsLeft (Some limit) count (Some left) = count + left ≡ limit
IsLeft None count (Some left) = ⊥
IsLeft (Some limit) count None = ⊥

-- what a walk answers
abbrev answered : List StoredRow → Bool → List StoredRow × Bool
answered rows more = (rows, more)

abbrev none : List StoredRow
none = []

taken_none : (n : ℕ) → take n none ≡ none
taken_none zero = refl
taken_none (suc n) = refl

nothing : (left : Option ℕ) (found : List StoredRow) → answered found false ≡ answered (found ++ limited left none) (is_beyond left none)
nothing None found = λ i. answered (sym (append-nil found) i) false
nothing (Some n) found = λ i. answered ((sym (append-nil found) ∙ sym (ap (λ rs. found ++ rs) (taken_none n))) i) (sym (le-ltb n 0 (omega arith)) i)

one_less : (m n : ℕ) → nat_lt (suc m) (suc n) ≡ nat_lt m n
one_less m n = elim (cases_lt m n) as (λ _. nat_lt (suc m) (suc n) ≡ nat_lt m n) [
  | inl lt ↦ lt-ltb (suc m) (suc n) (omega arith) ∙ sym (lt-ltb m n lt)
  | inr le ↦ le-ltb (suc m) (suc n) (omega arith) ∙ sym (le-ltb m n le)
]

not_equal : (a b : ℕ) → a ≢ b → (a == b) ≡ false
not_equal a b ne = go (a == b) refl where
  go : (t : Bool) → (a == b) ≡ t → t ≡ false
  go true e = absurd (ne (eqb-true a b e))
  go false e = refl

and_false : (a b : Bool) → b ≡ false → (a && b) ≡ false
and_false true b e = e
and_false false b e = refl

-- the rows from a place of a page on
abbrev pub rows_from : List (List Row) → ℕ → ℕ → List Row
rows_from pages at place = drop place (get_or pages at []) ++ joined (drop (suc at) pages)

module _ (pk : List ℕ) (range : Range) where
  abbrev in_it : Entry → Bool
  in_it e = bytes_eq pk e.0.pk && is_within range e.0.rk

  abbrev show : Entry → StoredRow
  show e = shown e.0.rk e.1

  in_it_from : (e : Entry) → is_before pk range.from e.0 ≡ false → in_it e ≡ is_not_past pk range.upto e.0
  in_it_from e h = in_range pk range e.0 ∙ ap (λ b. not b && is_not_past pk range.upto e.0) h

  in_it_past : (e : Entry) → is_not_past pk range.upto e.0 ≡ false → in_it e ≡ false
  in_it_past e h = in_range pk range e.0 ∙ and_false (not (is_before pk range.from e.0)) (is_not_past pk range.upto e.0) h

  in_it_before : (e : Entry) → is_before pk range.from e.0 ≡ true → in_it e ≡ false
  in_it_before e h = in_range pk range e.0 ∙ ap (λ b. not b && is_not_past pk range.upto e.0) h

  none_past : (x : Key) (rows : Rows) → is_not_past pk range.upto x ≡ false → below_all key_cmp x rows ≡ true → filter in_it rows ≡ []
  none_past x [] past h = refl
  none_past x (e ∷ rows) past h =
      let p = and_parts (is_lt (key_cmp x e.0)) (below_all key_cmp x rows) h in
      let fails = fails_on (is_not_past pk range.upto) (not_past_falls pk range.upto) x e.0 (lt_less _ p.0) past in
      ap (λ t. cond t (e ∷ filter in_it rows) (filter in_it rows)) (in_it_past e fails)
      ∙ none_past x rows past p.1

  none_before : (A B : Rows) → AllPass (is_before pk range.from) A → filter in_it (A ++ B) ≡ filter in_it B
  none_before [] B h = refl
  none_before (e ∷ A) B h =
      ap (λ t. cond t (e ∷ filter in_it (A ++ B)) (filter in_it (A ++ B))) (in_it_before e h.0)
      ∙ none_before A B h.1

  -- the answer with these rows of the range left, beside those that were found
  abbrev told : Option ℕ → List StoredRow → List StoredRow → List StoredRow × Bool
  told left found rows = answered (found ++ limited left rows) (is_beyond left rows)

  -- with one more row of the range
  step : (limit left : Option ℕ) (rest : List StoredRow) (found : List StoredRow) (row : StoredRow) (further : List StoredRow × Bool) → IsLeft limit (length found) left
      → ((m : Option ℕ) → IsLeft limit (length (found ++ row ∷ [])) m → further ≡ told m (found ++ row ∷ []) rest)
      → cond (is_full limit (length found)) (answered found true) further ≡ told left found (row ∷ rest)
  step None None rest found row further is go =
      go None tt ∙ (λ i. answered (append_assoc found (row ∷ []) rest i) false)
  step (Some limit) (Some zero) rest found row further is go =
      ap (λ t. cond t (answered found true) further) (eq-eqb (length found) limit (omega (arith, is)))
      ∙ (λ i. answered (sym (append-nil found) i) (sym (lt-ltb 0 (suc (length rest)) (omega arith)) i))
  step (Some limit) (Some (suc m)) rest found row further is go =
      ap (λ t. cond t (answered found true) further) (not_equal (length found) limit (omega (arith, is)))
      ∙ go (Some m) (omega (arith, is, length_push found row))
      ∙ (λ i. answered (append_assoc found (row ∷ []) (take m rest) i) (sym (one_less m (length rest)) i))
  step None (Some left) rest found row further is go = absurd is
  step (Some limit) None rest found row further is go = absurd is

  walk_is : (rows : List Row) (found : List StoredRow) (left : Option ℕ) → IsLeft range.limit (length found) left → are_rising (entries rows) ≡ true → NonePasses (is_before pk range.from) (entries rows)
      → walk pk range found rows ≡ told left found (rows_within (entries rows) pk range)
  walk_is [] found left is up from = nothing left found
  walk_is (row ∷ rows) found left is up from = go (λ m now. walk_is rows (found ++ row.1 ∷ []) m now (rest_rising (entry row) (entries rows) up) from.1) (is_not_past pk range.upto (entry row).0) refl ∙ sym (ap (λ t. told left found (map show (cond t (entry row ∷ filter in_it (entries rows)) (filter in_it (entries rows))))) (in_it_from (entry row) from.0)) where
    go : ((m : Option ℕ) → IsLeft range.limit (length (found ++ row.1 ∷ [])) m → walk pk range (found ++ row.1 ∷ []) rows ≡ told m (found ++ row.1 ∷ []) (rows_within (entries rows) pk range))
        → (t : Bool) → is_not_past pk range.upto (entry row).0 ≡ t
        → cond t (cond (is_full range.limit (length found)) (answered found true) (walk pk range (found ++ row.1 ∷ []) rows)) (answered found false)
        ≡ told left found (map show (cond t (entry row ∷ filter in_it (entries rows)) (filter in_it (entries rows))))
    go further true e = step range.limit left (rows_within (entries rows) pk range) found row.1 (walk pk range (found ++ row.1 ∷ []) rows) is further
    go further false e = nothing left found ∙ sym (ap (λ (es : Rows). told left found (map show es)) (none_past (entry row).0 (entries rows) e (head_below (entry row) (entries rows) up)))

  -- ---- from where the range begins

  all_left : (limit : Option ℕ) → IsLeft limit 0 limit
  all_left None = tt
  all_left (Some limit) = omega arith

  entries_from : (pages : List (List Row)) (at place : ℕ) → at < length pages → entries (rows_from pages at place) ≡ drop place (get_or (sheets pages) at []) ++ joined (drop (suc at) (sheets pages))
  entries_from pages at place l =
      map-append entry (drop place (get_or pages at [])) (joined (drop (suc at) pages))
      ∙ (λ i. first i ++ rest i) where
        first : entries (drop place (get_or pages at [])) ≡ drop place (get_or (sheets pages) at [])
        first = sym (drop-map entry place (get_or pages at [])) ∙ ap (drop place) (sym (get_sheet pages at [] l))

        rest : entries (joined (drop (suc at) pages)) ≡ joined (drop (suc at) (sheets pages))
        rest = joined_sheets (drop (suc at) pages) ∙ ap joined (sym (drop-map entries (suc at) pages))

  pub range_walked : (pages : List (List Row)) (at place : ℕ) → are_rising (entries (joined pages)) ≡ true → IsSpot (is_before pk range.from) (sheets pages) at place
      → walk pk range [] (rows_from pages at place) ≡ (limited range.limit (rows_within (entries (joined pages)) pk range), is_beyond range.limit (rows_within (entries (joined pages)) pk range))
  range_walked pages at place up spot =
      walk_is (rows_from pages at place) [] range.limit (all_left range.limit)
      (ap are_rising same ∙ last_rising A T (ap are_rising (sym whole) ∙ up))
      (rw same spot.from)
      ∙ ap (λ (es : Rows). told range.limit none (map show (filter in_it es))) same
      ∙ sym (ap (λ (es : Rows). told range.limit none (map show es)) (ap (filter in_it) whole ∙ none_before A T spot.before)) where
        A : Rows
        A = joined (take at (sheets pages)) ++ take place (get_or (sheets pages) at [])

        T : Rows
        T = drop place (get_or (sheets pages) at []) ++ joined (drop (suc at) (sheets pages))

        same : entries (rows_from pages at place) ≡ T
        same = entries_from pages at place (let n = length-map pages entries in let l = spot.within in omega (arith, n))

        whole : entries (joined pages) ≡ A ++ T
        whole = joined_sheets pages ∙ spot.whole
