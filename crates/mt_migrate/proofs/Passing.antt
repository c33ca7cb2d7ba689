-- A chunk passes rows: fewer are unread behind it.
use Rattle.std.proofs.Common.{◌≡◌, ℕ, zero, suc, ◌+◌, ◌≤◌, Bool, true, false, cond, not, ◌&&◌, nat_lt, List, [], ◌∷◌, map, take, filter, length, Option, Some, None, refl, sym, ap, subst, ◌∙◌, arith, bytes_eq, Less, Equal}
use Rattle.std.proofs.lemmas.Bool.{and_parts}
use Rattle.std.proofs.lemmas.Bool.Decides.{nat_tests}
use Rattle.std.proofs.lemmas.List.{length-take-le}
use Rattle.std.specs.List.{AllByRecursion}
use Rattle.std.specs.List.Sorted.{IsStrictlySortedBy}
use Rattle.std.specs.Ordering.{is_lt, ordering_reverse}
use Rattle.std.specs.Cmp.{tied_itself}
use Rattle.std.specs.Cmp.Lexicographic.{nat_list_cmp_total}
use Rattle.mt_model.specs.declared.key.Key.{Key}
use Rattle.mt_chain.specs.declared.row.StoredRow.{StoredRow}
use Rattle.mt_chain.specs.declared.query.Range.{Range}
use Rattle.mt_chain.specs.Rows.{Rows, RisingRows, are_rising, last_key, read_end, shown, is_from, is_upto, is_within, rows_within}
use Rattle.mt_chain.proofs.KeyLaws.{text_true}
use Rattle.mt_chain.proofs.OrderLaws.{lt_less}
use Rattle.mt_chain.proofs.RangeRows.{Entry, rising_within, all_taken}
use Rattle.mt_chain.proofs.TextOrder.{text_cmp}
use Rattle.mt_meta.specs.Markers.{marker_key}
use Rattle.mt_migrate.specs.Moves.{past, next_rows}
use Rattle.mt_migrate.specs.RowCounts.{count_of, is_data, is_unread}
use Rattle.mt_migrate.proofs.Counts.{bit, count_more, count_in}

-- ---- rows that rise

keys_taken : (P : List ℕ → Type 0) (n : ℕ) (rows : List StoredRow) → AllByRecursion P (map (λ (r : StoredRow). r.rk) rows) → AllByRecursion P (map (λ (r : StoredRow). r.rk) (take n rows))
keys_taken P zero rows h = tt
keys_taken P (suc n) [] h = tt
keys_taken P (suc n) (r ∷ rows) h = (h.0, keys_taken P n rows h.1)

rising_taken : (n : ℕ) (rows : List StoredRow) → RisingRows rows → RisingRows (take n rows)
unfolding IsStrictlySortedBy
rising_taken zero rows h = tt
rising_taken (suc n) [] h = tt
rising_taken (suc n) (r ∷ rows) h = (keys_taken (λ y. text_cmp r.rk y ≡ Less) n rows h.0, rising_taken n rows h.1)

-- what each row key has, the last one has
last_has : (P : List ℕ → Type 0) (rows : List StoredRow) (rk : List ℕ) → AllByRecursion (λ r. P r.rk) rows → last_key rows ≡ Some rk → P rk
last_has P [] rk h last = absurd (let x = last in cc)
last_has P (r ∷ []) rk h last = subst P (same r.rk rk last) h.0 where
  same : (a b : List ℕ) → Some a ≡ Some b → a ≡ b
  same a b e = cc
last_has P (r ∷ s ∷ rows) rk h last = last_has P (s ∷ rows) rk h.1 last

as_rows : (P : List ℕ → Type 0) (rows : List StoredRow) → AllByRecursion P (map (λ (r : StoredRow). r.rk) rows) → AllByRecursion (λ r. P r.rk) rows
as_rows P [] h = tt
as_rows P (r ∷ rows) h = (h.0, as_rows P rows h.1)

-- no row lies past the last one
none_past : (rows : List StoredRow) (rk : List ℕ) → RisingRows rows → last_key rows ≡ Some rk → AllByRecursion (λ r. is_lt (text_cmp rk r.rk) ≡ false) rows
unfolding IsStrictlySortedBy
none_past [] rk h last = tt
none_past (r ∷ []) rk h last = (ap (λ k. is_lt (text_cmp k r.rk)) (same rk r.rk (sym last)) ∙ ap is_lt (tied_itself nat_list_cmp_total r.rk), tt) where
  same : (a b : List ℕ) → Some a ≡ Some b → a ≡ b
  same a b e = cc
none_past (r ∷ s ∷ rows) rk h last =
    let below : text_cmp r.rk rk ≡ Less = last_has (λ y. text_cmp r.rk y ≡ Less) (s ∷ rows) rk (as_rows (λ y. text_cmp r.rk y ≡ Less) (s ∷ rows) h.0) last in
    (ap is_lt (nat_list_cmp_total.antisymm rk r.rk ∙ ap ordering_reverse below), none_past (s ∷ rows) rk h.1 last)

-- ---- one marker at most

abbrev is_data_row : StoredRow → Bool
is_data_row r = not (bytes_eq r.rk marker_key)

all_data : (rows : List StoredRow) → AllByRecursion (λ y. text_cmp marker_key y ≡ Less) (map (λ (r : StoredRow). r.rk) rows) → length rows ≤ length (filter is_data_row rows)
all_data [] h = omega arith
all_data (r ∷ rows) h = go (is_data_row r) refl (all_data rows h.1) where
  go : (b : Bool) → is_data_row r ≡ b → length rows ≤ length (filter is_data_row rows) → suc (length rows) ≤ length (cond b (r ∷ filter is_data_row rows) (filter is_data_row rows))
  go true e rest = omega (arith, rest)
  go false e rest = absurd (let same : r.rk ≡ marker_key = text_true r.rk marker_key (flip (bytes_eq r.rk marker_key) e) in
      let x : Equal ≡ Less = sym (tied_itself nat_list_cmp_total marker_key) ∙ ap (text_cmp marker_key) (sym same) ∙ h.0 in cc) where
        flip : (b : Bool) → not b ≡ false → b ≡ true
        flip true e = refl
        flip false e = absurd (let x = e in cc)

data_rows : (rows : List StoredRow) → RisingRows rows → length rows ≤ length (filter is_data_row rows) + 1
unfolding IsStrictlySortedBy
data_rows [] h = omega arith
data_rows (r ∷ rows) h = go (is_data_row r) refl (data_rows rows h.1) where
  flip : (b : Bool) → not b ≡ false → b ≡ true
  flip true e = refl
  flip false e = absurd (let x = e in cc)

  go : (b : Bool) → is_data_row r ≡ b → length rows ≤ length (filter is_data_row rows) + 1 → suc (length rows) ≤ length (cond b (r ∷ filter is_data_row rows) (filter is_data_row rows)) + 1
  go true e rest = omega (arith, rest)
  go false e rest = (let all = all_data rows (subst (λ k. AllByRecursion (λ y. text_cmp k y ≡ Less) (map (λ (r : StoredRow). r.rk) rows)) (text_true r.rk marker_key (flip (bytes_eq r.rk marker_key) e)) h.0) in omega (arith, all))

-- ---- rows that were read are unread no more

-- what follows a key of a range lies in it
pub goes_on : (before : Option (List ℕ)) (rk x : List ℕ) → is_from (past before) rk ≡ true → is_from (past (Some rk)) x ≡ true → is_from (past before) x ≡ true
goes_on None rk x h less = refl
goes_on (Some d) rk x h less = ap is_lt (nat_list_cmp_total.trans d rk x (lt_less (text_cmp d rk) h) (lt_less (text_cmp rk x) less))

module _ (pk rk : List ℕ) (before upto : Option (List ℕ)) (from : is_from (past before) rk ≡ true) where
  later_unread : (k : Key) → is_unread pk (Some rk) k ≡ true → is_unread pk before k ≡ true
  later_unread k h = (let a = and_parts (is_data k) (bytes_eq pk k.pk && is_from (past (Some rk)) k.rk) h in let b = and_parts (bytes_eq pk k.pk) (is_from (past (Some rk)) k.rk) a.1 in
      ap (λ x. x && (bytes_eq pk k.pk && is_from (past before) k.rk)) a.0 ∙ ap (λ x. x && is_from (past before) k.rk) b.0 ∙ goes_on before rk k.rk from b.1)

  pub fewer_unread : (rows : Rows) → count_of (is_unread pk (Some rk)) rows ≤ count_of (is_unread pk before) rows
  fewer_unread rows = count_in (is_unread pk (Some rk)) (is_unread pk before) rows later_unread

  abbrev lies : Entry → Bool
  lies e = bytes_eq pk e.0.pk && is_within (next_rows before upto) e.0.rk

  abbrev show : Entry → StoredRow
  show e = shown e.0.rk e.1

  passed : (n : ℕ) (rows : Rows) → AllByRecursion (λ r. is_lt (text_cmp rk r.rk) ≡ false) (take n (rows_within rows pk (next_rows before upto)))
      → count_of (is_unread pk (Some rk)) rows + length (filter is_data_row (take n (rows_within rows pk (next_rows before upto)))) ≤ count_of (is_unread pk before) rows
  passed zero rows h = (let x = fewer_unread rows in omega (arith, x))
  passed (suc n) [] h = omega arith
  passed (suc n) (e ∷ rows) h = go (lies e) refl (λ x. passed n rows x) (λ x. passed (suc n) rows x) h where
    a : count_of (is_unread pk (Some rk)) (e ∷ rows) ≡ bit (is_unread pk (Some rk) e.0) + count_of (is_unread pk (Some rk)) rows
    a = count_more (is_unread pk (Some rk)) e rows

    b : count_of (is_unread pk before) (e ∷ rows) ≡ bit (is_unread pk before e.0) + count_of (is_unread pk before) rows
    b = count_more (is_unread pk before) e rows

    bits : (m n : Bool) → (m ≡ true → n ≡ true) → bit m ≤ bit n
    bits true true h = omega arith
    bits true false h = absurd (let x = h refl in cc)
    bits false n h = omega arith

    first : (x : Bool) (r : StoredRow) (rows : List StoredRow) → length (cond x (r ∷ rows) rows) ≡ bit x + length rows
    first true r rows = omega arith
    first false r rows = omega arith

    none : is_lt (text_cmp rk e.0.rk) ≡ false → is_unread pk (Some rk) e.0 ≡ false
    none out = by (is_data e.0) (bytes_eq pk e.0.pk) where
      by : (x y : Bool) → (x && (y && is_lt (text_cmp rk e.0.rk))) ≡ false
      by true true = out
      by true false = refl
      by false y = refl

    whole : lies e ≡ true → is_unread pk before e.0 ≡ is_data e.0
    whole t = (let x = and_parts (bytes_eq pk e.0.pk) (is_within (next_rows before upto) e.0.rk) t in let y = and_parts (is_from (past before) e.0.rk) (is_upto upto e.0.rk) x.1 in
        ap (λ z. is_data e.0 && (z && is_from (past before) e.0.rk)) x.0 ∙ ap (λ z. is_data e.0 && z) y.0 ∙ with_true (is_data e.0)) where
          with_true : (z : Bool) → (z && true) ≡ z
          with_true true = refl
          with_true false = refl

    go : (t : Bool) → lies e ≡ t
        → (AllByRecursion (λ r. is_lt (text_cmp rk r.rk) ≡ false) (take n (rows_within rows pk (next_rows before upto))) → count_of (is_unread pk (Some rk)) rows + length (filter is_data_row (take n (rows_within rows pk (next_rows before upto)))) ≤ count_of (is_unread pk before) rows)
        → (AllByRecursion (λ r. is_lt (text_cmp rk r.rk) ≡ false) (take (suc n) (rows_within rows pk (next_rows before upto))) → count_of (is_unread pk (Some rk)) rows + length (filter is_data_row (take (suc n) (rows_within rows pk (next_rows before upto)))) ≤ count_of (is_unread pk before) rows)
        → AllByRecursion (λ r. is_lt (text_cmp rk r.rk) ≡ false) (take (suc n) (map show (cond t (e ∷ filter lies rows) (filter lies rows))))
        → count_of (is_unread pk (Some rk)) (e ∷ rows) + length (filter is_data_row (take (suc n) (map show (cond t (e ∷ filter lies rows) (filter lies rows))))) ≤ count_of (is_unread pk before) (e ∷ rows)
    go true t ih skip h =
        let x = ih h.1 in
        let y : bit (is_unread pk (Some rk) e.0) ≡ bit false = ap bit (none h.0) in
        let z : bit (is_unread pk before e.0) ≡ bit (is_data e.0) = ap bit (whole t) in
        let f = first (is_data e.0) (show e) (filter is_data_row (take n (rows_within rows pk (next_rows before upto)))) in
        omega (arith, a, b, x, y, z, f)
    go false t ih skip h = (let x = skip h in let y = bits (is_unread pk (Some rk) e.0) (is_unread pk before e.0) (later_unread e.0) in omega (arith, a, b, x, y))

-- ---- a reading that has more passes rows

pub each_within : (rows : Rows) (pk : List ℕ) (range : Range) → AllByRecursion (λ r. is_within range r.rk ≡ true) (rows_within rows pk range)
each_within [] pk range = tt
each_within (e ∷ rows) pk range = go (bytes_eq pk e.0.pk && is_within range e.0.rk) refl (each_within rows pk range) where
  go : (b : Bool) → (bytes_eq pk e.0.pk && is_within range e.0.rk) ≡ b → AllByRecursion (λ r. is_within range r.rk ≡ true) (rows_within rows pk range)
      → AllByRecursion (λ r. is_within range r.rk ≡ true) (map (λ f. shown f.0.rk f.1) (cond b (e ∷ filter (λ f. bytes_eq pk f.0.pk && is_within range f.0.rk) rows) (filter (λ f. bytes_eq pk f.0.pk && is_within range f.0.rk) rows)))
  go true t rest = ((and_parts (bytes_eq pk e.0.pk) (is_within range e.0.rk) t).1, rest)
  go false t rest = rest

-- a reading of fifty rows that ends at this key
pub record EndsAt (rows : Rows) (pk : List ℕ) (before : Option (List ℕ)) (rk : List ℕ) : Type 0 where
  pub from : is_from (past before) rk ≡ true
  pub fewer : count_of (is_unread pk (Some rk)) rows + 49 ≤ count_of (is_unread pk before) rows

pub reading_ends : (rows : Rows) (pk : List ℕ) (before upto : Option (List ℕ)) (rk : List ℕ) → are_rising rows ≡ true
    → read_end (take 50 (rows_within rows pk (next_rows before upto))) (nat_lt 50 (length (rows_within rows pk (next_rows before upto)))) ≡ Some rk → EndsAt rows pk before rk
reading_ends rows pk before upto rk up ends = go (nat_lt 50 (length (rows_within rows pk (next_rows before upto)))) refl ends where
  go : (b : Bool) → nat_lt 50 (length (rows_within rows pk (next_rows before upto))) ≡ b → cond b (last_key (take 50 (rows_within rows pk (next_rows before upto)))) None ≡ Some rk → EndsAt rows pk before rk
  go false e last = absurd (let x = last in cc)
  go true e last =
      let list = rows_within rows pk (next_rows before upto) in
      let rise = rising_taken 50 list (rising_within rows pk (next_rows before upto) up) in
      let from = (and_parts (is_from (past before) rk) (is_upto upto rk) (last_has (λ k. is_within (next_rows before upto) k ≡ true) (take 50 list) rk (all_taken (λ r. is_within (next_rows before upto) r.rk ≡ true) 50 list (each_within rows pk (next_rows before upto))) last)).0 in
      let more : 50 ≤ length list = grind (arith, nat_tests) in
      let fifty = length-take-le 50 list more in
      let some = data_rows (take 50 list) rise in
      let pass = passed pk rk before upto from 50 rows (none_past (take 50 list) rk rise last) in
      record { from = from; fewer = omega (arith, fifty, some, pass) }
