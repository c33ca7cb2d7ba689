-- How many rows are left of a store.
use Rattle.std.proofs.Common.{◌≡◌, ℕ, suc, ◌+◌, ◌≤◌, Bool, true, false, cond, not, ◌&&◌, ◌||◌, nat_lt, List, [], ◌∷◌, map, take, filter, length, Option, Some, None, refl, sym, ap, ◌∙◌, arith, inl, inr, bytes_eq, Less}
use Rattle.std.proofs.lemmas.List.{length-map}
use Rattle.std.proofs.lemmas.Bool.{and_parts, or_cases}
use Rattle.std.proofs.lemmas.Bool.Decides.{nat_tests}
use Rattle.std.specs.List.{AllByRecursion, list_any}
use Rattle.std.specs.List.Sorted.{IsStrictlySortedBy}
use Rattle.std.specs.Ordering.{eq_by_cmp, is_lt, is_eq}
use Rattle.std.specs.Cmp.{tied_itself}
use Rattle.std.specs.Cmp.Lexicographic.{nat_list_cmp_total, texts_ties}
use Rattle.mt_model.specs.Key.{key_cmp}
use Rattle.mt_chain.specs.declared.row.Stored.{Stored}
use Rattle.mt_chain.specs.declared.row.StoredRow.{StoredRow}
use Rattle.mt_chain.specs.declared.query.Range.{Range}
use Rattle.mt_chain.specs.Rows.{Rows, RisingRows, key_at, row_at, last_key, is_from, is_within, rows_within, shown, has_partition, without_row}
use Rattle.mt_chain.specs.Puts.{all_rows_after}
use Rattle.mt_chain.proofs.KeyLaws.{is_tied, text_true, text_same}
use Rattle.mt_chain.proofs.OrderLaws.{lt_less}
use Rattle.mt_chain.proofs.PutLaws.{Each, Held}
use Rattle.mt_chain.proofs.RangeRows.{Entry, IsRowOf}
use Rattle.mt_chain.proofs.TextOrder.{text_cmp, or_left, or_right}
use Rattle.mt_chain.proofs.TwoLists.{has}
use Rattle.mt_meta.specs.Markers.{marker_key}
use Rattle.mt_meta.proofs.StorePuts.{tagged}
use Rattle.mt_clean.specs.Cleanings.{is_data, data_rows, deletes_of, next_rows, past}

-- ---- tests that fewer entries pass

pub fewer : (a b : Entry → Bool) (rows : Rows) → ((e : Entry) → a e ≡ true → b e ≡ true) → length (filter a rows) ≤ length (filter b rows)
fewer a b [] h = omega arith
fewer a b (e ∷ rows) h = go (a e) (b e) refl refl (fewer a b rows h) where
  go : (m n : Bool) → a e ≡ m → b e ≡ n → length (filter a rows) ≤ length (filter b rows) → length (cond m (e ∷ filter a rows) (filter a rows)) ≤ length (cond n (e ∷ filter b rows) (filter b rows))
  go true true ea eb r = omega (arith, r)
  go true false ea eb r = absurd (let x : true ≡ false = sym (h e ea) ∙ eb in cc)
  go false true ea eb r = omega (arith, r)
  go false false ea eb r = r

-- one entry passes the one test alone
pub fewer_by_one : (a b : Entry → Bool) (rows : Rows) (pk rk : List ℕ) (s : Stored) → ((e : Entry) → a e ≡ true → b e ≡ true) → ((e : Entry) → eq_by_cmp key_cmp (key_at pk rk) e.0 ≡ true → (a e ≡ false) × (b e ≡ true))
    → row_at rows pk rk ≡ Some s → length (filter a rows) + 1 ≤ length (filter b rows)
fewer_by_one a b [] pk rk s h one is = absurd (let x = is in cc)
fewer_by_one a b (e ∷ rows) pk rk s h one is = go (eq_by_cmp key_cmp (key_at pk rk) e.0) (λ x. fewer_by_one a b rows pk rk s h one x) refl is where
  here : (m n : Bool) → (m ≡ false) × (n ≡ true) → length (filter a rows) ≤ length (filter b rows) → length (cond m (e ∷ filter a rows) (filter a rows)) + 1 ≤ length (cond n (e ∷ filter b rows) (filter b rows))
  here true n w r = absurd (let x = w.0 in cc)
  here false true w r = omega (arith, r)
  here false false w r = absurd (let x = w.1 in cc)

  there : (m n : Bool) → a e ≡ m → b e ≡ n → length (filter a rows) + 1 ≤ length (filter b rows) → length (cond m (e ∷ filter a rows) (filter a rows)) + 1 ≤ length (cond n (e ∷ filter b rows) (filter b rows))
  there true true ea eb r = omega (arith, r)
  there true false ea eb r = absurd (let x : true ≡ false = sym (h e ea) ∙ eb in cc)
  there false true ea eb r = omega (arith, r)
  there false false ea eb r = r

  go : (t : Bool) → (row_at rows pk rk ≡ Some s → length (filter a rows) + 1 ≤ length (filter b rows)) → eq_by_cmp key_cmp (key_at pk rk) e.0 ≡ t → cond t (Some e.1) (row_at rows pk rk) ≡ Some s
      → length (filter a (e ∷ rows)) + 1 ≤ length (filter b (e ∷ rows))
  go true rest t is = here (a e) (b e) (one e t) (fewer a b rows h)
  go false rest t is = there (a e) (b e) refl refl (rest is)

-- ---- what is left after deletes

kept_of : (a keep : Entry → Bool) (rows : Rows) → length (filter a (filter keep rows)) ≤ length (filter a rows)
kept_of a keep [] = omega arith
kept_of a keep (e ∷ rows) = go (keep e) (kept_of a keep rows) where
  both : (m : Bool) → length (filter a (filter keep rows)) ≤ length (filter a rows) → length (cond m (e ∷ filter a (filter keep rows)) (filter a (filter keep rows))) ≤ length (cond m (e ∷ filter a rows) (filter a rows))
  both true r = omega (arith, r)
  both false r = r

  skip : (m : Bool) → length (filter a (filter keep rows)) ≤ length (filter a rows) → length (filter a (filter keep rows)) ≤ length (cond m (e ∷ filter a rows) (filter a rows))
  skip true r = omega (arith, r)
  skip false r = r

  go : (k : Bool) → length (filter a (filter keep rows)) ≤ length (filter a rows) → length (filter a (cond k (e ∷ filter keep rows) (filter keep rows))) ≤ length (filter a (e ∷ rows))
  go true r = both (a e) r
  go false r = skip (a e) r

pub all_of : (rows : Rows) → filter (λ e. true) rows ≡ rows
all_of [] = refl
all_of (e ∷ rows) = ap (λ r. e ∷ r) (all_of rows)

-- no more entries pass a test after deletes
pub deletes_less : (a : Entry → Bool) (store n : ℕ) (pk : List ℕ) (dead : List StoredRow) (rows : Rows) → length (filter a (all_rows_after store n pk (deletes_of dead) rows)) ≤ length (filter a rows)
deletes_less a store n pk [] rows = omega arith
deletes_less a store n pk (r ∷ dead) rows =
    let x = deletes_less a store n pk dead (without_row rows pk r.rk) in
    let y = kept_of a (λ e. not (eq_by_cmp key_cmp (key_at pk r.rk) e.0)) rows in
    omega (arith, x, y)

pub deletes_fewer : (store n : ℕ) (pk : List ℕ) (dead : List StoredRow) (rows : Rows) → length (all_rows_after store n pk (deletes_of dead) rows) ≤ length rows
deletes_fewer store n pk dead rows =
    let x = deletes_less (λ e. true) store n pk dead rows in
    let y = ap length (all_of (all_rows_after store n pk (deletes_of dead) rows)) in
    let z = ap length (all_of rows) in
    omega (arith, x, y, z)

-- a row that is there is one less when it goes
pub one_less : (rows : Rows) (pk rk : List ℕ) (s : Stored) → row_at rows pk rk ≡ Some s → length (without_row rows pk rk) + 1 ≤ length rows
one_less rows pk rk s is =
    let x = fewer_by_one (λ e. not (eq_by_cmp key_cmp (key_at pk rk) e.0)) (λ e. true) rows pk rk s (λ e h. refl) (λ e t. (ap not t, refl)) is in
    let z = ap length (all_of rows) in
    omega (arith, x, z)

-- ---- what is left to read

has_row : (rows : Rows) (pk : List ℕ) (read : List StoredRow) (rk : List ℕ) → AllByRecursion (IsRowOf rows pk) read → has rk read ≡ true → (s : Stored) × (row_at rows pk rk ≡ Some s)
has_row rows pk [] rk h there = absurd (let x = there in cc)
has_row rows pk (r ∷ read) rk h there = elim (or_cases (bytes_eq rk r.rk) (has rk read) there) as (λ _. (s : Stored) × (row_at rows pk rk ≡ Some s)) [
  | inl e ↦ (h.0.row, ap (row_at rows pk) (text_true rk r.rk e) ∙ h.0.there)
  | inr e ↦ has_row rows pk read rk h.1 e
]

has_last : (read : List StoredRow) (rk : List ℕ) → last_key read ≡ Some rk → has rk read ≡ true
has_last [] rk e = absurd (let x = e in cc)
has_last (r ∷ []) rk e = ap (λ k. bytes_eq k r.rk || false) (sym (the_key r.rk rk e)) ∙ ap (λ b. b || false) (text_same r.rk) where
  the_key : (a b : List ℕ) → Some a ≡ Some b → a ≡ b
  the_key a b e = cc
has_last (r ∷ s ∷ read) rk e = or_right (bytes_eq rk r.rk) (has rk (s ∷ read)) (has_last (s ∷ read) rk e)

pub in_range : (rows : Rows) (pk : List ℕ) (range : Range) → AllByRecursion (λ r. is_within range r.rk ≡ true) (rows_within rows pk range)
in_range [] pk range = tt
in_range (e ∷ rows) pk range = go (bytes_eq pk e.0.pk && is_within range e.0.rk) refl (in_range rows pk range) where
  go : (b : Bool) → (bytes_eq pk e.0.pk && is_within range e.0.rk) ≡ b → AllByRecursion (λ r. is_within range r.rk ≡ true) (rows_within rows pk range)
      → AllByRecursion (λ r. is_within range r.rk ≡ true) (map (λ f. shown f.0.rk f.1) (cond b (e ∷ filter (λ f. bytes_eq pk f.0.pk && is_within range f.0.rk) rows) (filter (λ f. bytes_eq pk f.0.pk && is_within range f.0.rk) rows)))
  go true t rest = ((and_parts (bytes_eq pk e.0.pk) (is_within range e.0.rk) t).1, rest)
  go false t rest = rest

has_passes : (P : List ℕ → Bool) (read : List StoredRow) (rk : List ℕ) → AllByRecursion (λ r. P r.rk ≡ true) read → has rk read ≡ true → P rk ≡ true
has_passes P [] rk h there = absurd (let x = there in cc)
has_passes P (r ∷ read) rk h there = elim (or_cases (bytes_eq rk r.rk) (has rk read) there) as (λ _. P rk ≡ true) [
  | inl e ↦ ap P (text_true rk r.rk e) ∙ h.0
  | inr e ↦ has_passes P read rk h.1 e
]

-- what follows a key of a range lies in it
goes_on : (after : Option (List ℕ)) (rk x : List ℕ) → is_from (past after) rk ≡ true → text_cmp rk x ≡ Less → is_from (past after) x ≡ true
goes_on None rk x h less = refl
goes_on (Some d) rk x h less = ap is_lt (nat_list_cmp_total.trans d rk x (lt_less (text_cmp d rk) h) less)

both_true : (a b : Bool) → a ≡ true → b ≡ true → (a && b) ≡ true
both_true a b ha hb = ap (λ x. x && b) ha ∙ hb

-- past the last row that was read there are fewer rows
pub unread_less : (rows : Rows) (pk : List ℕ) (after : Option (List ℕ)) (rk : List ℕ) (read : List StoredRow) → AllByRecursion (IsRowOf rows pk) read → AllByRecursion (λ r. is_within (next_rows after) r.rk ≡ true) read → last_key read ≡ Some rk
    → length (rows_within rows pk (next_rows (Some rk))) + 1 ≤ length (rows_within rows pk (next_rows after))
unread_less rows pk after rk read are within last =
    let there = has_row rows pk read rk are (has_last read rk last) in
    let from = (and_parts (is_from (past after) rk) true (has_passes (is_within (next_rows after)) read rk within (has_last read rk last))).0 in
    let less = fewer_by_one
    (λ e. bytes_eq pk e.0.pk && is_within (next_rows (Some rk)) e.0.rk)
    (λ e. bytes_eq pk e.0.pk && is_within (next_rows after) e.0.rk) rows pk rk there.0
    (λ e h. (let x = and_parts (bytes_eq pk e.0.pk) (is_within (next_rows (Some rk)) e.0.rk) h in
    both_true (bytes_eq pk e.0.pk) (is_within (next_rows after) e.0.rk) x.0
    (both_true (is_from (past after) e.0.rk) true (goes_on after rk e.0.rk from (lt_less (text_cmp rk e.0.rk) (and_parts (is_lt (text_cmp rk e.0.rk)) true x.1).0)) refl)))
    (λ e t. (let x = and_parts (bytes_eq pk e.0.pk) (bytes_eq rk e.0.rk) (sym (is_tied (key_at pk rk) e.0) ∙ t) in let same = text_true rk e.0.rk x.1 in (
      ap (λ b. b && (is_lt (text_cmp rk e.0.rk) && true)) x.0 ∙ ap (λ b. b && true) (ap (λ k. is_lt (text_cmp rk k)) (sym same) ∙ ap is_lt (tied_itself nat_list_cmp_total rk)),
      both_true (bytes_eq pk e.0.pk) (is_within (next_rows after) e.0.rk) x.0 (both_true (is_from (past after) e.0.rk) true (ap (is_from (past after)) (sym same) ∙ from) refl),
    )))
    there.1 in
    let a = length-map (filter (λ (e : Entry). bytes_eq pk e.0.pk && is_within (next_rows (Some rk)) e.0.rk) rows) (λ e. shown e.0.rk e.1) in
    let b = length-map (filter (λ (e : Entry). bytes_eq pk e.0.pk && is_within (next_rows after) e.0.rk) rows) (λ e. shown e.0.rk e.1) in
    omega (arith, less, a, b)

-- and no more after deletes
pub unread_deletes : (store n : ℕ) (pk : List ℕ) (after : Option (List ℕ)) (dead : List StoredRow) (rows : Rows) → length (rows_within (all_rows_after store n pk (deletes_of dead) rows) pk (next_rows after)) ≤ length (rows_within rows pk (next_rows after))
unread_deletes store n pk after dead rows =
    let test : Entry → Bool = λ e. bytes_eq pk e.0.pk && is_within (next_rows after) e.0.rk in
    let less = deletes_less test store n pk dead rows in
    let a = length-map (filter test (all_rows_after store n pk (deletes_of dead) rows)) (λ e. shown e.0.rk e.1) in
    let b = length-map (filter test rows) (λ e. shown e.0.rk e.1) in
    omega (arith, less, a, b)

-- ---- partitions

any_kept : (test keep : Entry → Bool) (rows : Rows) → list_any test (filter keep rows) ≡ true → list_any test rows ≡ true
any_kept test keep [] h = h
any_kept test keep (e ∷ rows) h = go (keep e) (λ x. any_kept test keep rows x) h where
  go : (k : Bool) → (list_any test (filter keep rows) ≡ true → list_any test rows ≡ true) → list_any test (cond k (e ∷ filter keep rows) (filter keep rows)) ≡ true → (test e || list_any test rows) ≡ true
  go true rest h = elim (or_cases (test e) (list_any test (filter keep rows)) h) as (λ _. (test e || list_any test rows) ≡ true) [
    | inl x ↦ or_left (test e) (list_any test rows) x
    | inr x ↦ or_right (test e) (list_any test rows) (rest x)
  ]
  go false rest h = or_right (test e) (list_any test rows) (rest h)

-- deletes bear no partition
pub deletes_bear_none : (store n : ℕ) (pk : List ℕ) (dead : List StoredRow) (rows : Rows) (x : List ℕ) → has_partition (all_rows_after store n pk (deletes_of dead) rows) x ≡ true → has_partition rows x ≡ true
deletes_bear_none store n pk [] rows x h = h
deletes_bear_none store n pk (r ∷ dead) rows x h =
    any_kept (λ e. bytes_eq x e.0.pk) (λ e. not (eq_by_cmp key_cmp (key_at pk r.rk) e.0)) rows (deletes_bear_none store n pk dead (without_row rows pk r.rk) x h)

-- rows of this partition and of others are rows of partitions that are there
pub split_shared : (rows old : Rows) (pk : List ℕ) → has_partition old pk ≡ true
    → length (filter (λ e. not (bytes_eq pk e.0.pk) && has_partition old e.0.pk) rows) + length (rows_within rows pk (next_rows None)) ≤ length (filter (λ e. has_partition old e.0.pk) rows)
split_shared rows old pk there =
    let a = length-map (filter (λ (e : Entry). bytes_eq pk e.0.pk && is_within (next_rows None) e.0.rk) rows) (λ e. shown e.0.rk e.1) in
    let b = apart rows in
    omega (arith, a, b) where
      apart : (xs : Rows) → length (filter (λ (e : Entry). not (bytes_eq pk e.0.pk) && has_partition old e.0.pk) xs) + length (filter (λ (e : Entry). bytes_eq pk e.0.pk && is_within (next_rows None) e.0.rk) xs) ≤ length (filter (λ (e : Entry). has_partition old e.0.pk) xs)
      apart [] = omega arith
      apart (e ∷ xs) = go (bytes_eq pk e.0.pk) (has_partition old e.0.pk) refl refl (apart xs) where
        go : (m n : Bool) → bytes_eq pk e.0.pk ≡ m → has_partition old e.0.pk ≡ n
            → length (filter (λ (e : Entry). not (bytes_eq pk e.0.pk) && has_partition old e.0.pk) xs) + length (filter (λ (e : Entry). bytes_eq pk e.0.pk && is_within (next_rows None) e.0.rk) xs) ≤ length (filter (λ (e : Entry). has_partition old e.0.pk) xs)
            → length (cond (not m && n) (e ∷ filter (λ (e : Entry). not (bytes_eq pk e.0.pk) && has_partition old e.0.pk) xs) (filter (λ (e : Entry). not (bytes_eq pk e.0.pk) && has_partition old e.0.pk) xs))
            + length (cond (m && true) (e ∷ filter (λ (e : Entry). bytes_eq pk e.0.pk && is_within (next_rows None) e.0.rk) xs) (filter (λ (e : Entry). bytes_eq pk e.0.pk && is_within (next_rows None) e.0.rk) xs))
            ≤ length (cond n (e ∷ filter (λ (e : Entry). has_partition old e.0.pk) xs) (filter (λ (e : Entry). has_partition old e.0.pk) xs))
        go true true em en r = omega (arith, r)
        go true false em en r = absurd (let x : true ≡ false = sym there ∙ ap (has_partition old) (text_true pk e.0.pk em) ∙ en in cc)
        go false true em en r = omega (arith, r)
        go false false em en r = omega (arith, r)

-- ---- rows in hand

-- the rows that are deleted stand there: at least one goes
pub thin_count : (store n : ℕ) (pk : List ℕ) (dead : List StoredRow) (rows : Rows) → 1 ≤ length dead → Each (Held rows pk) (deletes_of dead) → length (all_rows_after store n pk (deletes_of dead) rows) + 1 ≤ length rows
thin_count store n pk [] rows some held = absurd (omega (arith, some))
thin_count store n pk (r ∷ dead) rows some held =
    let there = tagged (row_at rows pk r.rk) r.tag held.0 in
    let a = deletes_fewer store n pk dead (without_row rows pk r.rk) in
    let b = one_less rows pk r.rk there.0 there.1 in
    omega (arith, a, b)

not_data : (r : StoredRow) → is_data r ≡ false → r.rk ≡ marker_key
not_data r h = text_true r.rk marker_key (flip (bytes_eq r.rk marker_key) h) where
  flip : (b : Bool) → not b ≡ false → b ≡ true
  flip true e = refl
  flip false e = absurd (let x = e in cc)

-- of two rows that were read one is no marker
pub some_data : (n : ℕ) (all : List StoredRow) → RisingRows all → nat_lt (suc (suc n)) (length all) ≡ true → 1 ≤ length (data_rows (take (suc (suc n)) all))
unfolding IsStrictlySortedBy
some_data n [] rise more = absurd (let x : nat_lt (suc (suc n)) 0 ≡ false = grind (arith, nat_tests) in let y : false ≡ true = sym x ∙ more in cc)
some_data n (r ∷ []) rise more = absurd (let x : nat_lt (suc (suc n)) 1 ≡ false = grind (arith, nat_tests) in let y : false ≡ true = sym x ∙ more in cc)
some_data n (r ∷ s ∷ rest) rise more = go (is_data r) (is_data s) refl refl where
  go : (a b : Bool) → is_data r ≡ a → is_data s ≡ b → 1 ≤ length (cond a (r ∷ cond b (s ∷ data_rows (take n rest)) (data_rows (take n rest))) (cond b (s ∷ data_rows (take n rest)) (data_rows (take n rest))))
  go true b ea eb = omega arith
  go false true ea eb = omega arith
  go false false ea eb =
      let same : r.rk ≡ s.rk = not_data r ea ∙ sym (not_data s eb) in
      let x : true ≡ false = sym (text_same s.rk) ∙ ap (λ k. bytes_eq k s.rk) (sym same) ∙ texts_ties r.rk s.rk ∙ ap is_eq rise.0.0 in
      absurd cc
