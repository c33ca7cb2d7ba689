-- What a store of a sound pair answers has keys that meet the rules.
use Rattle.std.proofs.Common.{◌≡◌, ◌≢◌, ◌⊎◌, ℕ, zero, suc, ◌≤◌, Bool, true, false, cond, not, ◌&&◌, ◌||◌, ◌==◌, nat_lt, List, [], ◌∷◌, length, map, take, Option, Some, None, refl, sym, ap, subst, ◌∙◌, arith, inl, inr, bytes_eq, Less, Equal, Greater}
use Rattle.std.specs.Prelude.{is_some, option_map}
use Rattle.std.specs.Option.{option_or}
use Rattle.std.proofs.lemmas.Bool.{and_parts}
use Rattle.std.proofs.lemmas.Bool.Decides.{nat_tests}
use Rattle.std.specs.List.{AllByRecursion, list_all}
use Rattle.std.specs.List.Sorted.{IsStrictlySortedBy}
use Rattle.std.specs.Ordering.{nat_cmp, ordering_then}
use Rattle.std.specs.Cmp.Lexicographic.{slice_cmp}
use Rattle.std.specs.Str.{chars}
use Rattle.mt_model.specs.declared.key.KeyFault.{KeyFault}
use Rattle.mt_model.specs.declared.key.KeyFault.TheVariants.{KeyTooLong, KeyChar}
use Rattle.mt_model.specs.Char.{is_forbidden, first_passing}
use Rattle.mt_model.specs.declared.key.KeyPart.TheVariants.{Partition, Row}
use Rattle.mt_model.specs.Key.{part_fault}
use Rattle.mt_chain.specs.declared.row.Stored.{Stored}
use Rattle.mt_chain.specs.declared.row.StoredRow.{StoredRow}
use Rattle.mt_chain.specs.declared.query.Found.{Found}
use Rattle.mt_chain.specs.declared.query.PkFrom.{PkFrom}
use Rattle.mt_chain.specs.declared.query.Range.{Range}
use Rattle.mt_chain.specs.Rows.{RisingRows, row_at, last_key, read_end, rows_within}
use Rattle.mt_chain.specs.StoreCall.{Contents, IsContents, IsNext}
use Rattle.mt_chain.proofs.KeyLaws.{text_differs, text_true}
use Rattle.mt_chain.proofs.RangeRows.{IsRowOf, members, all_taken, rising_within}
use Rattle.mt_chain.proofs.RowLaws.{row_of_partition}
use Rattle.mt_chain.proofs.TextOrder.{text_cmp}
use Rattle.mt_model.specs.declared.value.Prop.{Prop}
use Rattle.mt_meta.specs.Markers.{marker_key}
use Rattle.mt_meta.specs.Sound.{HaveForms, AreMarked}
use Rattle.mt_scan.specs.Chunks.{is_row_key, is_partition_key, is_readable, ends_at_row, is_fair, is_fair_next}

-- ---- rows

row_part : (f g : Option KeyFault) → option_or f g ≡ None → g ≡ None
row_part None g h = h
row_part (Some f) g h = absurd (let x = h in cc)

module _ (IsMarker IsRow : List Prop → Type 0) (c : Contents) (forms : HaveForms IsMarker IsRow c) (pk : List ℕ) where
  readable : (r : StoredRow) → IsRowOf c.rows pk r → is_readable r ≡ true
  readable r is = go (bytes_eq r.rk marker_key) refl where
    go : (b : Bool) → bytes_eq r.rk marker_key ≡ b → (b || is_row_key r.rk) ≡ true
    go true e = refl
    go false e = ap (λ (f : Option KeyFault). not (is_some f)) (row_part (part_fault Partition pk) (part_fault Row r.rk) (forms.data_rows pk r.rk is.row (text_differs r.rk marker_key e) is.there).1)

  all_readable : (rows : List StoredRow) → AllByRecursion (IsRowOf c.rows pk) rows → list_all is_readable rows ≡ true
  all_readable [] h = refl
  all_readable (r ∷ rows) h = ap (λ b. b && list_all is_readable rows) (readable r h.0) ∙ all_readable rows h.1

-- ---- the last row of many is no marker

zero_at : (bs : List ℕ) → first_passing is_forbidden 0 (chars (0 ∷ bs)) ≡ Some 0
unfolding chars
zero_at [] = refl
zero_at (b ∷ bs) = refl

zero_first : (bs : List ℕ) → is_row_key (0 ∷ bs) ≡ false
zero_first bs = ap (λ (o : Option ℕ). not (is_some (cond (nat_lt 1024 (length (0 ∷ bs))) (Some (KeyTooLong Row)) (option_map (KeyChar Row) o)))) (zero_at bs) ∙ go (nat_lt 1024 (length (0 ∷ bs))) where
  go : (b : Bool) → not (is_some (cond b (Some (KeyTooLong Row)) (Some (KeyChar Row 0)))) ≡ false
  go true = refl
  go false = refl

-- a text below the marker's key is empty, or begins with a zero byte
below_marker : (y : List ℕ) → text_cmp y marker_key ≡ Less → (y ≡ []) ⊎ ((bs : List ℕ) × (y ≡ 0 ∷ bs))
below_marker [] h = inl refl
below_marker (zero ∷ bs) h = inr (bs, refl)
below_marker (suc zero ∷ []) h = absurd (let x = h in cc)
below_marker (suc zero ∷ b ∷ bs) h = absurd (let x = h in cc)
below_marker (suc (suc n) ∷ bs) h = absurd (more n h) where
  more : (n : ℕ) → text_cmp (suc (suc n) ∷ bs) marker_key ≡ Less → ⊥
  more n h = (
      let above : nat_lt (suc (suc n)) 1 ≡ false = grind (arith, nat_tests) in
      let differs : (suc (suc n) == 1) ≡ false = grind (arith, nat_tests) in
      let is : nat_cmp (suc (suc n)) 1 ≡ Greater = ap (λ b. cond b Less (cond (suc (suc n) == 1) Equal Greater)) above ∙ ap (λ b. cond b Equal Greater) differs in
      let x : Greater ≡ Less = sym (ap (λ o. ordering_then o (slice_cmp nat_cmp bs [])) is) ∙ h in cc)

last_above : (y k : List ℕ) (rows : List StoredRow) → AllByRecursion (λ z. text_cmp y z ≡ Less) (map (λ (r : StoredRow). r.rk) rows) → last_key rows ≡ Some k → text_cmp y k ≡ Less
last_above y k [] all e = absurd (let x = e in cc)
last_above y k (r ∷ []) all e = subst (λ z. text_cmp y z ≡ Less) (same r.rk k e) all.0 where
  same : (a b : List ℕ) → Some a ≡ Some b → a ≡ b
  same a b e = cc
last_above y k (r ∷ s ∷ rows) all e = last_above y k (s ∷ rows) all.1 e

last_readable : (k : List ℕ) (rows : List StoredRow) → list_all is_readable rows ≡ true → last_key rows ≡ Some k → (bytes_eq k marker_key || is_row_key k) ≡ true
last_readable k [] all e = absurd (let x = e in cc)
last_readable k (r ∷ []) all e = subst (λ z. (bytes_eq z marker_key || is_row_key z) ≡ true) (same r.rk k e) (and_parts (is_readable r) true all).0 where
  same : (a b : List ℕ) → Some a ≡ Some b → a ≡ b
  same a b e = cc
last_readable k (r ∷ s ∷ rows) all e = last_readable k (s ∷ rows) (and_parts (is_readable r) (list_all is_readable (s ∷ rows)) all).1 e

some_key : (r : StoredRow) (rows : List StoredRow) → (k : List ℕ) × (last_key (r ∷ rows) ≡ Some k)
some_key r [] = (r.rk, refl)
some_key r (s ∷ rows) = some_key s rows

third_ends : (x y z : StoredRow) (rows : List StoredRow) → RisingRows (x ∷ y ∷ z ∷ rows) → list_all is_readable (x ∷ y ∷ z ∷ rows) ≡ true → ends_at_row true (last_key (x ∷ y ∷ z ∷ rows)) ≡ true
unfolding IsStrictlySortedBy
third_ends x y z rows rising all =
    let last = some_key z rows in
    let rest = and_parts (is_readable x) (list_all is_readable (y ∷ z ∷ rows)) all in
    let above = last_above y.rk last.0 (z ∷ rows) rising.1.0 last.1 in
    subst (λ o. ends_at_row true o ≡ true) (sym last.1) (keyed last.0 above (last_readable last.0 (z ∷ rows) (and_parts (is_readable y) (list_all is_readable (z ∷ rows)) rest.1).1 last.1) (bytes_eq last.0 marker_key) refl) where
      none : (a : List ℕ) → text_cmp a [] ≡ Less → ⊥
      none [] h = cc
      none (b ∷ bs) h = cc

      no_marker : text_cmp y.rk marker_key ≡ Less → ⊥
      no_marker less = elim (below_marker y.rk less) as (λ _. ⊥) [
        | inl empty ↦ none x.rk (subst (λ k. text_cmp x.rk k ≡ Less) empty rising.0.0)
        | inr zeros ↦ (
            let read : is_readable y ≡ true = (and_parts (is_readable y) (list_all is_readable (z ∷ rows)) (and_parts (is_readable x) (list_all is_readable (y ∷ z ∷ rows)) all).1).0 in
            let same : is_readable y ≡ false = ap (λ k. bytes_eq k marker_key || is_row_key k) zeros.1 ∙ zero_first zeros.0 in
            let x : true ≡ false = sym read ∙ same in cc)
      ]

      keyed : (k : List ℕ) → text_cmp y.rk k ≡ Less → (bytes_eq k marker_key || is_row_key k) ≡ true → (b : Bool) → bytes_eq k marker_key ≡ b → is_row_key k ≡ true
      keyed k above read true e = absurd (no_marker (subst (λ t. text_cmp y.rk t ≡ Less) (text_true k marker_key e) above))
      keyed k above read false e = sym (ap (λ b. b || is_row_key k) e) ∙ read

many_end : (n : ℕ) (rows : List StoredRow) → 3 ≤ n → RisingRows (take n rows) → list_all is_readable (take n rows) ≡ true → nat_lt n (length rows) ≡ true → ends_at_row true (last_key (take n rows)) ≡ true
many_end zero rows low rising all more = absurd (omega (arith, low))
many_end (suc zero) rows low rising all more = absurd (omega (arith, low))
many_end (suc (suc zero)) rows low rising all more = absurd (omega (arith, low))
many_end (suc (suc (suc n))) [] low rising all more = absurd (let x : nat_lt (suc (suc (suc n))) 0 ≡ false = grind (arith, nat_tests) in let y : false ≡ true = sym x ∙ more in cc)
many_end (suc (suc (suc n))) (x ∷ []) low rising all more = absurd (let w : nat_lt (suc (suc (suc n))) 1 ≡ false = grind (arith, nat_tests) in let y : false ≡ true = sym w ∙ more in cc)
many_end (suc (suc (suc n))) (x ∷ y ∷ []) low rising all more = absurd (let w : nat_lt (suc (suc (suc n))) 2 ≡ false = grind (arith, nat_tests) in let v : false ≡ true = sym w ∙ more in cc)
many_end (suc (suc (suc n))) (x ∷ y ∷ z ∷ rows) low rising all more = third_ends x y z (take n rows) rising all

rising_take : (n : ℕ) (rows : List StoredRow) → RisingRows rows → RisingRows (take n rows)
unfolding IsStrictlySortedBy
rising_take zero rows h = tt
rising_take (suc n) [] h = tt
rising_take (suc n) (r ∷ rows) h = (above n rows h.0, rising_take n rows h.1) where
  above : (n : ℕ) (rows : List StoredRow) → AllByRecursion (λ k. text_cmp r.rk k ≡ Less) (map (λ (x : StoredRow). x.rk) rows) → AllByRecursion (λ k. text_cmp r.rk k ≡ Less) (map (λ (x : StoredRow). x.rk) (take n rows))
  above zero rows h = tt
  above (suc n) [] h = tt
  above (suc n) (x ∷ rows) h = (h.0, above n rows h.1)

-- a read of 100 rows
pub read_fair : (IsMarker IsRow : List Prop → Type 0) (c : Contents) (pk : List ℕ) (range : Range) (found : Found) → HaveForms IsMarker IsRow c → IsContents c
    → found.rows ≡ take 100 (rows_within c.rows pk range) → found.more ≡ nat_lt 100 (length (rows_within c.rows pk range)) → is_fair found ≡ true
read_fair IsMarker IsRow c pk range found forms rise is more =
    let all = rows_within c.rows pk range in
    let rising = rising_take 100 all (rising_within c.rows pk range rise.rising) in
    let read = all_readable IsMarker IsRow c forms pk (take 100 all) (all_taken (IsRowOf c.rows pk) 100 all (members c.rows pk range rise.rising)) in
    ap (λ (rows : List StoredRow). list_all is_readable rows && ends_at_row found.more (read_end rows found.more)) is
    ∙ ap (λ (b : Bool). list_all is_readable (take 100 all) && ends_at_row b (read_end (take 100 all) b)) more
    ∙ ap (λ (b : Bool). b && ends_at_row (nat_lt 100 (length all)) (read_end (take 100 all) (nat_lt 100 (length all)))) read
    ∙ by (nat_lt 100 (length all)) refl rising read where
      by : (b : Bool) → nat_lt 100 (length (rows_within c.rows pk range)) ≡ b → RisingRows (take 100 (rows_within c.rows pk range)) → list_all is_readable (take 100 (rows_within c.rows pk range)) ≡ true → ends_at_row b (read_end (take 100 (rows_within c.rows pk range)) b) ≡ true
      by false e rising read = refl
      by true e rising read = many_end 100 (rows_within c.rows pk range) (omega arith) rising read e

-- ---- partitions

pub next_fair : (IsMarker IsRow : List Prop → Type 0) (c : Contents) (from : PkFrom) (next : Option (List ℕ)) → HaveForms IsMarker IsRow c → AreMarked c → IsNext from next c.rows → is_fair_next next ≡ true
next_fair IsMarker IsRow c from None forms marked is = refl
next_fair IsMarker IsRow c from (Some pk) forms marked is =
    let row = row_of_partition c.rows pk is.1 in
    let some : row_at c.rows pk row.0 ≢ None = λ e. (let x = sym row.2 ∙ e in cc) in
    by (row_at c.rows pk marker_key) refl (marked pk row.0 some) where
      by : (o : Option Stored) → row_at c.rows pk marker_key ≡ o → row_at c.rows pk marker_key ≢ None → is_partition_key pk ≡ true
      by None e some = absurd (some e)
      by (Some m) e some = ap (λ (f : Option KeyFault). not (is_some f)) (forms.markers pk m e).1
