-- Rows that pass a test, the tombstones among rows, and the deletes of rows.
use Rattle.std.proofs.Common.{◌≡◌, ◌≢◌, ℕ, ◌≤◌, Bool, true, false, cond, not, ◌||◌, List, [], ◌∷◌, map, filter, length, Option, Some, None, refl, sym, ap, subst, ◌∙◌, arith, bytes_eq, Less}
use Rattle.std.proofs.lemmas.List.Elements.{filter_passes, recursion_from_All}
use Rattle.std.proofs.lemmas.Map.Keys.{IsDistinct-cons}
use Rattle.std.specs.List.{AllByRecursion, IsDistinct}
use Rattle.std.specs.List.Sorted.{IsStrictlySortedBy}
use Rattle.std.specs.Ordering.{is_eq}
use Rattle.std.specs.Cmp.Lexicographic.{texts_ties}
use Rattle.mt_model.specs.declared.tag.Tag.{Tag}
use Rattle.mt_chain.specs.declared.row.Stored.{Stored}
use Rattle.mt_chain.specs.declared.row.StoredRow.{StoredRow}
use Rattle.mt_chain.specs.Rows.{RisingRows, row_in}
use Rattle.mt_chain.specs.Puts.{CanApply, row_key}
use Rattle.mt_chain.proofs.KeyLaws.{text_true, text_same, text_false}
use Rattle.mt_chain.proofs.PutLaws.{row_after}
use Rattle.mt_chain.proofs.TextOrder.{text_cmp, or_left, or_right}
use Rattle.mt_meta.specs.Markers.{marker_key}
use Rattle.mt_meta.specs.Facts.{is_in}
use Rattle.mt_clean.specs.Cleanings.{is_data, is_tombstone, data_rows, tombs_of, deletes_of, marker_put, ArePurged, AreDropped}
use Rattle.mt_clean.specs.Known.{keys_of}

-- ---- rows that pass a test

above_kept : (test : StoredRow → Bool) (k : List ℕ) (rows : List StoredRow) → AllByRecursion (λ y. text_cmp k y ≡ Less) (keys_of rows) → AllByRecursion (λ y. text_cmp k y ≡ Less) (keys_of (filter test rows))
above_kept test k [] h = tt
above_kept test k (r ∷ rows) h = go (test r) (above_kept test k rows h.1) where
  go : (b : Bool) → AllByRecursion (λ y. text_cmp k y ≡ Less) (keys_of (filter test rows)) → AllByRecursion (λ y. text_cmp k y ≡ Less) (keys_of (cond b (r ∷ filter test rows) (filter test rows)))
  go true rest = (h.0, rest)
  go false rest = rest

pub kept_rise : (test : StoredRow → Bool) (rows : List StoredRow) → RisingRows rows → RisingRows (filter test rows)
unfolding IsStrictlySortedBy
kept_rise test [] h = tt
kept_rise test (r ∷ rows) h = go (test r) (kept_rise test rows h.1) where
  go : (b : Bool) → RisingRows (filter test rows) → RisingRows (cond b (r ∷ filter test rows) (filter test rows))
  go true rest = (above_kept test r.rk rows h.0, rest)
  go false rest = rest

kept_few : (test : StoredRow → Bool) (rows : List StoredRow) → length (filter test rows) ≤ length rows
kept_few test [] = omega arith
kept_few test (r ∷ rows) = go (test r) (kept_few test rows) where
  go : (b : Bool) → length (filter test rows) ≤ length rows → length (cond b (r ∷ filter test rows) (filter test rows)) ≤ length (r ∷ rows)
  go true h = omega (arith, h)
  go false h = omega (arith, h)

kept_pass : (test : StoredRow → Bool) (rows : List StoredRow) → AllByRecursion (λ r. test r ≡ true) (filter test rows)
kept_pass test rows = recursion_from_All (λ r. test r ≡ true) (filter test rows) (filter_passes test rows)

-- old's rows in hand
pub are_dropped : (rows : List StoredRow) → length rows ≤ 100 → AreDropped (data_rows rows)
are_dropped rows few = record { few = (let le = kept_few is_data rows in omega (arith, le, few)); each = kept_pass is_data rows }

-- tombstones in hand
pub are_purged : (rows : List StoredRow) (tomb : StoredRow) (tombs : List StoredRow) → length rows ≤ 100 → tombs_of rows ≡ tomb ∷ tombs → ArePurged (tomb ∷ tombs)
are_purged rows tomb tombs few is = record {
  some = omega arith;
  few = (let le = kept_few is_tombstone rows in let n : length (tombs_of rows) ≡ length (tomb ∷ tombs) = ap length is in omega (arith, le, few, n));
  each = subst (AllByRecursion (λ r. is_tombstone r ≡ true)) is (kept_pass is_tombstone rows);
}

-- the marker aside, the row of a key is the same
pub data_in : (rows : List StoredRow) (rk : List ℕ) → rk ≢ marker_key → row_in (data_rows rows) rk ≡ row_in rows rk
data_in [] rk other = refl
data_in (r ∷ rows) rk other = go (bytes_eq rk r.rk) refl (data_in rows rk other) where
  go : (b : Bool) → bytes_eq rk r.rk ≡ b → row_in (data_rows rows) rk ≡ row_in rows rk → row_in (cond (is_data r) (r ∷ data_rows rows) (data_rows rows)) rk ≡ cond (bytes_eq rk r.rk) (Some r) (row_in rows rk)
  go true e rest =
      ap (λ x. row_in (cond x (r ∷ data_rows rows) (data_rows rows)) rk) (ap not (text_false r.rk marker_key (λ x. other (text_true rk r.rk e ∙ x))))
      ∙ ap (λ x. cond x (Some r) (row_in (data_rows rows) rk)) e
      ∙ sym (ap (λ x. cond x (Some r) (row_in rows rk)) e)
  go false e rest = both (is_data r) ∙ sym (ap (λ x. cond x (Some r) (row_in rows rk)) e) where
    both : (x : Bool) → row_in (cond x (r ∷ data_rows rows) (data_rows rows)) rk ≡ row_in rows rk
    both true = ap (λ x. cond x (Some r) (row_in (data_rows rows) rk)) e ∙ rest
    both false = rest

the_read : (a b : StoredRow) → Some a ≡ Some b → a ≡ b
the_read a b e = cc

-- a tombstone that was read is among them
pub tomb_listed : (rows : List StoredRow) (rk : List ℕ) (r : StoredRow) → row_in rows rk ≡ Some r → is_tombstone r ≡ true → is_in rk (keys_of (tombs_of rows)) ≡ true
tomb_listed [] rk r is t = absurd (let e = is in cc)
tomb_listed (x ∷ rows) rk r is t = go (bytes_eq rk x.rk) refl (λ e. tomb_listed rows rk r e t) is where
  keep : (b : Bool) → is_in rk (keys_of (tombs_of rows)) ≡ true → is_in rk (keys_of (cond b (x ∷ tombs_of rows) (tombs_of rows))) ≡ true
  keep true h = or_right (bytes_eq rk x.rk) _ h
  keep false h = h

  go : (b : Bool) → bytes_eq rk x.rk ≡ b → (row_in rows rk ≡ Some r → is_in rk (keys_of (tombs_of rows)) ≡ true) → cond b (Some x) (row_in rows rk) ≡ Some r
      → is_in rk (keys_of (cond (is_tombstone x) (x ∷ tombs_of rows) (tombs_of rows))) ≡ true
  go true e rest is = ap (λ b. is_in rk (keys_of (cond b (x ∷ tombs_of rows) (tombs_of rows)))) (ap is_tombstone (the_read x r is) ∙ t) ∙ or_left (bytes_eq rk x.rk) _ e
  go false e rest is = keep (is_tombstone x) (rest is)

-- ---- deletes of rows

pub delete_keys : (rows : List StoredRow) → map row_key (deletes_of rows) ≡ keys_of rows
delete_keys [] = refl
delete_keys (r ∷ rows) = ap (λ ks. r.rk ∷ ks) (delete_keys rows)

delete_count : (rows : List StoredRow) → length (deletes_of rows) ≡ length rows
delete_count [] = refl
delete_count (r ∷ rows) = (let n = delete_count rows in omega (arith, n))

text_swap : (a b : List ℕ) → bytes_eq a b ≡ bytes_eq b a
text_swap a b = go (bytes_eq a b) (bytes_eq b a) refl refl where
  go : (x y : Bool) → bytes_eq a b ≡ x → bytes_eq b a ≡ y → x ≡ y
  go true true ex ey = refl
  go false false ex ey = refl
  go true false ex ey = absurd (let e : true ≡ false = sym (ap (bytes_eq b) (text_true a b ex) ∙ text_same b) ∙ ey in cc)
  go false true ex ey = absurd (let e : true ≡ false = sym (ap (bytes_eq a) (text_true b a ey) ∙ text_same a) ∙ ex in cc)

-- deletes leave nothing at the keys of their rows, and all else as it was
pub after_deletes : (store n : ℕ) (rows : List StoredRow) (rk : List ℕ) (x : Option Stored) → row_after store n (deletes_of rows) rk x ≡ cond (is_in rk (keys_of rows)) None x
after_deletes store n [] rk x = refl
after_deletes store n (r ∷ rows) rk x =
    after_deletes store n rows rk (cond (bytes_eq r.rk rk) None x)
    ∙ ap (λ b. cond (is_in rk (keys_of rows)) None (cond b None x)) (text_swap r.rk rk)
    ∙ merged (bytes_eq rk r.rk) (is_in rk (keys_of rows)) where
      merged : (a b : Bool) → cond b None (cond a None x) ≡ cond (a || b) None x
      merged true true = refl
      merged true false = refl
      merged false b = refl

below_apart : (k : List ℕ) (ks : List (List ℕ)) → AllByRecursion (λ y. text_cmp k y ≡ Less) ks → AllByRecursion (λ y. bytes_eq k y ≡ false) ks
below_apart k [] h = tt
below_apart k (y ∷ ks) h = (texts_ties k y ∙ ap is_eq h.0, below_apart k ks h.1)

rising_apart : (ks : List (List ℕ)) → IsStrictlySortedBy text_cmp ks → IsDistinct bytes_eq ks
unfolding IsStrictlySortedBy IsDistinct
rising_apart [] h = tt
rising_apart (k ∷ ks) h = IsDistinct-cons bytes_eq k ks (below_apart k ks h.0) (rising_apart ks h.1)

pub can_purge : (tombs : List StoredRow) → RisingRows tombs → ArePurged tombs → CanApply (deletes_of tombs)
can_purge tombs rising h = (let n = delete_count tombs in let a = h.some in let b = h.few in record {
  some = omega (arith, n, a);
  few = omega (arith, n, b);
  apart = subst (IsDistinct bytes_eq) (sym (delete_keys tombs)) (rising_apart (keys_of tombs) rising);
})

not_true : (b : Bool) → not b ≡ true → b ≡ false
not_true true h = absurd (let e = h in cc)
not_true false h = refl

-- the marker's key is none of those of data rows
pub no_marker : (rows : List StoredRow) → AllByRecursion (λ r. is_data r ≡ true) rows → AllByRecursion (λ y. bytes_eq marker_key y ≡ false) (keys_of rows)
no_marker [] h = tt
no_marker (r ∷ rows) h = (text_swap marker_key r.rk ∙ not_true (bytes_eq r.rk marker_key) h.0, no_marker rows h.1)

pub can_drop : (marker : Tag) (more : Bool) (rows : List StoredRow) → RisingRows rows → AreDropped rows → CanApply (marker_put marker more ∷ deletes_of rows)
can_drop marker more rows rising h = record {
  some = omega arith;
  few = (let n = delete_count rows in let b = h.few in omega (arith, n, b));
  apart = go more;
} where
  distinct : IsDistinct bytes_eq (marker_key ∷ map row_key (deletes_of rows))
  distinct = subst (λ ks. IsDistinct bytes_eq (marker_key ∷ ks)) (sym (delete_keys rows)) (IsDistinct-cons bytes_eq marker_key (keys_of rows) (no_marker rows h.each) (rising_apart (keys_of rows) rising))

  go : (b : Bool) → IsDistinct bytes_eq (map row_key (marker_put marker b ∷ deletes_of rows))
  go true = distinct
  go false = distinct
