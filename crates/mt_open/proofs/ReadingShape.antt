-- Rows that are read after others: their keys rise, whatever the store tells.
use Rattle.std.proofs.Common.{◌≡◌, ℕ, true, not, ◌&&◌, List, [], ◌∷◌, ◌++◌, map, refl, sym, ap, ◌∙◌, subst, inl, inr, bytes_eq, Some, Less, Equal, Greater, Ordering}
use Rattle.std.proofs.lemmas.Bool.{and_parts, or_cases}
use Rattle.std.specs.List.{AllByRecursion}
use Rattle.std.specs.List.Sorted.{IsStrictlySortedBy}
use Rattle.std.specs.Ordering.{nat_cmp, is_lt, is_le, ordering_then, ordering_reverse}
use Rattle.std.specs.Cmp.{tied_itself, alike_right}
use Rattle.std.specs.Cmp.Lexicographic.{slice_cmp, nat_list_cmp_total}
use Rattle.std.specs.FinMap.Entries.{below_all}
use Rattle.mt_model.specs.declared.key.Key.{Key}
use Rattle.mt_model.specs.Key.{key_cmp}
use Rattle.mt_chain.specs.declared.row.StoredRow.{StoredRow}
use Rattle.mt_chain.specs.declared.query.RkFrom.{RkFrom}
use Rattle.mt_chain.specs.declared.query.RkFrom.TheVariants as place
use Rattle.mt_chain.specs.declared.query.PkFrom.{PkFrom}
use Rattle.mt_chain.specs.declared.query.PkFrom.TheVariants as start
use Rattle.mt_chain.specs.Rows.{Rows, key_at, are_rising, is_from, is_past, last_key}
use Rattle.mt_chain.specs.Places.{is_before, is_passed}
use Rattle.mt_chain.proofs.KeyLaws.{text_true, text_same}
use Rattle.mt_open.specs.Reading.{keyed, AllPass}
use Rattle.mt_open.proofs.ReadingLists.{Entry, lt_less, or_left, or_right, and_both, weaker, all_append, below_each, rising_append}

abbrev pub text_cmp : List ℕ → List ℕ → Ordering
text_cmp = slice_cmp nat_cmp

-- ---- texts

pub turned : (a b : List ℕ) (o : Ordering) → text_cmp a b ≡ o → text_cmp b a ≡ ordering_reverse o
turned a b o e = nat_list_cmp_total.antisymm b a ∙ ap ordering_reverse e

pub not_above : (a b : List ℕ) → text_cmp a b ≡ Less → not (is_lt (text_cmp b a)) ≡ true
not_above a b l = ap (λ o. not (is_lt o)) (turned a b Less l)

pub not_itself : (a : List ℕ) → not (is_lt (text_cmp a a)) ≡ true
not_itself a = ap (λ o. not (is_lt o)) (tied_itself nat_list_cmp_total a)

-- a text before a place is less than one from the place on
below_from : (low a b : List ℕ) → not (is_le (text_cmp low a)) ≡ true → is_le (text_cmp low b) ≡ true → text_cmp a b ≡ Less
below_from low a b h g = go (text_cmp low a) (text_cmp low b) refl refl h g where
  go : (x y : Ordering) → text_cmp low a ≡ x → text_cmp low b ≡ y → not (is_le x) ≡ true → is_le y ≡ true → text_cmp a b ≡ Less
  go Less y ex ey h g = absurd cc
  go Equal y ex ey h g = absurd cc
  go Greater Less ex ey h g = nat_list_cmp_total.trans a low b (turned low a Greater ex) ey
  go Greater Equal ex ey h g = sym (alike_right nat_list_cmp_total low b a ey) ∙ turned low a Greater ex
  go Greater Greater ex ey h g = absurd cc

below_after : (low a b : List ℕ) → not (is_lt (text_cmp low a)) ≡ true → is_lt (text_cmp low b) ≡ true → text_cmp a b ≡ Less
below_after low a b h g = go (text_cmp low a) refl h where
  go : (x : Ordering) → text_cmp low a ≡ x → not (is_lt x) ≡ true → text_cmp a b ≡ Less
  go Less ex h = absurd cc
  go Equal ex h = sym (nat_list_cmp_total.congr low a b ex) ∙ lt_less _ g
  go Greater ex h = nat_list_cmp_total.trans a low b (turned low a Greater ex) (lt_less _ g)

pub from_apart : (from : RkFrom) (a b : List ℕ) → not (is_from from a) ≡ true → is_from from b ≡ true → text_cmp a b ≡ Less
from_apart place.Start a b h g = absurd cc
from_apart (place.From low) a b h g = below_from low a b h g
from_apart (place.After low) a b h g = below_after low a b h g

pub past_apart : (at : PkFrom) (a b : List ℕ) → not (is_past at a) ≡ true → is_past at b ≡ true → text_cmp a b ≡ Less
past_apart (start.From low) a b h g = below_from low a b h g
past_apart (start.After low) a b h g = below_after low a b h g

-- ---- keys

pub less_by_pk : (x y : Key) → text_cmp x.pk y.pk ≡ Less → key_cmp x y ≡ Less
less_by_pk x y l = ap (λ o. ordering_then o (text_cmp x.rk y.rk)) l

pub same_pk : (x y : Key) → x.pk ≡ y.pk → key_cmp x y ≡ text_cmp x.rk y.rk
same_pk x y e = ap (λ o. ordering_then o (text_cmp x.rk y.rk)) (sym (ap (text_cmp x.pk) e) ∙ tied_itself nat_list_cmp_total x.pk)

-- a key before a place in a partition is less than one of the partition from the place on
pub crosses : (pk : List ℕ) (from : RkFrom) (x : Key) (rk : List ℕ) → is_before pk from x ≡ true → is_from from rk ≡ true → key_cmp x (key_at pk rk) ≡ Less
crosses pk from x rk h g = elim (or_cases (is_lt (text_cmp x.pk pk)) (bytes_eq x.pk pk && not (is_from from x.rk)) h) as (λ _. key_cmp x (key_at pk rk) ≡ Less) [
  | inl before ↦ less_by_pk x (key_at pk rk) (lt_less _ before)
  | inr here ↦ let parts = and_parts (bytes_eq x.pk pk) (not (is_from from x.rk)) here in same_pk x (key_at pk rk) (text_true x.pk pk parts.0) ∙ from_apart from x.rk rk parts.1 g
]

-- ---- rows with their keys

keyed_below : (pk rk : List ℕ) (rows : List StoredRow) → AllByRecursion (λ y. text_cmp rk y ≡ Less) (map (λ r. r.rk) rows) → below_all key_cmp (key_at pk rk) (keyed pk rows) ≡ true
keyed_below pk rk [] h = refl
keyed_below pk rk (r ∷ rows) h = and_both _ _ (ap is_lt (same_pk (key_at pk rk) (key_at pk r.rk) refl ∙ h.0)) (keyed_below pk rk rows h.1)

keyed_rising : (pk : List ℕ) (rows : List StoredRow) → IsStrictlySortedBy text_cmp (map (λ r. r.rk) rows) → are_rising (keyed pk rows) ≡ true
unfolding IsStrictlySortedBy
keyed_rising pk [] h = refl
keyed_rising pk (r ∷ rows) h = and_both _ _ (keyed_below pk r.rk rows h.0) (keyed_rising pk rows h.1)

keyed_each : (pk : List ℕ) (P : Entry → Type 0) (Q : StoredRow → Type 0) → ((r : StoredRow) → Q r → P (key_at pk r.rk, record { props = r.props; tag = r.tag })) → (rows : List StoredRow) → AllByRecursion Q rows → AllByRecursion P (keyed pk rows)
keyed_each pk P Q f [] h = tt
keyed_each pk P Q f (r ∷ rows) h = (f r h.0, keyed_each pk P Q f rows h.1)

keyed_cross : (pk : List ℕ) (from : RkFrom) (x : Key) (rows : List StoredRow) → is_before pk from x ≡ true → AllByRecursion (λ (r : StoredRow). is_from from r.rk ≡ true) rows → below_all key_cmp x (keyed pk rows) ≡ true
keyed_cross pk from x rows h g = below_each x (keyed pk rows) (keyed_each pk (λ e. key_cmp x e.0 ≡ Less) (λ r. is_from from r.rk ≡ true) (λ r i. crosses pk from x r.rk h i) rows g)

rising_more : (pk : List ℕ) (from : RkFrom) (old : Rows) (rows : List StoredRow) → AllPass (is_before pk from) old → AllByRecursion (λ (r : StoredRow). is_from from r.rk ≡ true) rows → IsStrictlySortedBy text_cmp (map (λ r. r.rk) rows) → are_rising (old ++ keyed pk rows) ≡ true
rising_more pk from old rows all g sorted =
    rising_append old (keyed pk rows) all.rising (keyed_rising pk rows sorted)
    (weaker (λ e. is_before pk from e.0 ≡ true) (λ (e : Entry). below_all key_cmp e.0 (keyed pk rows) ≡ true) (λ e h. keyed_cross pk from e.0 rows h g) old all.each)

-- what holds of all row keys holds of the last
pub last_is : (P : List ℕ → Type 0) (rows : List StoredRow) (k : List ℕ) → AllByRecursion P (map (λ r. r.rk) rows) → last_key rows ≡ Some k → P k
last_is P [] k h e = absurd cc
last_is P (r ∷ []) k h e = subst P (let same : r.rk ≡ k = cc in same) h.0
last_is P (r ∷ s ∷ rows) k h e = last_is P (s ∷ rows) k h.1 e

pub key_each : (P : List ℕ → Type 0) (rows : List StoredRow) → AllByRecursion (λ (r : StoredRow). P r.rk) rows → AllByRecursion P (map (λ r. r.rk) rows)
key_each P [] h = tt
key_each P (r ∷ rows) h = (h.0, key_each P rows h.1)

-- the last row key is above no other
none_above : (rows : List StoredRow) (k : List ℕ) → IsStrictlySortedBy text_cmp (map (λ r. r.rk) rows) → last_key rows ≡ Some k → AllByRecursion (λ (r : StoredRow). not (is_lt (text_cmp k r.rk)) ≡ true) rows
unfolding IsStrictlySortedBy
none_above [] k h e = tt
none_above (r ∷ []) k h e = (let same : r.rk ≡ k = cc in subst (λ a. not (is_lt (text_cmp a r.rk)) ≡ true) same (not_itself r.rk), tt)
none_above (r ∷ s ∷ rows) k h e = (not_above r.rk k (last_is (λ y. text_cmp r.rk y ≡ Less) (s ∷ rows) k h.0 e), none_above (s ∷ rows) k h.1 e)

-- a key before a place in a partition lies before the partition, or in it before the place
before_more : (pk : List ℕ) (from : RkFrom) (k : List ℕ) (x : Key) → is_from from k ≡ true → is_before pk from x ≡ true → is_before pk (place.After k) x ≡ true
before_more pk from k x g h = elim (or_cases (is_lt (text_cmp x.pk pk)) (bytes_eq x.pk pk && not (is_from from x.rk)) h) as (λ _. is_before pk (place.After k) x ≡ true) [
  | inl before ↦ or_left _ _ before
  | inr here ↦ let parts = and_parts (bytes_eq x.pk pk) (not (is_from from x.rk)) here in or_right (is_lt (text_cmp x.pk pk)) _ (and_both _ _ parts.0 (not_above x.rk k (from_apart from x.rk k parts.1 g)))
]

before_passed : (pk : List ℕ) (from : RkFrom) (x : Key) → is_before pk from x ≡ true → is_passed (start.After pk) x ≡ true
before_passed pk from x h = elim (or_cases (is_lt (text_cmp x.pk pk)) (bytes_eq x.pk pk && not (is_from from x.rk)) h) as (λ _. not (is_lt (text_cmp pk x.pk)) ≡ true) [
  | inl before ↦ not_above x.pk pk (lt_less _ before)
  | inr here ↦ subst (λ a. not (is_lt (text_cmp a x.pk)) ≡ true) (text_true x.pk pk (and_parts (bytes_eq x.pk pk) (not (is_from from x.rk)) here).0) (not_itself x.pk)
]

-- after a chunk that is not the last
pub shape_more : (pk : List ℕ) (from : RkFrom) (old : Rows) (rows : List StoredRow) (k : List ℕ) → AllPass (is_before pk from) old → AllByRecursion (λ (r : StoredRow). is_from from r.rk ≡ true) rows → IsStrictlySortedBy text_cmp (map (λ r. r.rk) rows) → last_key rows ≡ Some k → AllPass (is_before pk (place.After k)) (old ++ keyed pk rows)
shape_more pk from old rows k all g sorted last = record {
  rising = rising_more pk from old rows all g sorted;
  each =
      let from_k = last_is (λ rk. is_from from rk ≡ true) rows k (key_each (λ rk. is_from from rk ≡ true) rows g) last in
      all_append (λ e. is_before pk (place.After k) e.0 ≡ true) old (keyed pk rows)
      (weaker (λ e. is_before pk from e.0 ≡ true) (λ (e : Entry). is_before pk (place.After k) e.0 ≡ true) (λ e h. before_more pk from k e.0 from_k h) old all.each)
      (keyed_each pk (λ e. is_before pk (place.After k) e.0 ≡ true) (λ r. not (is_lt (text_cmp k r.rk)) ≡ true) (λ r h. or_right (is_lt (text_cmp pk pk)) _ (and_both _ _ (text_same pk) h)) rows (none_above rows k sorted last));
}

-- after the last chunk
pub shape_whole : (pk : List ℕ) (from : RkFrom) (old : Rows) (rows : List StoredRow) → AllPass (is_before pk from) old → AllByRecursion (λ (r : StoredRow). is_from from r.rk ≡ true) rows → IsStrictlySortedBy text_cmp (map (λ r. r.rk) rows) → AllPass (is_passed (start.After pk)) (old ++ keyed pk rows)
shape_whole pk from old rows all g sorted = record {
  rising = rising_more pk from old rows all g sorted;
  each = all_append (λ e. is_passed (start.After pk) e.0 ≡ true) old (keyed pk rows)
      (weaker (λ e. is_before pk from e.0 ≡ true) (λ (e : Entry). is_passed (start.After pk) e.0 ≡ true) (λ e h. before_passed pk from e.0 h) old all.each)
      (keyed_each pk (λ e. is_passed (start.After pk) e.0 ≡ true) (λ r. is_from from r.rk ≡ true) (λ r h. not_itself pk) rows g);
}

-- at the start of the next partition
pub shape_start : (at : PkFrom) (pk : List ℕ) (rows : Rows) → AllPass (is_passed at) rows → is_past at pk ≡ true → AllPass (is_before pk place.Start) rows
shape_start at pk rows all past = record {
  rising = all.rising;
  each = weaker (λ e. is_passed at e.0 ≡ true) (λ (e : Entry). is_before pk place.Start e.0 ≡ true) (λ e h. or_left _ _ (ap is_lt (past_apart at e.0.pk pk h past))) rows all.each;
}
