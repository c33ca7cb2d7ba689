-- What stands at the place where a search ended.
use Rattle.std.proofs.Common.{◌≡◌, ℕ, zero, suc, ◌-◌, ◌<◌, Bool, true, false, cond, not, ◌&&◌, ◌||◌, List, [], ◌∷◌, map, length, take, drop, get_or, set, insert, remove, filter, refl, sym, ap, ◌∙◌, inl, inr, arith, bytes_eq, Some, None, Less, Equal, Greater, Ordering, Result, Ok, Err, is_ok, option_map}
use Rattle.std.proofs.lemmas.List.{get_or_default}
use Rattle.std.proofs.lemmas.Bool.{and_parts, cases_lt}
use Rattle.std.specs.List.{list_any, AllByRecursion, find as first_where}
use Rattle.std.specs.List.Sorted.{IsStrictlySortedBy, IsNonDecreasingBy, IsPartitionedBy, IsPartitionPoint, IsBinarySearchResult, IsSearchInRange}
use Rattle.std.specs.Ordering.{nat_cmp, is_lt, is_eq, eq_by_cmp, ordering_index}
use Rattle.std.specs.Cmp.{alike_right, tied_back}
use Rattle.std.specs.Cmp.Lexicographic.{slice_cmp, nat_list_eq_equiv, texts_ties}
use Rattle.std.specs.FinMap.Entries.{find, put, where_key, is_sorted, below_all, by_order}
use Rattle.mt_model.specs.declared.key.Key.{Key}
use Rattle.mt_model.specs.Key.{key_cmp}
use Rattle.mt_chain.specs.declared.row.Stored.{Stored}
use Rattle.mt_chain.specs.Rows.{Rows, are_rising, has_partition}
use Rattle.mt_chain.specs.Places.{EndsAt, IsCut}
use Rattle.mt_chain.proofs.KeyLaws.{key_total, key_ties}
use Rattle.mt_chain.proofs.OrderLaws.{lt_less, reversed, FallsByKey, RisesByKey}
use Rattle.mt_chain.proofs.Searches.{pairs_below, rises_along, falls_along, search_ends_by, key_found, key_absent}

-- the key and the row of an entry
abbrev Entry : Type 0
Entry = Key × Stored

pub rest_rising : (e : Entry) (rows : Rows) → are_rising (e ∷ rows) ≡ true → are_rising rows ≡ true
rest_rising e rows h = (and_parts (below_all key_cmp e.0 rows) (is_sorted key_cmp rows) h).1

pub head_below : (e : Entry) (rows : Rows) → are_rising (e ∷ rows) ≡ true → below_all key_cmp e.0 rows ≡ true
head_below e rows h = (and_parts (below_all key_cmp e.0 rows) (is_sorted key_cmp rows) h).0

below_at : (x : Key) (rows : Rows) (k : ℕ) (d : Entry) → below_all key_cmp x rows ≡ true → k < length rows → key_cmp x (get_or rows k d).0 ≡ Less
below_at x [] k d h l = absurd (omega arith)
below_at x (e ∷ rows) zero d h l = lt_less _ (and_parts (is_lt (key_cmp x e.0)) (below_all key_cmp x rows) h).0
below_at x (e ∷ rows) (suc k) d h l = below_at x rows k d (and_parts (is_lt (key_cmp x e.0)) (below_all key_cmp x rows) h).1 (omega arith)

-- rows rise by `are_rising` as their keys do by std's word for lists
pub keys_sorted : (rows : Rows) → are_rising rows ≡ true → IsStrictlySortedBy key_cmp (map (λ e. e.0) rows)
unfolding IsStrictlySortedBy
keys_sorted [] h = tt
keys_sorted (e ∷ rows) h = (all_below e.0 rows (head_below e rows h), keys_sorted rows (rest_rising e rows h)) where
  all_below : (x : Key) (rows : Rows) → below_all key_cmp x rows ≡ true → AllByRecursion (λ y. key_cmp x y ≡ Less) (map (λ (f : Entry). f.0) rows)
  all_below x [] h = tt
  all_below x (f ∷ rows) h = (let parts = and_parts (is_lt (key_cmp x f.0)) (below_all key_cmp x rows) h in (lt_less _ parts.0, all_below x rows parts.1))

pub sorted_rising : (rows : Rows) → IsStrictlySortedBy key_cmp (map (λ e. e.0) rows) → are_rising rows ≡ true
unfolding IsStrictlySortedBy
sorted_rising [] h = refl
sorted_rising (e ∷ rows) h = both (below e.0 rows h.0) (sorted_rising rows h.1) where
  both : {a b : Bool} → a ≡ true → b ≡ true → (a && b) ≡ true
  both {a} {b} p q = ap (λ t. t && b) p ∙ q

  below : (x : Key) (rows : Rows) → AllByRecursion (λ y. key_cmp x y ≡ Less) (map (λ (f : Entry). f.0) rows) → below_all key_cmp x rows ≡ true
  below x [] h = refl
  below x (f ∷ rows) h = both (ap is_lt h.0) (below x rows h.1)

-- the key at a later place is greater
pub rises : (rows : Rows) (i j : ℕ) (d : Entry) → are_rising rows ≡ true → i < j → j < length rows → key_cmp (get_or rows i d).0 (get_or rows j d).0 ≡ Less
rises rows i j d h ij jl = pairs_below key_total (λ (e : Entry). e.0) rows (keys_sorted rows h) i j d ij jl

pub searchable : (ord : Key → Ordering) → RisesByKey ord → (rows : Rows) → are_rising rows ≡ true → IsNonDecreasingBy (λ (e : Entry). ordering_index (ord e.0)) rows
searchable ord up rows h = rises_along (λ e f. key_cmp e.0 f.0 ≡ Less) (λ e. ord e.0) (λ e f. up e.0 f.0) rows (λ i j d. rises rows i j d h)

pub partitioned : (test : Key → Bool) → FallsByKey test → (rows : Rows) → are_rising rows ≡ true → IsPartitionedBy (λ (e : Entry). test e.0) rows
partitioned test falls rows h = falls_along (λ e f. key_cmp e.0 f.0 ≡ Less) (λ e. test e.0) (λ e f. falls e.0 f.0) rows (λ i j d. rises rows i j d h)

pub search_ends : (ord : Key → Ordering) → RisesByKey ord → (rows : Rows) (r : Result ℕ ℕ) → are_rising rows ≡ true → IsSearchInRange r (length rows) → IsBinarySearchResult (λ (e : Entry). ord e.0) rows r → EndsAt ord rows r
search_ends ord up rows r h bound found = search_ends_by (λ e. ord e.0) rows r (searchable ord up rows h) bound found

-- ---- look-ups

-- the row at a key is that of the first entry with the key
pub find_entry : (key : Key) (rows : Rows) → find key_cmp key rows ≡ option_map (λ (e : Entry). e.1) (first_where (λ (e : Entry). eq_by_cmp key_cmp key e.0) rows)
find_entry key [] = refl
find_entry key (e ∷ rows) = elim (eq_by_cmp key_cmp key e.0) as (λ b. cond b (Some e.1) (find key_cmp key rows) ≡ option_map (λ (f : Entry). f.1) (cond b (Some e) (first_where (λ (f : Entry). eq_by_cmp key_cmp key f.0) rows))) [
  | true ↦ refl
  | false ↦ find_entry key rows
]

pub find_at : (key : Key) (rows : Rows) (at : ℕ) (d : Entry) → are_rising rows ≡ true → at < length rows → key_cmp (get_or rows at d).0 key ≡ Equal → find key_cmp key rows ≡ Some (get_or rows at d).1
find_at key rows at d h within tie =
    find_entry key rows
    ∙ ap (option_map (λ (e : Entry). e.1)) (key_found key_total (λ (e : Entry). e.0) key (λ e. eq_by_cmp key_cmp key e.0) (λ e. refl) rows at d (keys_sorted rows h)
    (within, λ e. ap (λ (x : Entry). key_cmp x.0 key) (get_or_default rows at e d within) ∙ tie))

pub find_gap : (key : Key) (rows : Rows) (at : ℕ) → EndsAt (λ k. key_cmp k key) rows (Err at) → find key_cmp key rows ≡ None
find_gap key rows at ends =
    find_entry key rows
    ∙ ap (option_map (λ (e : Entry). e.1)) (key_absent key_total (λ (e : Entry). e.0) key (λ e. eq_by_cmp key_cmp key e.0) (λ e. refl) rows at ends)

-- no row ties with the key
abbrev NoTie : Key → Rows → Type 0
NoTie key rows = (k : ℕ) (d : Entry) → k < length rows → eq_by_cmp key_cmp key (get_or rows k d).0 ≡ false

no_tie : (key : Key) (rows : Rows) (at : ℕ) → IsPartitionPoint (λ (e : Entry). key_cmp e.0 key ≡ Less) (λ (e : Entry). key_cmp e.0 key ≡ Greater) rows at → NoTie key rows
no_tie key rows at cut k d l = elim (cases_lt k at) as (λ _. eq_by_cmp key_cmp key (get_or rows k d).0 ≡ false) [
  | inl below ↦ ap is_eq (reversed (get_or rows k d).0 key Less (cut.0 k d (omega arith) below))
  | inr above ↦ ap is_eq (reversed (get_or rows k d).0 key Greater (cut.1 k d above l))
]

rest_no_tie : (key : Key) (e : Entry) (rows : Rows) → NoTie key (e ∷ rows) → NoTie key rows
rest_no_tie key e rows none k d l = none (suc k) d (omega arith)

-- ---- partitions

pub any_at : (test : Entry → Bool) (rows : Rows) (at : ℕ) (d : Entry) → at < length rows → test (get_or rows at d) ≡ true → list_any test rows ≡ true
any_at test [] at d l e = absurd (omega arith)
any_at test (x ∷ rows) zero d l e = ap (λ t. t || list_any test rows) e
any_at test (x ∷ rows) (suc at) d l e = or_right (test x) (list_any test rows) (any_at test rows at d (omega arith) e) where
  or_right : (a b : Bool) → b ≡ true → (a || b) ≡ true
  or_right true b e = refl
  or_right false b e = e

pub any_none : (test : Entry → Bool) (rows : Rows) → ((k : ℕ) (d : Entry) → k < length rows → test (get_or rows k d) ≡ false) → list_any test rows ≡ false
any_none test [] none = refl
any_none test (x ∷ rows) none = ap (λ t. t || list_any test rows) (none 0 x (omega arith)) ∙ any_none test rows (λ k d l. none (suc k) d (omega arith))

pub partition_at : (pk : List ℕ) (rows : Rows) (at : ℕ) (d : Entry) → at < length rows → slice_cmp nat_cmp (get_or rows at d).0.pk pk ≡ Equal → has_partition rows pk ≡ true
partition_at pk rows at d l tie = any_at (λ e. bytes_eq pk e.0.pk) rows at d l (nat_list_eq_equiv.symm pk (get_or rows at d).0.pk ∙ texts_ties (get_or rows at d).0.pk pk ∙ ap is_eq tie)

pub partition_gap : (pk : List ℕ) (rows : Rows) (at : ℕ) → IsPartitionPoint (λ (e : Entry). slice_cmp nat_cmp e.0.pk pk ≡ Less) (λ (e : Entry). slice_cmp nat_cmp e.0.pk pk ≡ Greater) rows at → has_partition rows pk ≡ false
partition_gap pk rows at cut = any_none (λ e. bytes_eq pk e.0.pk) rows (λ k d l. nat_list_eq_equiv.symm pk (get_or rows k d).0.pk ∙ texts_ties (get_or rows k d).0.pk pk ∙ elim (cases_lt k at) as (λ _. is_eq (slice_cmp nat_cmp (get_or rows k d).0.pk pk) ≡ false) [
  | inl below ↦ ap is_eq (cut.0 k d (omega arith) below)
  | inr above ↦ ap is_eq (cut.1 k d above l)
])

pub has_partition_by : (pk : List ℕ) (rows : Rows) (r : Result ℕ ℕ) → EndsAt (λ k. slice_cmp nat_cmp k.pk pk) rows r → is_ok r ≡ has_partition rows pk
has_partition_by pk [] (Ok at) ends = absurd (omega (arith, ends.0))
has_partition_by pk (e ∷ rows) (Ok at) ends = sym (partition_at pk (e ∷ rows) at e ends.0 (ends.1 e))
has_partition_by pk rows (Err at) ends = sym (partition_gap pk rows at ends.1)

-- ---- changes

pub put_at : (key : Key) (s : Stored) (rows : Rows) (at : ℕ) (d : Entry) → are_rising rows ≡ true → at < length rows → key_cmp (get_or rows at d).0 key ≡ Equal → put key_cmp key s rows ≡ set rows at (key, s)
put_at key s [] at d h l tie = absurd (omega arith)
put_at key s (e ∷ rows) zero d h l tie =
    ap (λ o. by_order o ((key, s) ∷ e ∷ rows) ((e.0, s) ∷ rows) (e ∷ put key_cmp key s rows)) (tied_back key_total e.0 key tie)
    ∙ ap (λ k. (k, s) ∷ rows) (key_ties e.0 key tie)
put_at key s (e ∷ rows) (suc at) d h l tie =
    let below = below_at e.0 rows at d (head_below e rows h) (omega arith) in
    let less = sym (alike_right key_total (get_or rows at d).0 key e.0 tie) ∙ below in
    ap (λ o. by_order o ((key, s) ∷ e ∷ rows) ((e.0, s) ∷ rows) (e ∷ put key_cmp key s rows)) (reversed e.0 key Less less)
    ∙ ap (λ rs. e ∷ rs) (put_at key s rows at d (rest_rising e rows h) (omega arith) tie)

pub put_gap : (key : Key) (s : Stored) (rows : Rows) (at : ℕ) → EndsAt (λ k. key_cmp k key) rows (Err at) → put key_cmp key s rows ≡ insert rows at (key, s)
put_gap key s [] zero ends = refl
put_gap key s [] (suc at) ends = absurd (omega (arith, ends.0))
put_gap key s (e ∷ rows) zero ends = ap (λ o. by_order o ((key, s) ∷ e ∷ rows) ((e.0, s) ∷ rows) (e ∷ put key_cmp key s rows)) (reversed e.0 key Greater (ends.1.1 0 e (omega arith) (omega arith)))
put_gap key s (e ∷ rows) (suc at) ends =
    ap (λ o. by_order o ((key, s) ∷ e ∷ rows) ((e.0, s) ∷ rows) (e ∷ put key_cmp key s rows)) (reversed e.0 key Less (ends.1.0 0 e (omega arith) (omega arith)))
    ∙ ap (λ rs. e ∷ rs) (put_gap key s rows at (omega (arith, ends.0), ((λ k d z l. ends.1.0 (suc k) d (omega arith) (omega arith)), (λ k d z l. ends.1.1 (suc k) d (omega arith) (omega arith)))))

all_stay : (key : Key) (rows : Rows) → NoTie key rows → where_key key_cmp (λ k. not (eq_by_cmp key_cmp key k)) rows ≡ rows
all_stay key [] none = refl
all_stay key (e ∷ rows) none =
    let rest = where_key key_cmp (λ k. not (eq_by_cmp key_cmp key k)) rows in
    ap (λ b. cond (not b) (e ∷ rest) rest) (none 0 e (omega arith)) ∙ ap (λ rs. e ∷ rs) (all_stay key rows (rest_no_tie key e rows none))

pub without_gap : (key : Key) (rows : Rows) (at : ℕ) → EndsAt (λ k. key_cmp k key) rows (Err at) → where_key key_cmp (λ k. not (eq_by_cmp key_cmp key k)) rows ≡ rows
without_gap key rows at ends = all_stay key rows (no_tie key rows at ends.1)

above_tie : (key : Key) (e : Entry) (rows : Rows) → are_rising (e ∷ rows) ≡ true → key_cmp e.0 key ≡ Equal → NoTie key rows
above_tie key e rows h tie k d l = ap is_eq (sym (key_total.congr e.0 key (get_or rows k d).0 tie) ∙ below_at e.0 rows k d (head_below e rows h) l)

pub without_at : (key : Key) (rows : Rows) (at : ℕ) (d : Entry) → are_rising rows ≡ true → at < length rows → key_cmp (get_or rows at d).0 key ≡ Equal → where_key key_cmp (λ k. not (eq_by_cmp key_cmp key k)) rows ≡ remove rows at
without_at key [] at d h l tie = absurd (omega arith)
without_at key (e ∷ rows) zero d h l tie =
    let rest = where_key key_cmp (λ k. not (eq_by_cmp key_cmp key k)) rows in
    ap (λ o. cond (not (is_eq o)) (e ∷ rest) rest) (tied_back key_total e.0 key tie)
    ∙ all_stay key rows (above_tie key e rows h tie)
without_at key (e ∷ rows) (suc at) d h l tie =
    let below = below_at e.0 rows at d (head_below e rows h) (omega arith) in
    let less = sym (alike_right key_total (get_or rows at d).0 key e.0 tie) ∙ below in
    let rest = where_key key_cmp (λ k. not (eq_by_cmp key_cmp key k)) rows in
    ap (λ o. cond (not (is_eq o)) (e ∷ rest) rest) (reversed e.0 key Less less)
    ∙ ap (λ rs. e ∷ rs) (without_at key rows at d (rest_rising e rows h) (omega arith) tie)

-- ---- what lies between two places

pub same_filter : (p q : Entry → Bool) → ((e : Entry) → p e ≡ q e) → (rows : Rows) → filter p rows ≡ filter q rows
same_filter p q same [] = refl
same_filter p q same (e ∷ rows) = ap (λ b. cond b (e ∷ filter p rows) (filter p rows)) (same e) ∙ ap (λ rs. cond (q e) (e ∷ rs) rs) (same_filter p q same rows)

rest_cut : (test : Key → Bool) (e : Entry) (rows : Rows) (at : ℕ) → IsCut test (e ∷ rows) (suc at) → IsCut test rows at
rest_cut test e rows at cut = (omega (arith, cut.0), ((λ k d z l. cut.1.0 (suc k) d (omega arith) (omega arith)), (λ k d z l. cut.1.1 (suc k) d (omega arith) (omega arith))))

rest_start : (test : Key → Bool) (e : Entry) (rows : Rows) → IsCut test (e ∷ rows) 0 → IsCut test rows 0
rest_start test e rows cut = (omega arith, ((λ k d z l. absurd (omega arith)), (λ k d z l. cut.1.1 (suc k) d (omega arith) (omega arith))))

none_from : (p q : Key → Bool) (rows : Rows) → IsCut q rows 0 → filter (λ e. not (p e.0) && q e.0) rows ≡ []
none_from p q [] cut = refl
none_from p q (e ∷ rows) cut = ap (λ b. cond b (e ∷ rest) rest) (no_and (not (p e.0)) (q e.0) (cut.1.1 0 e (omega arith) (omega arith))) ∙ none_from p q rows (rest_start q e rows cut) where
  rest : Rows
  rest = filter (λ e. not (p e.0) && q e.0) rows

  no_and : (a b : Bool) → b ≡ false → (a && b) ≡ false
  no_and true b e = e
  no_and false b e = refl

pub between : (p q : Key → Bool) (rows : Rows) (low high : ℕ) → IsCut p rows low → IsCut q rows high → filter (λ e. not (p e.0) && q e.0) rows ≡ take (high - low) (drop low rows)
between p q rows low zero a b = none_from p q rows b ∙ sym (ap (λ n. take n (drop low rows)) (let e : 0 - low ≡ 0 = omega arith in e))
between p q [] low (suc high) a b = absurd (omega (arith, b.0))
between p q (e ∷ rows) zero (suc high) a b =
    let rest = filter (λ e. not (p e.0) && q e.0) rows in
    ap (λ t. cond (not t && q e.0) (e ∷ rest) rest) (a.1.1 0 e (omega arith) (omega arith))
    ∙ ap (λ t. cond t (e ∷ rest) rest) (b.1.0 0 e (omega arith) (omega arith))
    ∙ ap (λ rs. e ∷ rs) (between p q rows 0 high (rest_start p e rows a) (rest_cut q e rows high b))
    ∙ ap (λ n. e ∷ take n rows) (let same : high - 0 ≡ high = omega arith in same)
    ∙ ap (λ n. take n (e ∷ rows)) (let same : suc high ≡ suc high - 0 = omega arith in same)
between p q (e ∷ rows) (suc low) (suc high) a b =
    let rest = filter (λ e. not (p e.0) && q e.0) rows in
    ap (λ t. cond (not t && q e.0) (e ∷ rest) rest) (a.1.0 0 e (omega arith) (omega arith))
    ∙ between p q rows low high (rest_cut p e rows low a) (rest_cut q e rows high b)
    ∙ ap (λ n. take n (drop low rows)) (let same : high - low ≡ suc high - suc low = omega arith in same)
