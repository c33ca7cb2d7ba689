-- Edits of rows: what is at a key afterwards, that their order does not matter, and that rows below their keys stay in front.
use Rattle.std.proofs.Common.{◌≡◌, ℕ, zero, suc, ◌+◌, ◌<◌, Bool, true, false, cond, not, ◌&&◌, ◌||◌, List, [], ◌∷◌, ◌++◌, map, length, get_or, refl, sym, ap, ◌∙◌, subst, arith, bytes_eq, IsTrue, Some, None, Option, Contains, Less, Equal, Greater, Ordering}
use Rattle.std.proofs.lemmas.Bool.{and_parts}
use Rattle.std.proofs.lemmas.List.{get_or-map, length-map}
use Rattle.std.proofs.lemmas.List.Elements.{All-from_recursion, recursion_from_All}
use Rattle.std.proofs.lemmas.List.Sorted.{Contains-permutation, All-permutation, IsPermutation-map, list_any-IsPermutation}
use Rattle.std.proofs.lemmas.Map.Keys.{IsDistinct-IsPermutation, IsDistinct-head, IsDistinct-tail, sorted_from_all_adjacent, apart_from_distinct}
use Rattle.std.specs.List.{AllByRecursion, IsDistinct, list_any}
use Rattle.std.specs.List.Sorted.{IsPermutation, IsSortedBy, IsStrictlySortedBy}
use Rattle.std.specs.Ordering.{nat_cmp, is_lt, is_le, is_eq, eq_by_cmp, ordering_then, ordering_reverse}
use Rattle.std.specs.Cmp.{eq_by_cmp_equiv, tied_itself}
use Rattle.std.specs.Cmp.Lexicographic.{slice_cmp, nat_list_cmp_total}
use Rattle.std.specs.FinMap.Entries.{put, where_key, is_sorted, below_all, by_order}
use Rattle.mt_model.specs.declared.key.Key.{Key}
use Rattle.mt_model.specs.Key.{key_cmp}
use Rattle.mt_chain.specs.declared.row.Stored.{Stored}
use Rattle.mt_chain.specs.declared.row.Put.{Put}
use Rattle.mt_chain.specs.declared.row.Put.TheVariants.{Check, Insert, Replace, Delete}
use Rattle.mt_chain.specs.Rows.{Rows, key_at, are_rising, row_at}
use Rattle.mt_chain.specs.Puts.{row_key, rows_after, all_rows_after}
use Rattle.mt_chain.proofs.KeyLaws.{key_total, key_ties, is_tied, is_same_key, text_same}
use Rattle.mt_chain.proofs.OrderLaws.{lt_less, eq_equal, reversed}
use Rattle.mt_chain.proofs.RowLaws.{row_at-with_row, row_at-without_row, rising_with_row, rising_without_row, same_rows}
use Rattle.mt_chain.proofs.SearchLaws.{rest_rising}
use Rattle.mt_mem.specs.declared.change.Change.{Change}
use Rattle.mt_mem.specs.declared.change.Change.TheVariants.{Write, Remove}
use Rattle.mt_mem.specs.Changes.{Edit, rows_with, edited, AreEdits, changed_key, is_before, edit_of, edits_of, edits_by}

abbrev Entry : Type 0
Entry = Key × Stored

-- ---- what is at a key

at_with : (key : Key) (o : Option Stored) (rows : Rows) (a b : List ℕ) → row_at (rows_with key o rows) a b ≡ cond (bytes_eq key.pk a && bytes_eq key.rk b) o (row_at rows a b)
at_with key (Some s) rows a b = row_at-with_row rows key.pk key.rk s a b
at_with key None rows a b = row_at-without_row rows key.pk key.rk a b

pub rising_with : (key : Key) (o : Option Stored) (rows : Rows) → IsTrue (are_rising rows) → IsTrue (are_rising (rows_with key o rows))
rising_with key (Some s) rows h = rising_with_row rows key.pk key.rk s h
rising_with key None rows h = rising_without_row rows key.pk key.rk h

rising_edited : (es : List Edit) (rows : Rows) → IsTrue (are_rising rows) → IsTrue (are_rising (edited es rows))
rising_edited [] rows h = h
rising_edited (e ∷ es) rows h = rising_edited es (rows_with e.0 e.1 rows) (rising_with e.0 e.1 rows h)

-- the edit is one of that key
abbrev names : Key → Edit → Bool
names key e = eq_by_cmp key_cmp e.0 key

-- what edits leave at a key
abbrev left_at : List Edit → Key → Option Stored → Option Stored
left_at [] key row = row
left_at (e ∷ es) key row = left_at es key (cond (names key e) e.1 row)

found_edited : (es : List Edit) (rows : Rows) (a b : List ℕ) → row_at (edited es rows) a b ≡ left_at es (key_at a b) (row_at rows a b)
found_edited [] rows a b = refl
found_edited (e ∷ es) rows a b =
    found_edited es (rows_with e.0 e.1 rows) a b
    ∙ ap (left_at es (key_at a b)) (at_with e.0 e.1 rows a b ∙ ap (λ t. cond t e.1 (row_at rows a b)) (sym (is_tied e.0 (key_at a b))))

-- ---- the order of edits

-- no two edits are of one key
abbrev Apart : List Edit → Type 0
Apart es = IsDistinct (eq_by_cmp key_cmp) (map (λ e. e.0) es)

unnamed : (es : List Edit) (key : Key) (row : Option Stored) → list_any (names key) es ≡ false → left_at es key row ≡ row
unnamed [] key row h = refl
unnamed (e ∷ es) key row h = elim (names key e) as (λ t. names key e ≡ t → (t || list_any (names key) es) ≡ false → left_at (e ∷ es) key row ≡ row) [
  | true ↦ λ x h. absurd cc
  | false ↦ λ x h. ap (λ t. left_at es key (cond t e.1 row)) x ∙ unnamed es key row h
] refl h

none_names : (key : Key) (es : List Edit) → AllByRecursion (λ k. eq_by_cmp key_cmp key k ≡ false) (map (λ e. e.0) es) → list_any (names key) es ≡ false
none_names key [] h = refl
none_names key (e ∷ es) h = ap (λ t. t || list_any (names key) es) ((eq_by_cmp_equiv key_total).symm e.0 key ∙ h.0) ∙ none_names key es h.1

named : (es : List Edit) (k : ℕ) (d : Edit) (row : Option Stored) → Apart es → k < length es → left_at es (get_or es k d).0 row ≡ (get_or es k d).1
named [] k d row h l = absurd (omega arith)
named (e ∷ es) zero d row h l =
    ap (λ t. left_at es e.0 (cond t e.1 row)) (ap is_eq (tied_itself key_total e.0))
    ∙ unnamed es e.0 e.1 (none_names e.0 es (IsDistinct-head (eq_by_cmp key_cmp) e.0 (map (λ x. x.0) es) h))
named (e ∷ es) (suc k) d row h l = named es k d (cond (names (get_or es k d).0 e) e.1 row) (IsDistinct-tail (eq_by_cmp key_cmp) e.0 (map (λ x. x.0) es) h) (omega arith)

named_in : (es : List Edit) (x : Edit) (row : Option Stored) → Apart es → Contains es x → left_at es x.0 row ≡ x.1
named_in es x row h c = subst (λ y. left_at es y.0 row ≡ y.1) c.2 (named es c.0 x row h c.1)

contains_more : (y x : Edit) (es : List Edit) → Contains es x → Contains (y ∷ es) x
contains_more y x es c = (suc c.0, (let below = c.1 in omega arith), c.2)

found_name : (key : Key) (es : List Edit) → list_any (names key) es ≡ true → (x : Edit) × Contains es x × (names key x ≡ true)
found_name key [] h = absurd cc
found_name key (e ∷ es) h = elim (names key e) as (λ t. names key e ≡ t → (t || list_any (names key) es) ≡ true → (x : Edit) × Contains (e ∷ es) x × (names key x ≡ true)) [
  | true ↦ λ is h. (e, (0, omega arith, refl), is)
  | false ↦ λ is h. (let r = found_name key es h in (r.0, contains_more e r.0 es r.1, r.2))
] refl h

alike : (es fs : List Edit) (key : Key) (row : Option Stored) → IsPermutation es fs → Apart es → left_at es key row ≡ left_at fs key row
alike es fs key row same h = go (list_any (names key) es) refl where
  go : (t : Bool) → list_any (names key) es ≡ t → left_at es key row ≡ left_at fs key row
  go false e = unnamed es key row e ∙ sym (unnamed fs key row (sym (list_any-IsPermutation (names key) es fs same) ∙ e))
  go true e =
      let r = found_name key es e in
      let x = r.0 in
      let others : Apart fs = IsDistinct-IsPermutation (eq_by_cmp key_cmp) (eq_by_cmp_equiv key_total).symm (map (λ e. e.0) es) (map (λ e. e.0) fs) (IsPermutation-map (λ (e : Edit). e.0) es fs same) h in
      subst (λ q. left_at es q row ≡ left_at fs q row) (key_ties x.0 key (eq_equal (key_cmp x.0 key) r.2))
      (named_in es x row h r.1 ∙ sym (named_in fs x row others (Contains-permutation es fs x same r.1)))

-- edits of distinct keys may be made in any order
pub any_order : (es fs : List Edit) (rows : Rows) → IsPermutation es fs → Apart es → IsTrue (are_rising rows) → edited es rows ≡ edited fs rows
any_order es fs rows same h up = same_rows (edited es rows) (edited fs rows) (rising_edited es rows up) (rising_edited fs rows up)
    (λ a b. found_edited es rows a b ∙ alike es fs (key_at a b) (row_at rows a b) same h ∙ sym (found_edited fs rows a b))

-- in another order they are edits of distinct keys still
pub permuted : (part : List ℕ) (es fs : List Edit) → IsPermutation es fs → AreEdits part es → AreEdits part fs
permuted part es fs same h = record {
  own = recursion_from_All (λ (e : Edit). e.0.pk ≡ part) fs (All-permutation (λ (e : Edit). e.0.pk ≡ part) es fs same (All-from_recursion (λ (e : Edit). e.0.pk ≡ part) es h.own));
  apart = IsDistinct-IsPermutation (eq_by_cmp key_cmp) (eq_by_cmp_equiv key_total).symm (map (λ e. e.0) es) (map (λ e. e.0) fs) (IsPermutation-map (λ (e : Edit). e.0) es fs same) h.apart;
}

-- ---- rows below

past_one : (key : Key) (o : Option Stored) (A B : Rows) → AllByRecursion (λ (e : Entry). key_cmp e.0 key ≡ Less) A → rows_with key o (A ++ B) ≡ A ++ rows_with key o B
past_one key o [] B h = refl
past_one key (Some s) (e ∷ A) B h =
    ap (λ o. by_order o ((key, s) ∷ e ∷ A ++ B) ((e.0, s) ∷ A ++ B) (e ∷ put key_cmp key s (A ++ B))) (reversed e.0 key Less h.0)
    ∙ ap (λ rs. e ∷ rs) (past_one key (Some s) A B h.1)
past_one key None (e ∷ A) B h =
    let rest = where_key key_cmp (λ k. not (eq_by_cmp key_cmp key k)) (A ++ B) in
    ap (λ o. cond (not (is_eq o)) (e ∷ rest) rest) (reversed e.0 key Less h.0)
    ∙ ap (λ rs. e ∷ rs) (past_one key None A B h.1)

below_next : (a b c : Key) → is_le (key_cmp a b) ≡ true → key_cmp b c ≡ Less → key_cmp a c ≡ Less
below_next a b c le less = elim (key_cmp a b) as (λ o. key_cmp a b ≡ o → is_le o ≡ true → key_cmp a c ≡ Less) [
  | Less ↦ λ e l. key_total.trans a b c e less
  | Equal ↦ λ e l. key_total.congr a b c e ∙ less
  | Greater ↦ λ e l. absurd cc
] refl le

all_below : (key next : Key) (A : Rows) → key_cmp key next ≡ Less → AllByRecursion (λ (e : Entry). is_le (key_cmp e.0 key) ≡ true) A → AllByRecursion (λ (e : Entry). key_cmp e.0 next ≡ Less) A
all_below key next [] less h = tt
all_below key next (e ∷ A) less h = (below_next e.0 key next h.0 less, all_below key next A less h.1)

-- rows up to a key stay in front of what edits of greater keys make of the others
pub past_all : (key : Key) (es : List Edit) (A B : Rows) → below_all key_cmp key es ≡ true → AllByRecursion (λ (e : Entry). is_le (key_cmp e.0 key) ≡ true) A → edited es (A ++ B) ≡ A ++ edited es B
past_all key [] A B up h = refl
past_all key (e ∷ es) A B up h =
    let parts = and_parts (is_lt (key_cmp key e.0)) (below_all key_cmp key es) up in
    ap (edited es) (past_one e.0 e.1 A B (all_below key e.0 A (lt_less _ parts.0) h))
    ∙ past_all key es A (rows_with e.0 e.1 B) parts.1 h

pub last_rising : (A B : Rows) → are_rising (A ++ B) ≡ true → are_rising B ≡ true
last_rising [] B h = h
last_rising (e ∷ A) B h = last_rising A B (rest_rising e (A ++ B) h)

-- ---- edits by puts

pub edits_done : (store n : ℕ) (pk : List ℕ) (puts : List Put) (rows : Rows) → edited (edits_by store n pk puts) rows ≡ all_rows_after store n pk puts rows
edits_done store n pk [] rows = refl
edits_done store n pk (Check rk tag ∷ puts) rows = edits_done store n pk puts rows
edits_done store n pk (Insert rk props ∷ puts) rows = edits_done store (n + 1) pk puts (rows_after store n pk (Insert rk props) rows)
edits_done store n pk (Replace rk props tag ∷ puts) rows = edits_done store (n + 1) pk puts (rows_after store n pk (Replace rk props tag) rows)
edits_done store n pk (Delete rk tag ∷ puts) rows = edits_done store n pk puts (rows_after store n pk (Delete rk tag) rows)

edits_own : (store n : ℕ) (pk : List ℕ) (puts : List Put) → AllByRecursion (λ (e : Edit). e.0.pk ≡ pk) (edits_by store n pk puts)
edits_own store n pk [] = tt
edits_own store n pk (Check rk tag ∷ puts) = edits_own store n pk puts
edits_own store n pk (Insert rk props ∷ puts) = (refl, edits_own store (n + 1) pk puts)
edits_own store n pk (Replace rk props tag ∷ puts) = (refl, edits_own store (n + 1) pk puts)
edits_own store n pk (Delete rk tag ∷ puts) = (refl, edits_own store n pk puts)

-- no edit is of a row key that no put names
abbrev Free : List ℕ → List ℕ → List Edit → Type 0
Free pk rk es = AllByRecursion (λ k. eq_by_cmp key_cmp (key_at pk rk) k ≡ false) (map (λ e. e.0) es)

other_key : (pk rk q : List ℕ) → bytes_eq rk q ≡ false → eq_by_cmp key_cmp (key_at pk rk) (key_at pk q) ≡ false
other_key pk rk q h = is_same_key pk rk pk q ∙ ap (λ t. t && bytes_eq rk q) (text_same pk) ∙ h

edits_free : (rk : List ℕ) (store n : ℕ) (pk : List ℕ) (puts : List Put) → AllByRecursion (λ q. bytes_eq rk q ≡ false) (map row_key puts) → Free pk rk (edits_by store n pk puts)
edits_free rk store n pk [] h = tt
edits_free rk store n pk (Check q tag ∷ puts) h = edits_free rk store n pk puts h.1
edits_free rk store n pk (Insert q props ∷ puts) h = (other_key pk rk q h.0, edits_free rk store (n + 1) pk puts h.1)
edits_free rk store n pk (Replace q props tag ∷ puts) h = (other_key pk rk q h.0, edits_free rk store (n + 1) pk puts h.1)
edits_free rk store n pk (Delete q tag ∷ puts) h = (other_key pk rk q h.0, edits_free rk store n pk puts h.1)

edits_apart : (store n : ℕ) (pk : List ℕ) (puts : List Put) → IsDistinct bytes_eq (map row_key puts) → Apart (edits_by store n pk puts)
unfolding IsDistinct
edits_apart store n pk [] h = tt
edits_apart store n pk (Check rk tag ∷ puts) h = edits_apart store n pk puts h.1
edits_apart store n pk (Insert rk props ∷ puts) h = (edits_free rk store (n + 1) pk puts h.0, edits_apart store (n + 1) pk puts h.1)
edits_apart store n pk (Replace rk props tag ∷ puts) h = (edits_free rk store (n + 1) pk puts h.0, edits_apart store (n + 1) pk puts h.1)
edits_apart store n pk (Delete rk tag ∷ puts) h = (edits_free rk store n pk puts h.0, edits_apart store n pk puts h.1)

-- puts of distinct row keys are edits of distinct keys
pub are_edits : (store n : ℕ) (pk : List ℕ) (puts : List Put) → IsDistinct bytes_eq (map row_key puts) → AreEdits pk (edits_by store n pk puts)
are_edits store n pk puts h = record { own = edits_own store n pk puts; apart = edits_apart store n pk puts h }

-- ---- sorted changes

key_of : (pk : List ℕ) (change : Change) → changed_key change ≡ (edit_of pk change).0.rk
key_of pk (Write row) = refl
key_of pk (Remove rk) = refl

-- keys of one partition compare by their row keys
in_part : (part : List ℕ) (a b : Key) → a.pk ≡ part → b.pk ≡ part → key_cmp a b ≡ slice_cmp nat_cmp a.rk b.rk
in_part part a b p q =
    ap (λ o. ordering_then o (slice_cmp nat_cmp a.rk b.rk))
    ((λ i. slice_cmp nat_cmp (p i) (q i)) ∙ tied_itself nat_list_cmp_total part)

then_less : (o r : Ordering) → is_lt o ≡ false → r ≡ ordering_reverse o → is_eq r ≡ false → r ≡ Less
then_less Less r l e q = absurd cc
then_less Equal r l e q = absurd cc
then_less Greater r l e q = e

strictly : (es : List Edit) → IsStrictlySortedBy key_cmp (map (λ e. e.0) es) → is_sorted key_cmp es ≡ true
unfolding IsStrictlySortedBy
strictly [] h = refl
strictly (e ∷ es) h = ap (λ t. t && is_sorted key_cmp es) (head es h.0) ∙ strictly es h.1 where
  head : (fs : List Edit) → AllByRecursion (λ k. key_cmp e.0 k ≡ Less) (map (λ f. f.0) fs) → below_all key_cmp e.0 fs ≡ true
  head [] g = refl
  head (f ∷ fs) g = ap (λ o. is_lt o && below_all key_cmp e.0 fs) g.0 ∙ head fs g.1

pub edits_rise : (part : List ℕ) (changes : List Change) → IsSortedBy is_before changes → AreEdits part (edits_of part changes) → is_sorted key_cmp (edits_of part changes) ≡ true
edits_rise part changes up h = strictly es (sorted_from_all_adjacent key_total ks none.0 adjacent) where
  some : Change
  some = Write ([], record { rk = []; props = []; tag = record { store = 0; n = 0 } })

  es : List Edit
  es = edits_of part changes

  none : Edit
  none = edit_of part some

  ks : List Key
  ks = map (λ e. e.0) es

  long : length ks ≡ length changes
  long = length-map es (λ e. e.0) ∙ length-map changes (edit_of part)

  edit_at : (k : ℕ) → k < length changes → get_or es k none ≡ edit_of part (get_or changes k some)
  edit_at k l = get_or-map (edit_of part) changes k some none l

  key_of_at : (k : ℕ) → k < length changes → get_or ks k none.0 ≡ (edit_of part (get_or changes k some)).0
  key_of_at k l = get_or-map (λ (e : Edit). e.0) es k none none.0 (let n = length-map changes (edit_of part) in omega (arith, n, l)) ∙ ap (λ e. e.0) (edit_at k l)

  own_at : (k : ℕ) → k < length changes → (edit_of part (get_or changes k some)).0.pk ≡ part
  own_at k l = subst (λ (e : Edit). e.0.pk ≡ part) (edit_at k l) (All-from_recursion (λ (e : Edit). e.0.pk ≡ part) es h.own k none (let n = length-map changes (edit_of part) in omega (arith, n, l)))

  adjacent : (k : ℕ) → k + 1 < length ks → key_cmp (get_or ks k none.0) (get_or ks (k + 1) none.0) ≡ Less
  adjacent k l =
      let short : k + 1 < length changes = omega (arith, l, long) in
      let a = edit_of part (get_or changes k some) in
      let b = edit_of part (get_or changes (k + 1) some) in
      let up : is_lt (key_cmp b.0 a.0) ≡ false = ap is_lt (in_part part b.0 a.0 (own_at (k + 1) short) (own_at k (omega (arith, short))) ∙ (λ i. slice_cmp nat_cmp (sym (key_of part (get_or changes (k + 1) some)) i) (sym (key_of part (get_or changes k some)) i))) ∙ up k some (omega arith) short in
      let x = key_of_at k (omega (arith, short)) in
      let y = key_of_at (k + 1) short in
      let apart : is_eq (key_cmp a.0 b.0) ≡ false = (λ i. is_eq (key_cmp (sym x i) (sym y i))) ∙ apart_from_distinct (eq_by_cmp key_cmp) ks k (k + 1) none.0 h.apart (omega arith) l in
      (λ i. key_cmp (x i) (y i)) ∙ then_less (key_cmp b.0 a.0) (key_cmp a.0 b.0) up (key_total.antisymm a.0 b.0) apart
