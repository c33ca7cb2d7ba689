-- How many rows have keys that pass a test.
use Rattle.std.proofs.Common.{◌≡◌, ℕ, suc, ◌+◌, ◌≤◌, Bool, true, false, cond, not, ◌&&◌, ◌||◌, List, [], ◌∷◌, length, Option, Some, None, refl, sym, ap, subst, ◌∙◌, arith, bytes_eq, T}
use Rattle.std.specs.Prelude.{is_some}
use Rattle.std.specs.Ordering.{eq_by_cmp}
use Rattle.std.specs.FinMap.Entries.{where_key, find-where_key, is_sorted-where_key, length_without}
use Rattle.mt_model.specs.declared.key.Key.{Key}
use Rattle.mt_model.specs.Key.{key_cmp}
use Rattle.mt_chain.specs.declared.row.Stored.{Stored}
use Rattle.mt_chain.specs.Rows.{Rows, key_at, row_at, are_rising, without_row}
use Rattle.mt_chain.proofs.KeyLaws.{key_total, key_ties, is_tied, text_true, text_same}
use Rattle.mt_chain.proofs.RowLaws.{row_at-without_row, rising_without_row}
use Rattle.mt_chain.proofs.RangeRows.{Entry}
use Rattle.mt_chain.proofs.SearchLaws.{rest_rising}
use Rattle.mt_migrate.specs.RowCounts.{count_of}

pub to_test : (b : Bool) → b ≡ true → T b
to_test true e = tt
to_test false e = absurd (let x = e in cc)

from_test : (b : Bool) → T b → b ≡ true
from_test true h = refl
from_test false h = absurd h

-- the row at a key, among those whose keys pass a test
pub row_where : (test : Key → Bool) (rows : Rows) (pk rk : List ℕ) → row_at (where_key key_cmp test rows) pk rk ≡ cond (test (key_at pk rk)) (row_at rows pk rk) None
row_where test rows pk rk = find-where_key key_cmp test (key_at pk rk) (λ x e. ap test (sym (key_ties (key_at pk rk) x e))) rows

rising_where : (test : Key → Bool) (rows : Rows) → are_rising rows ≡ true → are_rising (where_key key_cmp test rows) ≡ true
rising_where test rows h = from_test _ (is_sorted-where_key key_cmp test rows (to_test _ h))

-- ---- keys that are also there

at_head : (e : Entry) (rows : Rows) (pk rk : List ℕ) → row_at (e ∷ rows) pk rk ≡ cond (bytes_eq pk e.0.pk && bytes_eq rk e.0.rk) (Some e.1) (row_at rows pk rk)
at_head e rows pk rk = ap (λ b. cond b (Some e.1) (row_at rows pk rk)) (is_tied (key_at pk rk) e.0)

-- a list has no more rows than one that has a row at each of its keys
few : (xs ys : Rows) → are_rising xs ≡ true → are_rising ys ≡ true → ((pk rk : List ℕ) → is_some (row_at xs pk rk) ≡ true → is_some (row_at ys pk rk) ≡ true) → length xs ≤ length ys
few [] ys up down h = omega arith
few (e ∷ xs) ys up down h =
    let there : is_some (row_at ys e.0.pk e.0.rk) ≡ true = h e.0.pk e.0.rk (ap is_some (at_head e xs e.0.pk e.0.rk ∙ ap (λ b. cond (b && bytes_eq e.0.rk e.0.rk) (Some e.1) (row_at xs e.0.pk e.0.rk)) (text_same e.0.pk) ∙ ap (λ b. cond b (Some e.1) (row_at xs e.0.pk e.0.rk)) (text_same e.0.rk))) in
    let one : cond (is_some (row_at ys e.0.pk e.0.rk)) 1 0 + length (without_row ys e.0.pk e.0.rk) ≡ length ys = length_without key_cmp key_total e.0 ys (to_test _ down) in
    let all : 1 + length (without_row ys e.0.pk e.0.rk) ≡ length ys = ap (λ b. cond b 1 0 + length (without_row ys e.0.pk e.0.rk)) (sym there) ∙ one in
    let rest = few xs (without_row ys e.0.pk e.0.rk) (rest_rising e xs up) (rising_without_row ys e.0.pk e.0.rk down) left in
    omega (arith, all, rest) where
      none : is_some (row_at xs e.0.pk e.0.rk) ≡ true → ⊥
      none s =
          let rest = where_key key_cmp (λ x. not (eq_by_cmp key_cmp e.0 x)) xs in
          let tied : eq_by_cmp key_cmp e.0 e.0 ≡ true = is_tied e.0 e.0 ∙ ap (λ b. b && bytes_eq e.0.rk e.0.rk) (text_same e.0.pk) ∙ text_same e.0.rk in
          let a : cond (is_some (row_at xs e.0.pk e.0.rk)) 1 0 + length rest ≡ length xs = length_without key_cmp key_total e.0 xs (to_test _ (rest_rising e xs up)) in
          let b : cond (is_some (cond (eq_by_cmp key_cmp e.0 e.0) (Some e.1) (row_at xs e.0.pk e.0.rk))) 1 0 + length (cond (not (eq_by_cmp key_cmp e.0 e.0)) (e ∷ rest) rest) ≡ suc (length xs) = length_without key_cmp key_total e.0 (e ∷ xs) (to_test _ up) in
          let c : 1 + length rest ≡ suc (length xs) = subst (λ t. cond (is_some (cond t (Some e.1) (row_at xs e.0.pk e.0.rk))) 1 0 + length (cond (not t) (e ∷ rest) rest) ≡ suc (length xs)) tied b in
          let d : 1 + length rest ≡ length xs = ap (λ t. cond t 1 0 + length rest) (sym s) ∙ a in
          omega (arith, c, d)

      left : (pk rk : List ℕ) → is_some (row_at xs pk rk) ≡ true → is_some (row_at (without_row ys e.0.pk e.0.rk) pk rk) ≡ true
      left pk rk s = go (bytes_eq e.0.pk pk) (bytes_eq e.0.rk rk) refl refl where
        also : (b : Bool) → is_some (cond b (Some e.1) (row_at xs pk rk)) ≡ true
        also true = refl
        also false = s

        there_too : is_some (row_at ys pk rk) ≡ true
        there_too = h pk rk (ap is_some (at_head e xs pk rk) ∙ also (bytes_eq pk e.0.pk && bytes_eq rk e.0.rk))

        go : (a b : Bool) → bytes_eq e.0.pk pk ≡ a → bytes_eq e.0.rk rk ≡ b → is_some (row_at (without_row ys e.0.pk e.0.rk) pk rk) ≡ true
        go true true ea eb = absurd (none (subst (λ k. is_some (row_at xs k e.0.rk) ≡ true) (sym (text_true e.0.pk pk ea)) (subst (λ k. is_some (row_at xs pk k) ≡ true) (sym (text_true e.0.rk rk eb)) s)))
        go true false ea eb = ap is_some (row_at-without_row ys e.0.pk e.0.rk pk rk ∙ ap (λ x. cond (x && bytes_eq e.0.rk rk) None (row_at ys pk rk)) ea ∙ ap (λ x. cond x None (row_at ys pk rk)) eb) ∙ there_too
        go false b ea eb = ap is_some (row_at-without_row ys e.0.pk e.0.rk pk rk ∙ ap (λ x. cond (x && bytes_eq e.0.rk rk) None (row_at ys pk rk)) ea) ∙ there_too

-- no more rows pass a test than pass another, where their keys pass that too and are there
pub count_le : (a b : Key → Bool) (xs ys : Rows) → are_rising xs ≡ true → are_rising ys ≡ true
    → ((pk rk : List ℕ) (s : Stored) → a (key_at pk rk) ≡ true → row_at xs pk rk ≡ Some s → (b (key_at pk rk) ≡ true) × (is_some (row_at ys pk rk) ≡ true)) → count_of a xs ≤ count_of b ys
count_le a b xs ys up down h = few (where_key key_cmp a xs) (where_key key_cmp b ys) (rising_where a xs up) (rising_where b ys down) (λ pk rk s. go pk rk (a (key_at pk rk)) (row_at xs pk rk) refl refl (ap is_some (sym (row_where a xs pk rk)) ∙ s)) where
  go : (pk rk : List ℕ) (m : Bool) (x : Option Stored) → a (key_at pk rk) ≡ m → row_at xs pk rk ≡ x → is_some (cond m x None) ≡ true → is_some (row_at (where_key key_cmp b ys) pk rk) ≡ true
  go pk rk true (Some s) ea es i = (let t = h pk rk s ea es in ap is_some (row_where b ys pk rk ∙ ap (λ m. cond m (row_at ys pk rk) None) t.0) ∙ t.1)
  go pk rk true None ea es i = absurd (let x = i in cc)
  go pk rk false x ea es i = absurd (let y = i in cc)

-- ---- tests that split

-- one where the test passes
abbrev pub bit : Bool → ℕ
bit b = cond b 1 0

pub count_more : (a : Key → Bool) (e : Entry) (rows : Rows) → count_of a (e ∷ rows) ≡ bit (a e.0) + count_of a rows
count_more a e rows = elim (a e.0) as (λ b. length (cond b (e ∷ where_key key_cmp a rows) (where_key key_cmp a rows)) ≡ bit b + count_of a rows) [ true ↦ omega arith | false ↦ omega arith ]

-- each row that passes the first test passes one of the others
pub split_up : (a b c : Key → Bool) (rows : Rows) → ((k : Key) → a k ≡ true → (b k || c k) ≡ true) → count_of a rows ≤ count_of b rows + count_of c rows
split_up a b c [] h = omega arith
split_up a b c (e ∷ rows) h =
    let x = count_more a e rows in
    let y = count_more b e rows in
    let z = count_more c e rows in
    let rest = split_up a b c rows h in
    let one = bits (a e.0) (b e.0) (c e.0) (h e.0) in
    omega (arith, x, y, z, rest, one) where
      bits : (m n o : Bool) → (m ≡ true → (n || o) ≡ true) → bit m ≤ bit n + bit o
      bits true true o h = elim o as (λ x. 1 ≤ 1 + bit x) [ true ↦ omega arith | false ↦ omega arith ]
      bits true false true h = omega arith
      bits true false false h = absurd (let x = h refl in cc)
      bits false n o h = omega arith

-- rows that pass one of two tests, and none both, pass the first
pub split_down : (a b c : Key → Bool) (rows : Rows) → ((k : Key) → b k ≡ true → (a k ≡ true) × (c k ≡ false)) → ((k : Key) → c k ≡ true → a k ≡ true) → count_of b rows + count_of c rows ≤ count_of a rows
split_down a b c [] h g = omega arith
split_down a b c (e ∷ rows) h g =
    let x = count_more a e rows in
    let y = count_more b e rows in
    let z = count_more c e rows in
    let rest = split_down a b c rows h g in
    let one = bits (a e.0) (b e.0) (c e.0) (h e.0) (g e.0) in
    omega (arith, x, y, z, rest, one) where
      bits : (m n o : Bool) → (n ≡ true → (m ≡ true) × (o ≡ false)) → (o ≡ true → m ≡ true) → bit n + bit o ≤ bit m
      bits true true true h g = absurd (let x = (h refl).1 in cc)
      bits true true false h g = omega arith
      bits true false true h g = omega arith
      bits true false false h g = omega arith
      bits false true o h g = absurd (let x = (h refl).0 in cc)
      bits false false true h g = absurd (let x = g refl in cc)
      bits false false false h g = omega arith

-- the same by one test less
pub count_in : (a b : Key → Bool) (rows : Rows) → ((k : Key) → a k ≡ true → b k ≡ true) → count_of a rows ≤ count_of b rows
count_in a b rows h = (let x = split_down b a (λ k. false) rows (λ k e. (h k e, refl)) (λ k e. absurd (let y = e in cc)) in omega (arith, x))

pub count_all : (a : Key → Bool) (rows : Rows) → count_of a rows ≤ length rows
count_all a [] = omega arith
count_all a (e ∷ rows) = (let x = count_more a e rows in let rest = count_all a rows in let one = at_most (a e.0) in omega (arith, x, rest, one)) where
  at_most : (m : Bool) → bit m ≤ 1
  at_most true = omega arith
  at_most false = omega arith

-- ---- one key

-- the one row of a list
lone : List ℕ → List ℕ → Stored → Rows
lone pk rk s = (key_at pk rk, s) ∷ []

lone_at : (pk rk : List ℕ) (s : Stored) (x y : List ℕ) → row_at (lone pk rk s) x y ≡ cond (bytes_eq x pk && bytes_eq y rk) (Some s) None
unfolding lone
lone_at pk rk s x y = at_head (key_at pk rk, s) [] x y

lone_rises : (pk rk : List ℕ) (s : Stored) → are_rising (lone pk rk s) ≡ true
unfolding lone
lone_rises pk rk s = refl

-- a test that one key alone passes
pub one_at_most : (a : Key → Bool) (rows : Rows) (pk rk : List ℕ) → are_rising rows ≡ true → ((x y : List ℕ) → a (key_at x y) ≡ true → (x ≡ pk) × (y ≡ rk)) → count_of a rows ≤ 1
unfolding lone
one_at_most a rows pk rk up h = go (row_at rows pk rk) refl where
  by : (x y : List ℕ) → is_some (row_at (where_key key_cmp a rows) x y) ≡ true → (x ≡ pk) × (y ≡ rk) × (is_some (row_at rows x y) ≡ true)
  by x y i = cases (a (key_at x y)) refl (ap is_some (sym (row_where a rows x y)) ∙ i) where
    cases : (b : Bool) → a (key_at x y) ≡ b → is_some (cond b (row_at rows x y) None) ≡ true → (x ≡ pk) × (y ≡ rk) × (is_some (row_at rows x y) ≡ true)
    cases true e i = ((h x y e).0, (h x y e).1, i)
    cases false e i = absurd (let z = i in cc)

  go : (x : Option Stored) → row_at rows pk rk ≡ x → count_of a rows ≤ 1
  go (Some s) is = few (where_key key_cmp a rows) (lone pk rk s) (rising_where a rows up) (lone_rises pk rk s) (λ x y i. let k = by x y i in
      ap is_some (lone_at pk rk s x y ∙ ap (λ z. cond (bytes_eq z pk && bytes_eq y rk) (Some s) None) k.0 ∙ ap (λ z. cond (bytes_eq pk pk && bytes_eq z rk) (Some s) None) k.1
      ∙ ap (λ b. cond (b && bytes_eq rk rk) (Some s) None) (text_same pk) ∙ ap (λ b. cond b (Some s) None) (text_same rk)))
  go None is = (let n = few (where_key key_cmp a rows) [] (rising_where a rows up) refl (λ x y i. let k = by x y i in
      absurd (let z : is_some (row_at rows pk rk) ≡ true = ap (λ u. is_some (row_at rows u rk)) (sym k.0) ∙ ap (λ u. is_some (row_at rows x u)) (sym k.1) ∙ k.2 in let w : false ≡ true = sym (ap is_some is) ∙ z in cc)) in omega (arith, n))

pub one_at_least : (a : Key → Bool) (rows : Rows) (pk rk : List ℕ) (s : Stored) → are_rising rows ≡ true → a (key_at pk rk) ≡ true → row_at rows pk rk ≡ Some s → 1 ≤ count_of a rows
unfolding lone
one_at_least a rows pk rk s up h is = few (lone pk rk s) (where_key key_cmp a rows) (lone_rises pk rk s) (rising_where a rows up) (λ x y. go x y (bytes_eq x pk) (bytes_eq y rk) refl refl) where
  here : is_some (row_at (where_key key_cmp a rows) pk rk) ≡ true
  here = ap is_some (row_where a rows pk rk ∙ ap (λ b. cond b (row_at rows pk rk) None) h ∙ is)

  go : (x y : List ℕ) (m n : Bool) → bytes_eq x pk ≡ m → bytes_eq y rk ≡ n → is_some (row_at (lone pk rk s) x y) ≡ true → is_some (row_at (where_key key_cmp a rows) x y) ≡ true
  go x y true true em en i = ap (λ k. is_some (row_at (where_key key_cmp a rows) k y)) (text_true x pk em) ∙ ap (λ k. is_some (row_at (where_key key_cmp a rows) pk k)) (text_true y rk en) ∙ here
  go x y true false em en i = absurd (let z : false ≡ true = sym (ap is_some (lone_at pk rk s x y ∙ ap (λ b. cond (b && bytes_eq y rk) (Some s) None) em ∙ ap (λ b. cond b (Some s) None) en)) ∙ i in cc)
  go x y false n em en i = absurd (let z : false ≡ true = sym (ap is_some (lone_at pk rk s x y ∙ ap (λ b. cond (b && bytes_eq y rk) (Some s) None) em)) ∙ i in cc)
