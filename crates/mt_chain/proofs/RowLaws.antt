-- What is at a key after a row was put or taken out, and what partitions there are.
use Rattle.std.proofs.Common.{◌≡◌, ◌≢◌, ℕ, Bool, true, false, cond, not, ◌&&◌, ◌||◌, List, [], ◌∷◌, refl, sym, ap, ◌∙◌, T, bytes_eq, IsTrue, Some, None, Result, Ok, Err, OnOk, OnErr, subst}
use Rattle.std.specs.Ordering.{eq_by_cmp, is_eq}
use Rattle.std.specs.Cmp.{eq_by_cmp_equiv, alike_right}
use Rattle.std.specs.FinMap.Entries.{find-put, find-where_key, is_sorted-put, is_sorted-where_key, same_entries}
use Rattle.mt_model.specs.Key.{key_cmp}
use Rattle.mt_model.specs.declared.NoMemory.{NoMemory}
use Rattle.mt_chain.specs.declared.row.Stored.{Stored}
use Rattle.mt_chain.specs.Rows.{Rows, key_at, are_rising, row_at, with_row, without_row, has_partition}
use Rattle.mt_chain.proofs.KeyLaws.{key_total, is_tied, is_same_key, text_true, text_same, key_ties}

to_test : (b : Bool) → b ≡ true → T b
to_test true e = tt
to_test false e = absurd cc

from_test : (b : Bool) → T b → b ≡ true
from_test true h = refl
from_test false h = absurd h

-- another key
abbrev pub Differs : List ℕ → List ℕ → List ℕ → List ℕ → Type 0
Differs pk rk a b = pk ≡ a → rk ≡ b → ⊥

pub is_here : (pk rk : List ℕ) → (bytes_eq pk pk && bytes_eq rk rk) ≡ true
is_here pk rk = rw (text_same pk, text_same rk) refl

pub is_elsewhere : (pk rk a b : List ℕ) → Differs pk rk a b → (bytes_eq pk a && bytes_eq rk b) ≡ false
is_elsewhere pk rk a b ne = go (bytes_eq pk a) (bytes_eq rk b) refl refl where
  go : (x y : Bool) → bytes_eq pk a ≡ x → bytes_eq rk b ≡ y → (x && y) ≡ false
  go false y ex ey = refl
  go true false ex ey = refl
  go true true ex ey = absurd (ne (text_true pk a ex) (text_true rk b ey))

pub differs_in_pk : (pk rk a b : List ℕ) → (pk ≢ a) → Differs pk rk a b
differs_in_pk pk rk a b ne e f = ne e

pub differs_in_rk : (pk rk a b : List ℕ) → (rk ≢ b) → Differs pk rk a b
differs_in_rk pk rk a b ne e f = ne f

-- ---- one row is put

pub row_at-with_row : (rows : Rows) (pk rk : List ℕ) (s : Stored) (a b : List ℕ) → row_at (with_row rows pk rk s) a b ≡ cond (bytes_eq pk a && bytes_eq rk b) (Some s) (row_at rows a b)
row_at-with_row rows pk rk s a b =
    find-put key_cmp key_total (key_at a b) (key_at pk rk) s rows
    ∙ ap (λ x. cond x (Some s) (row_at rows a b)) ((eq_by_cmp_equiv key_total).symm (key_at a b) (key_at pk rk) ∙ is_same_key pk rk a b)

pub with_row_here : (rows : Rows) (pk rk : List ℕ) (s : Stored) → row_at (with_row rows pk rk s) pk rk ≡ Some s
with_row_here rows pk rk s = row_at-with_row rows pk rk s pk rk ∙ ap (λ x. cond x (Some s) (row_at rows pk rk)) (is_here pk rk)

pub with_row_elsewhere : (rows : Rows) (pk rk : List ℕ) (s : Stored) (a b : List ℕ) → Differs pk rk a b → row_at (with_row rows pk rk s) a b ≡ row_at rows a b
with_row_elsewhere rows pk rk s a b ne = row_at-with_row rows pk rk s a b ∙ ap (λ x. cond x (Some s) (row_at rows a b)) (is_elsewhere pk rk a b ne)

pub rising_with_row : (rows : Rows) (pk rk : List ℕ) (s : Stored) → IsTrue (are_rising rows) → IsTrue (are_rising (with_row rows pk rk s))
rising_with_row rows pk rk s h = from_test _ (is_sorted-put key_cmp key_total (key_at pk rk) s rows (to_test _ h))

-- ---- one row is taken out

if_not : {A : Type 0} (x : Bool) (p q : A) → cond (not x) p q ≡ cond x q p
if_not true p q = refl
if_not false p q = refl

pub row_at-without_row : (rows : Rows) (pk rk : List ℕ) (a b : List ℕ) → row_at (without_row rows pk rk) a b ≡ cond (bytes_eq pk a && bytes_eq rk b) None (row_at rows a b)
row_at-without_row rows pk rk a b =
    find-where_key key_cmp (λ k. not (eq_by_cmp key_cmp (key_at pk rk) k)) (key_at a b) (λ x e. ap (λ o. not (is_eq o)) (sym (alike_right key_total (key_at a b) x (key_at pk rk) e))) rows
    ∙ if_not (eq_by_cmp key_cmp (key_at pk rk) (key_at a b)) (row_at rows a b) None
    ∙ ap (λ x. cond x None (row_at rows a b)) (is_same_key pk rk a b)

pub without_row_here : (rows : Rows) (pk rk : List ℕ) → row_at (without_row rows pk rk) pk rk ≡ None
without_row_here rows pk rk = row_at-without_row rows pk rk pk rk ∙ ap (λ x. cond x None (row_at rows pk rk)) (is_here pk rk)

pub without_row_elsewhere : (rows : Rows) (pk rk : List ℕ) (a b : List ℕ) → Differs pk rk a b → row_at (without_row rows pk rk) a b ≡ row_at rows a b
without_row_elsewhere rows pk rk a b ne = row_at-without_row rows pk rk a b ∙ ap (λ x. cond x None (row_at rows a b)) (is_elsewhere pk rk a b ne)

pub rising_without_row : (rows : Rows) (pk rk : List ℕ) → IsTrue (are_rising rows) → IsTrue (are_rising (without_row rows pk rk))
rising_without_row rows pk rk h = from_test _ (is_sorted-where_key key_cmp (λ k. not (eq_by_cmp key_cmp (key_at pk rk) k)) rows (to_test _ h))

-- ---- rows by their keys

-- rows that rise are known by what is at each key
pub same_rows : (rows others : Rows) → IsTrue (are_rising rows) → IsTrue (are_rising others) → ((pk rk : List ℕ) → row_at rows pk rk ≡ row_at others pk rk) → rows ≡ others
same_rows rows others g h is = same_entries key_cmp key_total key_ties rows others (to_test _ g) (to_test _ h) (λ k. is k.pk k.rk)

-- ---- partitions

pub no_partition : (rows : Rows) (pk rk : List ℕ) → has_partition rows pk ≡ false → row_at rows pk rk ≡ None
no_partition [] pk rk h = refl
no_partition (e ∷ rows) pk rk h =
    elim (bytes_eq pk e.0.pk) as (λ x. bytes_eq pk e.0.pk ≡ x → (x || has_partition rows pk) ≡ false → row_at (e ∷ rows) pk rk ≡ None) [
      | true ↦ λ ex h. absurd cc
      | false ↦ λ ex h.
          ap (λ t. cond t (Some e.1) (row_at rows pk rk)) (is_tied (key_at pk rk) e.0 ∙ ap (λ t. t && bytes_eq rk e.0.rk) ex)
          ∙ no_partition rows pk rk h
    ] refl h

pub has_its_partition : (rows : Rows) (pk rk : List ℕ) (s : Stored) → row_at rows pk rk ≡ Some s → has_partition rows pk ≡ true
has_its_partition rows pk rk s is = go (has_partition rows pk) refl where
  go : (x : Bool) → has_partition rows pk ≡ x → x ≡ true
  go true e = refl
  go false e = (let none = sym (no_partition rows pk rk e) ∙ is in absurd cc)

pub row_of_partition : (rows : Rows) (pk : List ℕ) → has_partition rows pk ≡ true → (rk : List ℕ) × (s : Stored) × (row_at rows pk rk ≡ Some s)
row_of_partition [] pk h = absurd cc
row_of_partition (e ∷ rows) pk h =
    elim (bytes_eq pk e.0.pk) as (λ x. bytes_eq pk e.0.pk ≡ x → (x || has_partition rows pk) ≡ true → (rk : List ℕ) × (s : Stored) × (row_at (e ∷ rows) pk rk ≡ Some s)) [
      | true ↦ λ ex h. (e.0.rk, e.1, ap (λ t. cond t (Some e.1) (row_at rows pk e.0.rk)) (is_tied (key_at pk e.0.rk) e.0 ∙ ap (λ t. t && bytes_eq e.0.rk e.0.rk) ex ∙ text_same e.0.rk))
      | false ↦ λ ex h.
          let found = row_of_partition rows pk h in
          (found.0, found.1, ap (λ t. cond t (Some e.1) (row_at rows pk found.0)) (is_tied (key_at pk found.0) e.0 ∙ ap (λ t. t && bytes_eq found.0 e.0.rk) ex) ∙ found.2)
    ] refl h

pub no_rows : (rows : Rows) → ((pk : List ℕ) → has_partition rows pk ≡ false) → rows ≡ []
no_rows [] h = refl
no_rows (e ∷ rows) h = (let is = sym (h e.0.pk) ∙ ap (λ t. t || has_partition rows e.0.pk) (text_same e.0.pk) in absurd cc)

pub same_partitions : (rows others : Rows) (pk : List ℕ) → ((rk : List ℕ) → row_at rows pk rk ≡ row_at others pk rk) → has_partition rows pk ≡ has_partition others pk
same_partitions rows others pk is = go (has_partition rows pk) (has_partition others pk) refl refl where
  go : (x y : Bool) → has_partition rows pk ≡ x → has_partition others pk ≡ y → x ≡ y
  go true true ex ey = refl
  go false false ex ey = refl
  go true false ex ey = (let r = row_of_partition rows pk ex in let none = sym (no_partition others pk r.0 ey) ∙ sym (is r.0) ∙ r.2 in absurd cc)
  go false true ex ey = (let r = row_of_partition others pk ey in let none = sym (no_partition rows pk r.0 ex) ∙ is r.0 ∙ r.2 in absurd cc)

-- ---- the end of a put

pub rising_put : (r : Result (Unit {0}) NoMemory) (old new : Rows) (pk rk : List ℕ) (s : Stored) → OnOk r (new ≡ with_row old pk rk s) → OnErr r (new ≡ old) → IsTrue (are_rising old) → IsTrue (are_rising new)
rising_put (Ok u) old new pk rk s is same h = subst (λ rs. IsTrue (are_rising rs)) (sym is) (rising_with_row old pk rk s h)
rising_put (Err e) old new pk rk s is same h = subst (λ rs. IsTrue (are_rising rs)) (sym same) h
