-- Rows whose tags their store gave go on as such.
use Rattle.std.proofs.Common.{◌≡◌, ℕ, ◌+◌, ◌<◌, Bool, true, false, cond, not, ◌&&◌, List, [], ◌∷◌, map, filter, refl, sym, ap, subst, arith, nat_eq, ne_eqb, Less, Equal, Greater}
use Rattle.std.proofs.lemmas.List.Elements.{All-from_recursion, recursion_from_All}
use Rattle.std.specs.List.{AllByRecursion, IsDistinct}
use Rattle.std.specs.Ordering.{is_lt, eq_by_cmp}
use Rattle.std.specs.FinMap.Entries.{put, by_order}
use Rattle.mt_model.specs.declared.key.Key.{Key}
use Rattle.mt_model.specs.Key.{key_cmp}
use Rattle.mt_chain.specs.declared.row.Stored.{Stored}
use Rattle.mt_chain.specs.declared.row.Put.{Put}
use Rattle.mt_chain.specs.declared.row.Put.TheVariants.{Check, Insert, Replace, Delete}
use Rattle.mt_chain.specs.Rows.{Rows, key_at, with_row, without_row}
use Rattle.mt_chain.specs.Puts.{next_tag, counter_after, rows_after, all_rows_after, all_counter_after}
use Rattle.mt_mem.specs.Entries.{Row, entry, entries}
use Rattle.mt_mem.specs.Memory.{IsGiven, AreRows, Memory, IsMemory, done_in}
use Rattle.mt_chain.proofs.RowLaws.{rising_with_row, rising_without_row}

abbrev Entry : Type 0
Entry = Key × Stored

abbrev tag_number : Entry → ℕ
tag_number e = e.1.tag.n

weaker : {X : Type 0} (P Q : X → Type 0) → ((x : X) → P x → Q x) → (xs : List X) → AllByRecursion P xs → AllByRecursion Q xs
weaker P Q f [] h = tt
weaker P Q f (x ∷ xs) h = (f x h.0, weaker P Q f xs h.1)

-- ---- a row that is put

all_put : (P : Entry → Type 0) (k : Key) (s : Stored) → ((x : Key) → P (x, s)) → (rows : Rows) → AllByRecursion P rows → AllByRecursion P (put key_cmp k s rows)
all_put P k s p [] h = (p k, tt)
all_put P k s p (e ∷ rows) h = elim (key_cmp k e.0) as (λ o. AllByRecursion P (by_order o ((k, s) ∷ e ∷ rows) ((e.0, s) ∷ rows) (e ∷ put key_cmp k s rows))) [
  | Less ↦ (p k, h)
  | Equal ↦ (p e.0, h.1)
  | Greater ↦ (h.0, all_put P k s p rows h.1)
]

numbers_put : (P : ℕ → Type 0) (k : Key) (s : Stored) → P s.tag.n → (rows : Rows) → AllByRecursion P (map tag_number rows) → AllByRecursion P (map tag_number (put key_cmp k s rows))
numbers_put P k s p [] h = (p, tt)
numbers_put P k s p (e ∷ rows) h = elim (key_cmp k e.0) as (λ o. AllByRecursion P (map tag_number (by_order o ((k, s) ∷ e ∷ rows) ((e.0, s) ∷ rows) (e ∷ put key_cmp k s rows)))) [
  | Less ↦ (p, h)
  | Equal ↦ (p, h.1)
  | Greater ↦ (h.0, numbers_put P k s p rows h.1)
]

-- the number is above all
abbrev Above : ℕ → Rows → Type 0
Above m rows = AllByRecursion (λ y. y < m) (map tag_number rows)

above_apart : (m : ℕ) (ys : List ℕ) → AllByRecursion (λ y. y < m) ys → AllByRecursion (λ y. nat_eq m y ≡ false) ys
above_apart m ys h = weaker (λ y. y < m) (λ y. nat_eq m y ≡ false) (λ y l. ne_eqb m y (λ e. absurd (omega (arith, l, e)))) ys h

apart_put : (k : Key) (s : Stored) (rows : Rows) → Above s.tag.n rows → IsDistinct nat_eq (map tag_number rows) → IsDistinct nat_eq (map tag_number (put key_cmp k s rows))
unfolding IsDistinct
apart_put k s [] above h = (tt, tt)
apart_put k s (e ∷ rows) above h = elim (key_cmp k e.0) as (λ o. IsDistinct nat_eq (map tag_number (by_order o ((k, s) ∷ e ∷ rows) ((e.0, s) ∷ rows) (e ∷ put key_cmp k s rows)))) [
  | Less ↦ (above_apart s.tag.n (map tag_number (e ∷ rows)) above, h)
  | Equal ↦ (above_apart s.tag.n (map tag_number rows) above.1, h.1)
  | Greater ↦ (numbers_put (λ y. nat_eq e.1.tag.n y ≡ false) k s (ne_eqb e.1.tag.n s.tag.n (λ same. (let l = above.0 in absurd (omega (arith, same))))) rows h.0, apart_put k s rows above.1 h.1)
]

-- ---- rows that are taken out

all_filter : (P : Entry → Type 0) (test : Entry → Bool) (rows : Rows) → AllByRecursion P rows → AllByRecursion P (filter test rows)
all_filter P test [] h = tt
all_filter P test (e ∷ rows) h = elim (test e) as (λ b. AllByRecursion P (cond b (e ∷ filter test rows) (filter test rows))) [
  | true ↦ (h.0, all_filter P test rows h.1)
  | false ↦ all_filter P test rows h.1
]

numbers_filter : (P : ℕ → Type 0) (test : Entry → Bool) (rows : Rows) → AllByRecursion P (map tag_number rows) → AllByRecursion P (map tag_number (filter test rows))
numbers_filter P test [] h = tt
numbers_filter P test (e ∷ rows) h = elim (test e) as (λ b. AllByRecursion P (map tag_number (cond b (e ∷ filter test rows) (filter test rows)))) [
  | true ↦ (h.0, numbers_filter P test rows h.1)
  | false ↦ numbers_filter P test rows h.1
]

apart_filter : (test : Entry → Bool) (rows : Rows) → IsDistinct nat_eq (map tag_number rows) → IsDistinct nat_eq (map tag_number (filter test rows))
unfolding IsDistinct
apart_filter test [] h = tt
apart_filter test (e ∷ rows) h = elim (test e) as (λ b. IsDistinct nat_eq (map tag_number (cond b (e ∷ filter test rows) (filter test rows)))) [
  | true ↦ (numbers_filter (λ y. nat_eq e.1.tag.n y ≡ false) test rows h.0, apart_filter test rows h.1)
  | false ↦ apart_filter test rows h.1
]

-- ---- puts

above_given : (store n : ℕ) (rows : Rows) → AllByRecursion (λ (e : Entry). IsGiven store n e.1.tag) rows → Above (n + 1) rows
above_given store n [] h = tt
above_given store n (e ∷ rows) h = ((let l = h.0.1 in omega arith), above_given store n rows h.1)

rows_with : (store n : ℕ) (pk rk : List ℕ) (s : Stored) (rows : Rows) → s.tag ≡ next_tag store n → AreRows store n rows → AreRows store (n + 1) (with_row rows pk rk s)
rows_with store n pk rk s rows tag h =
    let given = recursion_from_All (λ (e : Entry). IsGiven store n e.1.tag) rows h.given in
    let number = ap (λ t. t.n) tag in record {
      rising = rising_with_row rows pk rk s h.rising;
      given = All-from_recursion _ _ (all_put (λ e. IsGiven store (n + 1) e.1.tag) (key_at pk rk) s (λ x. (ap (λ t. t.store) tag, omega (arith, number))) rows
          (weaker (λ (e : Entry). IsGiven store n e.1.tag) (λ e. IsGiven store (n + 1) e.1.tag) (λ e g. (g.0, omega (arith, g.1))) rows given));
      apart = apart_put (key_at pk rk) s rows (subst (λ m. Above m rows) (sym number) (above_given store n rows given)) h.apart;
    }

rows_without : (store n : ℕ) (pk rk : List ℕ) (rows : Rows) → AreRows store n rows → AreRows store n (without_row rows pk rk)
rows_without store n pk rk rows h =
    let test = λ (e : Entry). not (eq_by_cmp key_cmp (key_at pk rk) e.0) in record {
      rising = rising_without_row rows pk rk h.rising;
      given = All-from_recursion _ _ (all_filter (λ e. IsGiven store n e.1.tag) test rows (recursion_from_All (λ (e : Entry). IsGiven store n e.1.tag) rows h.given));
      apart = apart_filter test rows h.apart;
    }

rows_after_put : (store n : ℕ) (pk : List ℕ) (put : Put) (rows : Rows) → AreRows store n rows → AreRows store (counter_after n put) (rows_after store n pk put rows)
rows_after_put store n pk (Check rk tag) rows h = h
rows_after_put store n pk (Insert rk props) rows h = rows_with store n pk rk (record { props = props; tag = next_tag store n }) rows refl h
rows_after_put store n pk (Replace rk props tag) rows h = rows_with store n pk rk (record { props = props; tag = next_tag store n }) rows refl h
rows_after_put store n pk (Delete rk tag) rows h = rows_without store n pk rk rows h

pub rows_after_puts : (store n : ℕ) (pk : List ℕ) (puts : List Put) (rows : Rows) → AreRows store n rows → AreRows store (all_counter_after n puts) (all_rows_after store n pk puts rows)
rows_after_puts store n pk [] rows h = h
rows_after_puts store n pk (put ∷ puts) rows h = rows_after_puts store (counter_after n put) pk puts (rows_after store n pk put rows) (rows_after_put store n pk put rows h)

-- a store in memory stays one
pub memory_done : (m : Memory) (pk : List ℕ) (puts : List Put) → IsMemory m → IsMemory (done_in m pk puts)
memory_done m pk puts h = rows_after_puts m.store m.counter pk puts m.rows h

pub memory_planned : (m : Memory) (pk : List ℕ) (puts : List Put) (rows : Rows) (counter : ℕ)
    → rows ≡ all_rows_after m.store m.counter pk puts m.rows → counter ≡ all_counter_after m.counter puts → IsMemory m
    → IsMemory (record { store = m.store; rows = rows; sealed = m.sealed; counter = counter; calls = m.calls; faults = m.faults; failing = m.failing })
memory_planned m pk puts rows counter same count h = subst IsMemory
    (λ i. record { store = m.store; rows = sym same i; sealed = m.sealed; counter = sym count i; calls = m.calls; faults = m.faults; failing = m.failing })
    (memory_done m pk puts h)

none_apart : IsDistinct nat_eq []
unfolding IsDistinct
none_apart = tt

pub no_rows_yet : (store counter : ℕ) → AreRows store counter []
no_rows_yet store counter = record { rising = refl; given = λ k d l. absurd (omega arith); apart = none_apart }

two_apart : (n m : ℕ) → nat_eq n m ≡ false → IsDistinct nat_eq (n ∷ m ∷ [])
unfolding IsDistinct
two_apart n m ne = ((ne, tt), (tt, tt))

-- two rows that a store may begin with
pub two_rows : (store counter : ℕ) (a b : Row) → is_lt (key_cmp (entry a).0 (entry b).0) ≡ true → IsGiven store counter a.1.tag → IsGiven store counter b.1.tag → nat_eq a.1.tag.n b.1.tag.n ≡ false
    → AreRows store counter (entries (a ∷ b ∷ []))
two_rows store counter a b less given also ne = record {
  rising = ap (λ t. (t && true) && true) less;
  given = All-from_recursion (λ (e : Entry). IsGiven store counter e.1.tag) (entries (a ∷ b ∷ [])) (given, (also, tt));
  apart = two_apart a.1.tag.n b.1.tag.n ne;
}
