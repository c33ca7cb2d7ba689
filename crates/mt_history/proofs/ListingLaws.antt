-- The rows of a region that a filter matches, as a list in the order of keys.
use Rattle.std.proofs.Common.{◌≡◌, ◌∙◌, Bool, true, false, cond, ◌&&◌, List, [], ◌∷◌, map, filter, refl, sym, ap, subst, Some, None, Option}
use Rattle.std.proofs.lemmas.Bool.{and_parts}
use Rattle.std.specs.List.{AllByRecursion}
use Rattle.std.specs.List.Sorted.{IsStrictlySortedBy}
use Rattle.std.specs.Ordering.{is_lt, is_eq, eq_by_cmp}
use Rattle.std.specs.declared.cmp.Ordering.{Ordering}
use Rattle.std.specs.declared.cmp.Ordering.TheVariants.{Less, Equal, Greater}
use Rattle.std.specs.FinMap.Entries.{find, below_all}
use Rattle.mt_model.specs.declared.key.Key.{Key}
use Rattle.mt_model.specs.declared.entity.Entity.{Entity}
use Rattle.mt_model.specs.Key.{key_cmp}
use Rattle.mt_filter.specs.declared.filter.Filter.{Filter}
use Rattle.mt_chain.specs.declared.row.Stored.{Stored}
use Rattle.mt_chain.specs.Rows.{Rows, are_rising, key_at}
use Rattle.mt_chain.specs.Table.{Table, table_of, entity_of, rows_of, IsListing}
use Rattle.mt_chain.proofs.KeyLaws.{key_ties}
use Rattle.mt_chain.proofs.OrderLaws.{lt_less}
use Rattle.mt_chain.proofs.RowLaws.{same_rows}
use Rattle.mt_chain.proofs.SearchLaws.{rest_rising, head_below}
use Rattle.mt_history.specs.Replies.{picked, kept_if, is_matched, selected}

and_true : (a b : Bool) → a ≡ true → b ≡ true → (a && b) ≡ true
and_true true b ea eb = eb
and_true false b ea eb = absurd cc

-- ---- entities and rows

pub rows_back : (rows : Rows) → rows_of (map entity_of rows) ≡ rows
rows_back [] = refl
rows_back (row ∷ rows) = ap (λ rs. row ∷ rs) (rows_back rows)

pub entities_back : (entities : List Entity) → map entity_of (rows_of entities) ≡ entities
entities_back [] = refl
entities_back (e ∷ entities) = ap (λ es. e ∷ es) (entities_back entities)

-- ---- rising keys

keys_below : (x : Key) (entities : List Entity) → below_all key_cmp x (rows_of entities) ≡ true → AllByRecursion (λ y. key_cmp x y ≡ Less) (map (λ e. e.key) entities)
keys_below x [] h = tt
keys_below x (e ∷ entities) h =
    let both = and_parts (is_lt (key_cmp x e.key)) (below_all key_cmp x (rows_of entities)) h in
    (lt_less _ both.0, keys_below x entities both.1)

pub keys_rise : (entities : List Entity) → are_rising (rows_of entities) ≡ true → IsStrictlySortedBy key_cmp (map (λ e. e.key) entities)
unfolding IsStrictlySortedBy
keys_rise [] h = tt
keys_rise (e ∷ entities) h =
    let both = and_parts (below_all key_cmp e.key (rows_of entities)) (are_rising (rows_of entities)) h in
    (keys_below e.key entities both.0, keys_rise entities both.1)

below_kept : (x : Key) (test : Key × Stored → Bool) (rows : Rows) → below_all key_cmp x rows ≡ true → below_all key_cmp x (filter test rows) ≡ true
below_kept x test [] h = refl
below_kept x test (row ∷ rows) h =
    let both = and_parts (is_lt (key_cmp x row.0)) (below_all key_cmp x rows) h in
    let rest = below_kept x test rows both.1 in
    elim (test row) as (λ b. below_all key_cmp x (cond b (row ∷ filter test rows) (filter test rows)) ≡ true) [
      | true ↦ and_true (is_lt (key_cmp x row.0)) (below_all key_cmp x (filter test rows)) both.0 rest
      | false ↦ rest
    ]

pub rising_kept : (test : Key × Stored → Bool) (rows : Rows) → are_rising rows ≡ true → are_rising (filter test rows) ≡ true
rising_kept test [] h = refl
rising_kept test (row ∷ rows) h =
    let rest = rising_kept test rows (rest_rising row rows h) in
    elim (test row) as (λ b. are_rising (cond b (row ∷ filter test rows) (filter test rows)) ≡ true) [
      | true ↦ and_true (below_all key_cmp row.0 (filter test rows)) (are_rising (filter test rows)) (below_kept row.0 test rows (head_below row rows h)) rest
      | false ↦ rest
    ]

-- ---- look-ups

none_below : (x : Key) (rows : Rows) → below_all key_cmp x rows ≡ true → find key_cmp x rows ≡ None
none_below x [] h = refl
none_below x (row ∷ rows) h =
    let both = and_parts (is_lt (key_cmp x row.0)) (below_all key_cmp x rows) h in
    ap (λ o. cond (is_eq o) (Some row.1) (find key_cmp x rows)) (lt_less _ both.0) ∙ none_below x rows both.1

equal : (o : Ordering) → is_eq o ≡ true → o ≡ Equal
equal Less e = absurd cc
equal Equal e = refl
equal Greater e = absurd cc

-- the row at a key of those that pass is the row there, if it passes
pub find_kept : (test : Key → Stored → Bool) (key : Key) (rows : Rows) → are_rising rows ≡ true → find key_cmp key (filter (λ row. test row.0 row.1) rows) ≡ kept_if (test key) (find key_cmp key rows)
find_kept test key [] h = refl
find_kept test key (row ∷ rows) h =
    let kept = filter (λ (row : Key × Stored). test row.0 row.1) rows in
    let rest = find_kept test key rows (rest_rising row rows h) in
    elim (eq_by_cmp key_cmp key row.0) as (λ t. eq_by_cmp key_cmp key row.0 ≡ t → find key_cmp key (cond (test row.0 row.1) (row ∷ kept) kept) ≡ kept_if (test key) (cond t (Some row.1) (find key_cmp key rows))) [
      | true ↦ λ t.
          let same : key ≡ row.0 = key_ties key row.0 (equal _ t) in
          let none : find key_cmp key rows ≡ None = none_below key rows (subst (λ k. below_all key_cmp k rows ≡ true) (sym same) (head_below row rows h)) in
          ap (λ k. find key_cmp key (cond (test k row.1) (row ∷ kept) kept)) (sym same)
          ∙ elim (test key row.1) as (λ b. find key_cmp key (cond b (row ∷ kept) kept) ≡ cond b (Some row.1) None) [
            | true ↦ ap (λ b. cond b (Some row.1) (find key_cmp key kept)) t
            | false ↦ rest ∙ ap (kept_if (test key)) none
          ]
      | false ↦ λ t.
          elim (test row.0 row.1) as (λ b. find key_cmp key (cond b (row ∷ kept) kept) ≡ find key_cmp key kept) [
            | true ↦ ap (λ b. cond b (Some row.1) (find key_cmp key kept)) t
            | false ↦ refl
          ] ∙ rest
    ] refl

two_tests : (b : Bool) (test : Stored → Bool) (row : Option Stored) → kept_if (λ r. b && test r) row ≡ cond b (kept_if test row) None
two_tests true test row = refl
two_tests false test None = refl
two_tests false test (Some row) = refl

-- ---- listings

pub picked_is : (region : Key → Bool) (wanted : Option Filter) (rows : Rows) → are_rising rows ≡ true → IsListing (picked region wanted rows) (selected region wanted (table_of rows))
picked_is region wanted rows h =
    let test = λ (key : Key) (row : Stored). region key && is_matched wanted key row.props in
    let kept = filter (λ (row : Key × Stored). test row.0 row.1) rows in
    record {
      rising = ap are_rising (rows_back kept) ∙ rising_kept (λ row. test row.0 row.1) rows h;
      rows = λ key.
          ap (λ rs. find key_cmp key rs) (rows_back kept)
          ∙ find_kept test key rows h
          ∙ two_tests (region key) (λ row. is_matched wanted key row.props) (find key_cmp key rows);
    }

pub one_listing : (xs ys : List Entity) (table : Table) → IsListing xs table → IsListing ys table → xs ≡ ys
one_listing xs ys table x y =
    sym (entities_back xs)
    ∙ ap (map entity_of) (same_rows (rows_of xs) (rows_of ys) x.rising y.rising (λ pk rk. x.rows (key_at pk rk) ∙ sym (y.rows (key_at pk rk))))
    ∙ entities_back ys

pub no_keys : (entities : List Entity) → entities ≡ [] → IsStrictlySortedBy key_cmp (map (λ e. e.key) entities)
no_keys entities is = subst (λ es. IsStrictlySortedBy key_cmp (map (λ e. e.key) es)) (sym is) (keys_rise [] refl)
