-- The first key of two lists of rows that rise, and what is left past it.
use Rattle.std.proofs.Common.{◌≡◌, ℕ, ◌+◌, ◌≤◌, Bool, true, false, cond, ◌||◌, List, [], ◌∷◌, map, length, Some, None, refl, sym, ap, subst, ◌∙◌, arith, inl, inr, bytes_eq, Less, Equal}
use Rattle.std.proofs.lemmas.Bool.{or_cases}
use Rattle.std.specs.List.{list_any, AllByRecursion}
use Rattle.std.specs.List.Sorted.{IsStrictlySortedBy}
use Rattle.std.specs.Ordering.{is_le, is_eq}
use Rattle.std.specs.Cmp.{tied_itself}
use Rattle.std.specs.Cmp.Lexicographic.{nat_list_cmp_total, texts_ties}
use Rattle.mt_chain.specs.declared.row.StoredRow.{StoredRow}
use Rattle.mt_chain.specs.Rows.{RisingRows, row_in}
use Rattle.mt_chain.specs.TwoLists.{first_key, first_row, rows_past}
use Rattle.mt_chain.proofs.KeyLaws.{text_true, text_same}
use Rattle.mt_chain.proofs.TextOrder.{text_cmp, or_left, or_right, le_apart, le_itself, not_le, le_trans}

-- ---- the keys of rows

-- some row has that key
abbrev pub has : List ℕ → List StoredRow → Bool
has k rows = list_any (λ r. bytes_eq k r.rk) rows

pub not_there : (rows : List StoredRow) (k : List ℕ) → has k rows ≡ false → row_in rows k ≡ None
not_there [] k h = refl
not_there (r ∷ rows) k h = go (λ x. not_there rows k x) (bytes_eq k r.rk) h where
  go : (has k rows ≡ false → row_in rows k ≡ None) → (b : Bool) → (b || has k rows) ≡ false → cond b (Some r) (row_in rows k) ≡ None
  go rest true h = absurd (let x = h in cc)
  go rest false h = rest h

abbrev pub left : List StoredRow → List StoredRow → List ℕ → Bool
left old new k = has k old || has k new

-- what is below all keys of rows is below each key that they have
below_has : (x k : List ℕ) (rows : List StoredRow) → AllByRecursion (λ y. text_cmp x y ≡ Less) (map (λ (r : StoredRow). r.rk) rows) → has k rows ≡ true → text_cmp x k ≡ Less
below_has x k [] all h = absurd (let e = h in cc)
below_has x k (r ∷ rows) all h = go (λ y. below_has x k rows all.1 y) (bytes_eq k r.rk) refl h where
  go : (has k rows ≡ true → text_cmp x k ≡ Less) → (b : Bool) → bytes_eq k r.rk ≡ b → (b || has k rows) ≡ true → text_cmp x k ≡ Less
  go rest true e h = subst (λ y. text_cmp x y ≡ Less) (sym (text_true k r.rk e)) all.0
  go rest false e h = rest h

-- no row has a key below that one
abbrev pub AtMost : List ℕ → List StoredRow → Type 0
AtMost m rows = (k : List ℕ) → has k rows ≡ true → is_le (text_cmp m k) ≡ true

least : (r : StoredRow) (rows : List StoredRow) → RisingRows (r ∷ rows) → AtMost r.rk (r ∷ rows)
unfolding IsStrictlySortedBy
least r rows rising k h = go (bytes_eq k r.rk) refl h where
  go : (b : Bool) → bytes_eq k r.rk ≡ b → (b || has k rows) ≡ true → is_le (text_cmp r.rk k) ≡ true
  go true e h = subst (λ y. is_le (text_cmp r.rk y) ≡ true) (sym (text_true k r.rk e)) (le_itself r.rk)
  go false e h = ap is_le (below_has r.rk k rows rising.0 h)

none_least : (m : List ℕ) → AtMost m []
none_least m k h = absurd (let e = h in cc)

-- the first key is there, and none is below it
pub record IsFirst (old new : List StoredRow) (m : List ℕ) : Type 0 where
  pub there : left old new m ≡ true
  pub low : AtMost m old
  pub high : AtMost m new

same_key : (a b : List ℕ) → Some a ≡ Some b → a ≡ b
same_key a b e = cc

head_there : (r : StoredRow) (rows : List StoredRow) → has r.rk (r ∷ rows) ≡ true
head_there r rows = or_left (bytes_eq r.rk r.rk) (has r.rk rows) (text_same r.rk)

pub is_first : (old new : List StoredRow) (m : List ℕ) → RisingRows old → RisingRows new → first_key old new ≡ Some m → IsFirst old new m
is_first [] [] m a b e = absurd (let x = e in cc)
is_first (r ∷ old) [] m a b e = subst (IsFirst (r ∷ old) []) (same_key r.rk m e) (record { there = or_left (has r.rk (r ∷ old)) false (head_there r old); low = least r old a; high = none_least r.rk })
is_first [] (s ∷ new) m a b e = subst (IsFirst [] (s ∷ new)) (same_key s.rk m e) (record { there = head_there s new; low = none_least s.rk; high = least s new b })
is_first (r ∷ old) (s ∷ new) m a b e = go (is_le (text_cmp r.rk s.rk)) refl e where
  go : (x : Bool) → is_le (text_cmp r.rk s.rk) ≡ x → cond x (Some r.rk) (Some s.rk) ≡ Some m → IsFirst (r ∷ old) (s ∷ new) m
  go true t e = subst (IsFirst (r ∷ old) (s ∷ new)) (same_key r.rk m e) (record {
    there = or_left (has r.rk (r ∷ old)) (has r.rk (s ∷ new)) (head_there r old);
    low = least r old a;
    high = λ k h. le_trans r.rk s.rk k t (least s new b k h);
  })
  go false t e = subst (IsFirst (r ∷ old) (s ∷ new)) (same_key s.rk m e) (record {
    there = or_right (has s.rk (r ∷ old)) (has s.rk (s ∷ new)) (head_there s new);
    low = λ k h. le_trans s.rk r.rk k (ap is_le (not_le r.rk s.rk t)) (least r old a k h);
    high = least s new b;
  })

-- what is left past a key that none is below
pub record Past (m : List ℕ) (rows rest : List StoredRow) : Type 0 where
  pub rising : RisingRows rest
  pub kept : (k : List ℕ) → has k rest ≡ true → (has k rows ≡ true) × (text_cmp m k ≡ Less)
  pub gone : (k : List ℕ) → has k rows ≡ true → has k rest ≡ false → k ≡ m
  pub fewer : length rest ≤ length rows
  pub less : has m rows ≡ true → length rest + 1 ≤ length rows

pub past_rows : (m : List ℕ) (rows : List StoredRow) → RisingRows rows → AtMost m rows → Past m rows (rows_past m rows)
unfolding IsStrictlySortedBy
past_rows m [] rising low = record { rising = rising; kept = λ k h. absurd (let e = h in cc); gone = λ k h g. absurd (let e = h in cc); fewer = omega arith; less = λ h. absurd (let e = h in cc) }
past_rows m (r ∷ rows) rising low = go (bytes_eq r.rk m) refl where
  go : (b : Bool) → bytes_eq r.rk m ≡ b → Past m (r ∷ rows) (cond b rows (r ∷ rows))
  go true e = (let same = text_true r.rk m e in record {
    rising = rising.1;
    kept = λ k h. (or_right (bytes_eq k r.rk) (has k rows) h, subst (λ x. text_cmp x k ≡ Less) same (below_has r.rk k rows rising.0 h));
    gone = λ k h g. elim (or_cases (bytes_eq k r.rk) (has k rows) h) as (λ _. k ≡ m) [
      | inl here ↦ text_true k r.rk here ∙ same
      | inr there ↦ absurd (let x : true ≡ false = sym there ∙ g in cc)
    ];
    fewer = omega arith;
    less = λ h. omega arith;
  })
  go false e = (let above : text_cmp m r.rk ≡ Less = le_apart m r.rk (low r.rk (head_there r rows)) e in record {
    rising = rising;
    kept = λ k h. (
      h,
      elim (or_cases (bytes_eq k r.rk) (has k rows) h) as (λ _. text_cmp m k ≡ Less) [
        | inl here ↦ subst (λ x. text_cmp m x ≡ Less) (sym (text_true k r.rk here)) above
        | inr there ↦ nat_list_cmp_total.trans m r.rk k above (below_has r.rk k rows rising.0 there)
      ],
    );
    gone = λ k h g. absurd (let x : true ≡ false = sym h ∙ g in cc);
    fewer = omega arith;
    less = λ h. elim (or_cases (bytes_eq m r.rk) (has m rows) h) as (λ _. length (r ∷ rows) + 1 ≤ length (r ∷ rows)) [
      | inl here ↦ absurd (let x : true ≡ false = sym (ap (λ y. bytes_eq y m) (sym (text_true m r.rk here)) ∙ text_same m) ∙ e in cc)
      | inr there ↦ absurd (let x : Less ≡ Equal = sym (nat_list_cmp_total.trans m r.rk m above (below_has r.rk m rows rising.0 there)) ∙ tied_itself nat_list_cmp_total m in cc)
    ];
  })

-- ---- the row at the first key, and the rows at the others

-- a key that none is below has the first row, or none
pub at_first : (m : List ℕ) (rows : List StoredRow) → RisingRows rows → AtMost m rows → first_row m rows ≡ row_in rows m
unfolding IsStrictlySortedBy
at_first m [] rising low = refl
at_first m (r ∷ rows) rising low = go (bytes_eq r.rk m) refl where
  none : text_cmp m r.rk ≡ Less → (rest : List StoredRow) → AllByRecursion (λ y. text_cmp r.rk y ≡ Less) (map (λ (x : StoredRow). x.rk) rest) → row_in rest m ≡ None
  none less [] all = refl
  none less (x ∷ rest) all = ap (λ b. cond b (Some x) (row_in rest m)) (texts_ties m x.rk ∙ ap is_eq (nat_list_cmp_total.trans m r.rk x.rk less all.0)) ∙ none less rest all.1

  go : (b : Bool) → bytes_eq r.rk m ≡ b → cond b (Some r) None ≡ row_in (r ∷ rows) m
  go true e = sym (ap (λ b. cond b (Some r) (row_in rows m)) (ap (λ k. bytes_eq k r.rk) (sym (text_true r.rk m e)) ∙ text_same r.rk))
  go false e = (let less = le_apart m r.rk (low r.rk (head_there r rows)) e in
      sym (ap (λ b. cond b (Some r) (row_in rows m)) (texts_ties m r.rk ∙ ap is_eq less) ∙ none less rows rising.0))

pub past_in : (m k : List ℕ) (rows : List StoredRow) → bytes_eq k m ≡ false → row_in (rows_past m rows) k ≡ row_in rows k
past_in m k [] other = refl
past_in m k (r ∷ rows) other = go (bytes_eq r.rk m) refl where
  go : (b : Bool) → bytes_eq r.rk m ≡ b → row_in (cond b rows (r ∷ rows)) k ≡ row_in (r ∷ rows) k
  go true e = sym (ap (λ b. cond b (Some r) (row_in rows k)) (ap (bytes_eq k) (text_true r.rk m e) ∙ other))
  go false e = refl

pub none_left : (old new : List StoredRow) (k : List ℕ) → first_key old new ≡ None → left old new k ≡ false
none_left [] [] k e = refl
none_left (r ∷ old) [] k e = absurd (let x = e in cc)
none_left [] (s ∷ new) k e = absurd (let x = e in cc)
none_left (r ∷ old) (s ∷ new) k e = absurd (go (is_le (text_cmp r.rk s.rk)) e) where
  go : (b : Bool) → cond b (Some r.rk) (Some s.rk) ≡ None → ⊥
  go true e = (let x = e in cc)
  go false e = (let x = e in cc)
