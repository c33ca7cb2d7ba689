-- What the rows of a range say of the store, up to where the reading ends.
use Rattle.std.proofs.Common.{◌≡◌, ℕ, zero, suc, ◌-◌, ◌≤◌, Bool, true, false, cond, ◌&&◌, nat_lt, List, [], ◌∷◌, map, length, take, filter, Option, Some, None, refl, sym, ap, subst, ◌∙◌, arith, inl, inr, bytes_eq, Less, Equal}
use Rattle.std.specs.Prelude.{option_map}
use Rattle.std.proofs.lemmas.Bool.{and_parts}
use Rattle.std.proofs.lemmas.Bool.Decides.{nat_tests}
use Rattle.std.specs.List.{AllByRecursion, slice_get}
use Rattle.std.specs.List.Sorted.{IsStrictlySortedBy}
use Rattle.std.specs.Ordering.{is_lt, is_le, is_eq}
use Rattle.std.specs.Cmp.{tied_itself}
use Rattle.std.specs.Cmp.Lexicographic.{nat_list_cmp_total, texts_ties}
use Rattle.std.specs.FinMap.Entries.{below_all}
use Rattle.mt_model.specs.declared.key.Key.{Key}
use Rattle.mt_model.specs.Key.{key_cmp}
use Rattle.mt_chain.specs.declared.row.Stored.{Stored}
use Rattle.mt_chain.specs.declared.row.StoredRow.{StoredRow}
use Rattle.mt_chain.specs.declared.query.Range.{Range}
use Rattle.mt_chain.specs.Rows.{Rows, RisingRows, key_at, are_rising, row_at, row_in, last_key, read_end, shown, is_upto, is_within, rows_within}
use Rattle.mt_chain.proofs.KeyLaws.{is_tied, text_true, text_same}
use Rattle.mt_chain.proofs.OrderLaws.{lt_less, key_less}
use Rattle.mt_chain.proofs.SearchLaws.{head_below, rest_rising}
use Rattle.mt_chain.proofs.TextOrder.{text_cmp, le_apart}

abbrev pub Entry : Type 0
Entry = Key × Stored

-- the row is one of the partition, in the range
abbrev lies_in : List ℕ → Range → Entry → Bool
lies_in pk range e = bytes_eq pk e.0.pk && is_within range e.0.rk

here : (e : Entry) (rows : Rows) (pk rk : List ℕ) → row_at (e ∷ rows) pk rk ≡ cond (bytes_eq pk e.0.pk && bytes_eq rk e.0.rk) (Some e.1) (row_at rows pk rk)
here e rows pk rk = ap (λ b. cond b (Some e.1) (row_at rows pk rk)) (is_tied (key_at pk rk) e.0)

-- a key of the range has the store's row
pub in_whole : (rows : Rows) (pk : List ℕ) (range : Range) (rk : List ℕ) → is_within range rk ≡ true → row_in (rows_within rows pk range) rk ≡ option_map (shown rk) (row_at rows pk rk)
in_whole [] pk range rk h = refl
in_whole (e ∷ rows) pk range rk h = go (in_whole rows pk range rk h) (bytes_eq pk e.0.pk) (bytes_eq rk e.0.rk) refl refl where
  skip : (b : Bool) → bytes_eq rk e.0.rk ≡ false → row_in (rows_within rows pk range) rk ≡ option_map (shown rk) (row_at rows pk rk) → row_in (map (λ f. shown f.0.rk f.1) (cond b (e ∷ filter (lies_in pk range) rows) (filter (lies_in pk range) rows))) rk ≡ option_map (shown rk) (row_at rows pk rk)
  skip true f r = ap (λ b. cond b (Some (shown e.0.rk e.1)) (row_in (rows_within rows pk range) rk)) f ∙ r
  skip false f r = r

  go : row_in (rows_within rows pk range) rk ≡ option_map (shown rk) (row_at rows pk rk) → (a b : Bool) → bytes_eq pk e.0.pk ≡ a → bytes_eq rk e.0.rk ≡ b → row_in (rows_within (e ∷ rows) pk range) rk ≡ option_map (shown rk) (row_at (e ∷ rows) pk rk)
  go r false b ea eb =
      ap (λ x. row_in (map (λ f. shown f.0.rk f.1) (cond (x && is_within range e.0.rk) (e ∷ filter (lies_in pk range) rows) (filter (lies_in pk range) rows))) rk) ea
      ∙ r ∙ ap (option_map (shown rk)) (sym (here e rows pk rk ∙ ap (λ x. cond (x && bytes_eq rk e.0.rk) (Some e.1) (row_at rows pk rk)) ea))
  go r true false ea eb =
      skip (lies_in pk range e) eb r
      ∙ ap (option_map (shown rk)) (sym (here e rows pk rk ∙ ap (λ x. cond (x && bytes_eq rk e.0.rk) (Some e.1) (row_at rows pk rk)) ea ∙ ap (λ x. cond x (Some e.1) (row_at rows pk rk)) eb))
  go r true true ea eb =
      let same : rk ≡ e.0.rk = text_true rk e.0.rk eb in
      let passes : lies_in pk range e ≡ true = ap (λ x. x && is_within range e.0.rk) ea ∙ ap (is_within range) (sym same) ∙ h in
      ap (λ x. row_in (map (λ f. shown f.0.rk f.1) (cond x (e ∷ filter (lies_in pk range) rows) (filter (lies_in pk range) rows))) rk) passes
      ∙ ap (λ x. cond x (Some (shown e.0.rk e.1)) (row_in (rows_within rows pk range) rk)) eb
      ∙ ap (λ k. Some (shown k e.1)) (sym same)
      ∙ ap (option_map (shown rk)) (sym (here e rows pk rk ∙ ap (λ x. cond (x && bytes_eq rk e.0.rk) (Some e.1) (row_at rows pk rk)) ea ∙ ap (λ x. cond x (Some e.1) (row_at rows pk rk)) eb))

-- ---- the rows of a range rise

-- later rows of the same partition have greater row keys
within_below : (x : Key) (rows : Rows) (pk : List ℕ) (range : Range) → below_all key_cmp x rows ≡ true → pk ≡ x.pk → AllByRecursion (λ k. text_cmp x.rk k ≡ Less) (map (λ (r : StoredRow). r.rk) (rows_within rows pk range))
within_below x [] pk range h same = tt
within_below x (f ∷ rows) pk range h same = go (within_below x rows pk range parts.1 same) (lies_in pk range f) refl where
  parts : (is_lt (key_cmp x f.0) ≡ true) × (below_all key_cmp x rows ≡ true)
  parts = and_parts (is_lt (key_cmp x f.0)) (below_all key_cmp x rows) h

  less : bytes_eq pk f.0.pk ≡ true → text_cmp x.rk f.0.rk ≡ Less
  less e = elim (key_less x f.0 (lt_less _ parts.0)) as (λ _. text_cmp x.rk f.0.rk ≡ Less) [
    | inl l ↦ absurd (let at : x.pk ≡ f.0.pk = sym same ∙ text_true pk f.0.pk e in let no : Equal ≡ Less = sym (tied_itself nat_list_cmp_total f.0.pk) ∙ subst (λ y. text_cmp y f.0.pk ≡ Less) at l in cc)
    | inr both ↦ both.1
  ]

  go : AllByRecursion (λ k. text_cmp x.rk k ≡ Less) (map (λ (r : StoredRow). r.rk) (rows_within rows pk range)) → (b : Bool) → lies_in pk range f ≡ b
      → AllByRecursion (λ k. text_cmp x.rk k ≡ Less) (map (λ (r : StoredRow). r.rk) (map (λ e. shown e.0.rk e.1) (cond b (f ∷ filter (lies_in pk range) rows) (filter (lies_in pk range) rows))))
  go rest true e = (less (and_parts (bytes_eq pk f.0.pk) (is_within range f.0.rk) e).0, rest)
  go rest false e = rest

pub rising_within : (rows : Rows) (pk : List ℕ) (range : Range) → are_rising rows ≡ true → RisingRows (rows_within rows pk range)
unfolding IsStrictlySortedBy
rising_within [] pk range h = tt
rising_within (e ∷ rows) pk range h = go (rising_within rows pk range (rest_rising e rows h)) (lies_in pk range e) refl where
  go : RisingRows (rows_within rows pk range) → (b : Bool) → lies_in pk range e ≡ b → RisingRows (map (λ f. shown f.0.rk f.1) (cond b (e ∷ filter (lies_in pk range) rows) (filter (lies_in pk range) rows)))
  go rest true t = (within_below e.0 rows pk range (head_below e rows h) (text_true pk e.0.pk (and_parts (bytes_eq pk e.0.pk) (is_within range e.0.rk) t).0), rest)
  go rest false t = rest

-- ---- the first rows of a range

none_above : (k : List ℕ) (rows : List StoredRow) → AllByRecursion (λ y. text_cmp k y ≡ Less) (map (λ (r : StoredRow). r.rk) rows) → row_in rows k ≡ None
none_above k [] h = refl
none_above k (r ∷ rows) h = ap (λ b. cond b (Some r) (row_in rows k)) (texts_ties k r.rk ∙ ap is_eq h.0) ∙ none_above k rows h.1

all_less : (a b : List ℕ) (ks : List (List ℕ)) → text_cmp a b ≡ Less → AllByRecursion (λ y. text_cmp b y ≡ Less) ks → AllByRecursion (λ y. text_cmp a y ≡ Less) ks
all_less a b [] l h = tt
all_less a b (k ∷ ks) l h = (nat_list_cmp_total.trans a b k l h.0, all_less a b ks l h.1)

differ_sym : (a b : List ℕ) → bytes_eq a b ≡ false → bytes_eq b a ≡ false
differ_sym a b e = go (bytes_eq b a) refl where
  go : (x : Bool) → bytes_eq b a ≡ x → x ≡ false
  go false t = refl
  go true t = (let y : true ≡ false = sym (ap (bytes_eq a) (text_true b a t) ∙ text_same a) ∙ e in cc)

up_to_last : (n : ℕ) (rows : List StoredRow) (k rk : List ℕ) → RisingRows rows → last_key (take n rows) ≡ Some k → is_le (text_cmp rk k) ≡ true → row_in (take n rows) rk ≡ row_in rows rk
unfolding IsStrictlySortedBy
up_to_last zero rows k rk rising last le = absurd (let e = last in cc)
up_to_last (suc n) [] k rk rising last le = refl
up_to_last (suc n) (x ∷ rows) k rk rising last le = go (λ l. up_to_last n rows k rk rising.1 l le) (bytes_eq rk x.rk) refl where
  same_last : (a b : List ℕ) → Some a ≡ Some b → a ≡ b
  same_last a b e = cc

  rest : (last_key (take n rows) ≡ Some k → row_in (take n rows) rk ≡ row_in rows rk) → bytes_eq rk x.rk ≡ false → (ys : List StoredRow) → take n rows ≡ ys → row_in ys rk ≡ row_in rows rk
  rest ih other [] t =
      let end : x.rk ≡ k = same_last x.rk k (sym (ap (λ l. last_key (x ∷ l)) t) ∙ last) in
      let below : text_cmp rk x.rk ≡ Less = le_apart rk x.rk (subst (λ y. is_le (text_cmp rk y) ≡ true) (sym end) le) (differ_sym rk x.rk other) in
      sym (none_above rk rows (all_less rk x.rk (map (λ (r : StoredRow). r.rk) rows) below rising.0))
  rest ih other (y ∷ ys) t = ap (λ l. row_in l rk) (sym t) ∙ ih (ap last_key t ∙ sym (ap (λ l. last_key (x ∷ l)) t) ∙ last)

  go : (last_key (take n rows) ≡ Some k → row_in (take n rows) rk ≡ row_in rows rk) → (b : Bool) → bytes_eq rk x.rk ≡ b → cond (bytes_eq rk x.rk) (Some x) (row_in (take n rows) rk) ≡ cond (bytes_eq rk x.rk) (Some x) (row_in rows rk)
  go ih true e = ap (λ b. cond b (Some x) (row_in (take n rows) rk)) e ∙ sym (ap (λ b. cond b (Some x) (row_in rows rk)) e)
  go ih false e = ap (cond (bytes_eq rk x.rk) (Some x)) (rest ih e (take n rows) refl)

take_whole : (n : ℕ) (rows : List StoredRow) → length rows ≤ n → take n rows ≡ rows
take_whole zero [] le = refl
take_whole zero (x ∷ rows) le = absurd (omega (arith, le))
take_whole (suc n) [] le = refl
take_whole (suc n) (x ∷ rows) le = ap (λ l. x ∷ l) (take_whole n rows (omega (arith, le)))

has_last : (x : StoredRow) (xs : List StoredRow) → last_key (x ∷ xs) ≡ None → ⊥
has_last x [] e = cc
has_last x (y ∷ ys) e = has_last y ys e

-- where there are more rows than were read, some were read
none : (n : ℕ) (rows : List StoredRow) → 1 ≤ n → last_key (take n rows) ≡ None → nat_lt n (length rows) ≡ true → ⊥
none zero rows low last more = omega (arith, low)
none (suc n) [] low last more = (let x : nat_lt (suc n) 0 ≡ false = grind (arith, nat_tests) in let y : false ≡ true = sym x ∙ more in cc)
none (suc n) (x ∷ rows) low last more = has_last x (take n rows) last

-- up to where the reading ends, the rows that were read are those of the range
pub up_to_end : (n : ℕ) (rows : List StoredRow) (rk : List ℕ) → 1 ≤ n → RisingRows rows → is_upto (read_end (take n rows) (nat_lt n (length rows))) rk ≡ true → row_in (take n rows) rk ≡ row_in rows rk
up_to_end n rows rk some rising upto = go (nat_lt n (length rows)) refl upto where
  by_last : (end : Option (List ℕ)) → last_key (take n rows) ≡ end → nat_lt n (length rows) ≡ true → is_upto end rk ≡ true → row_in (take n rows) rk ≡ row_in rows rk
  by_last (Some k) last more le = up_to_last n rows k rk rising last le
  by_last None last more le = absurd (none n rows some last more)

  go : (b : Bool) → nat_lt n (length rows) ≡ b → is_upto (cond b (last_key (take n rows)) None) rk ≡ true → row_in (take n rows) rk ≡ row_in rows rk
  go true more le = by_last (last_key (take n rows)) refl more le
  go false more le = ap (λ l. row_in l rk) (take_whole n rows (grind (arith, nat_tests)))

-- ---- each row that was read is the store's

pub record IsRowOf (rows : Rows) (pk : List ℕ) (r : StoredRow) : Type 0 where
  pub row : Stored
  pub there : row_at rows pk r.rk ≡ Some row
  pub props : row.props ≡ r.props
  pub tag : row.tag ≡ r.tag

lift : (e : Entry) (rows : Rows) (pk : List ℕ) (xs : List StoredRow) → AllByRecursion (λ k. (bytes_eq pk e.0.pk && bytes_eq k e.0.rk) ≡ false) (map (λ (r : StoredRow). r.rk) xs) → AllByRecursion (IsRowOf rows pk) xs → AllByRecursion (IsRowOf (e ∷ rows) pk) xs
lift e rows pk [] other h = tt
lift e rows pk (x ∷ xs) other h = (
  record { row = h.0.row; there = here e rows pk x.rk ∙ ap (λ b. cond b (Some e.1) (row_at rows pk x.rk)) other.0 ∙ h.0.there; props = h.0.props; tag = h.0.tag },
  lift e rows pk xs other.1 h.1,
)

others : (e : Entry) (pk : List ℕ) (ks : List (List ℕ)) → bytes_eq pk e.0.pk ≡ false → AllByRecursion (λ k. (bytes_eq pk e.0.pk && bytes_eq k e.0.rk) ≡ false) ks
others e pk [] f = tt
others e pk (k ∷ ks) f = (ap (λ b. b && bytes_eq k e.0.rk) f, others e pk ks f)

greater : (e : Entry) (pk : List ℕ) (ks : List (List ℕ)) → bytes_eq pk e.0.pk ≡ true → AllByRecursion (λ k. text_cmp e.0.rk k ≡ Less) ks → AllByRecursion (λ k. (bytes_eq pk e.0.pk && bytes_eq k e.0.rk) ≡ false) ks
greater e pk [] t h = tt
greater e pk (k ∷ ks) t h = (ap (λ b. b && bytes_eq k e.0.rk) t ∙ differ_sym e.0.rk k (texts_ties e.0.rk k ∙ ap is_eq h.0), greater e pk ks t h.1)

pub members : (rows : Rows) (pk : List ℕ) (range : Range) → are_rising rows ≡ true → AllByRecursion (IsRowOf rows pk) (rows_within rows pk range)
members [] pk range h = tt
members (e ∷ rows) pk range h = go (members rows pk range (rest_rising e rows h)) (bytes_eq pk e.0.pk) refl where
  apart : (b : Bool) → bytes_eq pk e.0.pk ≡ b → AllByRecursion (λ k. (bytes_eq pk e.0.pk && bytes_eq k e.0.rk) ≡ false) (map (λ (r : StoredRow). r.rk) (rows_within rows pk range))
  apart true t = greater e pk _ t (within_below e.0 rows pk range (head_below e rows h) (text_true pk e.0.pk t))
  apart false t = others e pk _ t

  this : bytes_eq pk e.0.pk ≡ true → IsRowOf (e ∷ rows) pk (shown e.0.rk e.1)
  this t = record { row = e.1; there = here e rows pk e.0.rk ∙ ap (λ b. cond (b && bytes_eq e.0.rk e.0.rk) (Some e.1) (row_at rows pk e.0.rk)) t ∙ ap (λ b. cond b (Some e.1) (row_at rows pk e.0.rk)) (text_same e.0.rk); props = refl; tag = refl }

  by_range : AllByRecursion (IsRowOf (e ∷ rows) pk) (rows_within rows pk range) → (a : Bool) → lies_in pk range e ≡ a → AllByRecursion (IsRowOf (e ∷ rows) pk) (map (λ f. shown f.0.rk f.1) (cond a (e ∷ filter (lies_in pk range) rows) (filter (lies_in pk range) rows)))
  by_range rest true t = (this (and_parts (bytes_eq pk e.0.pk) (is_within range e.0.rk) t).0, rest)
  by_range rest false t = rest

  go : AllByRecursion (IsRowOf rows pk) (rows_within rows pk range) → (b : Bool) → bytes_eq pk e.0.pk ≡ b → AllByRecursion (IsRowOf (e ∷ rows) pk) (rows_within (e ∷ rows) pk range)
  go rest b t = by_range (lift e rows pk (rows_within rows pk range) (apart b t) rest) (lies_in pk range e) refl

pub all_taken : (P : StoredRow → Type 0) (n : ℕ) (xs : List StoredRow) → AllByRecursion P xs → AllByRecursion P (take n xs)
all_taken P zero xs h = tt
all_taken P (suc n) [] h = tt
all_taken P (suc n) (x ∷ xs) h = (h.0, all_taken P n xs h.1)

-- ---- the last row

pub last_get : (xs : List StoredRow) → option_map (λ (r : StoredRow). r.rk) (slice_get xs (length xs - 1)) ≡ last_key xs
last_get [] = refl
last_get (x ∷ xs) = let e : length (x ∷ xs) - 1 ≡ length xs = omega arith in ap (λ i. option_map (λ (r : StoredRow). r.rk) (slice_get (x ∷ xs) i)) e ∙ last_is x xs where
  last_is : (x : StoredRow) (xs : List StoredRow) → option_map (λ (r : StoredRow). r.rk) (slice_get (x ∷ xs) (length xs)) ≡ last_key (x ∷ xs)
  last_is x [] = refl
  last_is x (y ∷ ys) = last_is y ys
