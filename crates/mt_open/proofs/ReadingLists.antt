-- Parts of lists of rows whose keys rise.
use Rattle.std.proofs.Common.{◌≡◌, ℕ, zero, suc, Bool, true, false, cond, ◌&&◌, ◌||◌, List, [], ◌∷◌, ◌++◌, map, take, filter, option_map, refl, sym, ap, ◌∙◌, subst, Some, None, Option, Less, Equal, Greater, Ordering}
use Rattle.std.proofs.lemmas.Bool.{and_parts}
use Rattle.std.specs.List.{AllByRecursion}
use Rattle.std.specs.Ordering.{is_lt, is_le, ordering_reverse}
use Rattle.std.specs.Cmp.{tied_itself}
use Rattle.std.specs.FinMap.Entries.{below_all, is_sorted}
use Rattle.mt_model.specs.declared.key.Key.{Key}
use Rattle.mt_model.specs.Key.{key_cmp}
use Rattle.mt_chain.specs.declared.row.Stored.{Stored}
use Rattle.mt_chain.specs.Rows.{Rows, are_rising}
use Rattle.mt_chain.proofs.KeyLaws.{key_total}

abbrev pub Entry : Type 0
Entry = Key × Stored

-- ---- orderings and tests

pub lt_less : (o : Ordering) → is_lt o ≡ true → o ≡ Less
lt_less Less e = refl
lt_less Equal e = absurd cc
lt_less Greater e = absurd cc

pub or_left : (a b : Bool) → a ≡ true → (a || b) ≡ true
or_left a b e = ap (λ t. t || b) e

pub or_right : (a b : Bool) → b ≡ true → (a || b) ≡ true
or_right true b e = refl
or_right false b e = e

pub and_both : (a b : Bool) → a ≡ true → b ≡ true → (a && b) ≡ true
and_both a b e f = ap (λ t. t && b) e ∙ f

-- ---- rising rows

pub head_below : (e : Entry) (rows : Rows) → are_rising (e ∷ rows) ≡ true → below_all key_cmp e.0 rows ≡ true
head_below e rows h = (and_parts (below_all key_cmp e.0 rows) (is_sorted key_cmp rows) h).0

pub rest_rising : (e : Entry) (rows : Rows) → are_rising (e ∷ rows) ≡ true → are_rising rows ≡ true
rest_rising e rows h = (and_parts (below_all key_cmp e.0 rows) (is_sorted key_cmp rows) h).1

-- what holds of all rows that a key is below
pub above : (x : Key) (P : Entry → Type 0) → ((e : Entry) → key_cmp x e.0 ≡ Less → P e) → (rows : Rows) → below_all key_cmp x rows ≡ true → AllByRecursion P rows
above x P f [] h = tt
above x P f (e ∷ rows) h = let parts = and_parts (is_lt (key_cmp x e.0)) (below_all key_cmp x rows) h in (f e (lt_less _ parts.0), above x P f rows parts.1)

pub below_each : (x : Key) (rows : Rows) → AllByRecursion (λ (e : Entry). key_cmp x e.0 ≡ Less) rows → below_all key_cmp x rows ≡ true
below_each x [] h = refl
below_each x (e ∷ rows) h = and_both _ _ (ap is_lt h.0) (below_each x rows h.1)

pub weaker : {X : Type 0} (P Q : X → Type 0) → ((x : X) → P x → Q x) → (xs : List X) → AllByRecursion P xs → AllByRecursion Q xs
weaker P Q f [] h = tt
weaker P Q f (x ∷ xs) h = (f x h.0, weaker P Q f xs h.1)

pub always : {X : Type 0} (P : X → Type 0) → ((x : X) → P x) → (xs : List X) → AllByRecursion P xs
always P f [] = tt
always P f (x ∷ xs) = (f x, always P f xs)

pub all_append : {X : Type 0} (P : X → Type 0) (xs ys : List X) → AllByRecursion P xs → AllByRecursion P ys → AllByRecursion P (xs ++ ys)
all_append P [] ys h g = g
all_append P (x ∷ xs) ys h g = (h.0, all_append P xs ys h.1 g)

below_append : (x : Key) (xs ys : Rows) → below_all key_cmp x xs ≡ true → below_all key_cmp x ys ≡ true → below_all key_cmp x (xs ++ ys) ≡ true
below_append x [] ys h g = g
below_append x (e ∷ xs) ys h g = let parts = and_parts (is_lt (key_cmp x e.0)) (below_all key_cmp x xs) h in and_both _ _ parts.0 (below_append x xs ys parts.1 g)

pub rising_append : (xs ys : Rows) → are_rising xs ≡ true → are_rising ys ≡ true → AllByRecursion (λ (e : Entry). below_all key_cmp e.0 ys ≡ true) xs → are_rising (xs ++ ys) ≡ true
rising_append [] ys h g c = g
rising_append (e ∷ xs) ys h g c = and_both _ _ (below_append e.0 xs ys (head_below e xs h) c.0) (rising_append xs ys (rest_rising e xs h) g c.1)

-- ---- filters

filter_true : (p : Entry → Bool) (e : Entry) (rows : Rows) → p e ≡ true → filter p (e ∷ rows) ≡ e ∷ filter p rows
filter_true p e rows t = ap (λ b. cond b (e ∷ filter p rows) (filter p rows)) t

filter_false : (p : Entry → Bool) (e : Entry) (rows : Rows) → p e ≡ false → filter p (e ∷ rows) ≡ filter p rows
filter_false p e rows t = ap (λ b. cond b (e ∷ filter p rows) (filter p rows)) t

pub filter_none : (p : Entry → Bool) (rows : Rows) → AllByRecursion (λ e. p e ≡ false) rows → filter p rows ≡ []
filter_none p [] h = refl
filter_none p (e ∷ rows) h = filter_false p e rows h.0 ∙ filter_none p rows h.1

pub filter_all : (p : Entry → Bool) (rows : Rows) → AllByRecursion (λ e. p e ≡ true) rows → filter p rows ≡ rows
filter_all p [] h = refl
filter_all p (e ∷ rows) h = filter_true p e rows h.0 ∙ ap (λ rs. e ∷ rs) (filter_all p rows h.1)

pub filter_same : (p q : Entry → Bool) (rows : Rows) → ((e : Entry) → p e ≡ q e) → filter p rows ≡ filter q rows
filter_same p q [] same = refl
filter_same p q (e ∷ rows) same = ap (λ b. cond b (e ∷ filter p rows) (filter p rows)) (same e) ∙ ap (λ rs. cond (q e) (e ∷ rs) rs) (filter_same p q rows same)

pub filter_twice : (p q : Entry → Bool) (rows : Rows) → filter q (filter p rows) ≡ filter (λ e. p e && q e) rows
filter_twice p q [] = refl
filter_twice p q (e ∷ rows) = elim (p e) as (λ b. filter q (cond b (e ∷ filter p rows) (filter p rows)) ≡ cond (b && q e) (e ∷ filter (λ e. p e && q e) rows) (filter (λ e. p e && q e) rows)) [
  | true ↦ ap (λ rs. cond (q e) (e ∷ rs) rs) (filter_twice p q rows)
  | false ↦ filter_twice p q rows
]

below_filter : (x : Key) (p : Entry → Bool) (rows : Rows) → below_all key_cmp x rows ≡ true → below_all key_cmp x (filter p rows) ≡ true
below_filter x p [] h = refl
below_filter x p (e ∷ rows) h =
    let parts = and_parts (is_lt (key_cmp x e.0)) (below_all key_cmp x rows) h in
    elim (p e) as (λ b. below_all key_cmp x (cond b (e ∷ filter p rows) (filter p rows)) ≡ true) [
      | true ↦ and_both _ _ parts.0 (below_filter x p rows parts.1)
      | false ↦ below_filter x p rows parts.1
    ]

pub rising_filter : (p : Entry → Bool) (rows : Rows) → are_rising rows ≡ true → are_rising (filter p rows) ≡ true
rising_filter p [] h = refl
rising_filter p (e ∷ rows) h = elim (p e) as (λ b. are_rising (cond b (e ∷ filter p rows) (filter p rows)) ≡ true) [
  | true ↦ and_both _ _ (below_filter e.0 p rows (head_below e rows h)) (rising_filter p rows (rest_rising e rows h))
  | false ↦ rising_filter p rows (rest_rising e rows h)
]

-- rows that pass one test, and then those that pass another, none of which lies before one of the first
pub joined : (p q r : Entry → Bool) (rows : Rows) → are_rising rows ≡ true → AllByRecursion (λ e. r e ≡ (p e || q e)) rows → ((e : Entry) → p e ≡ true → q e ≡ false) → ((x y : Entry) → key_cmp x.0 y.0 ≡ Less → q x ≡ true → p y ≡ false) → filter p rows ++ filter q rows ≡ filter r rows
joined p q r [] h is apart later = refl
joined p q r (e ∷ rows) h is apart later = go (joined p q r rows (rest_rising e rows h) is.1 apart later) (p e) (q e) refl refl where
  go : filter p rows ++ filter q rows ≡ filter r rows → (a b : Bool) → p e ≡ a → q e ≡ b → filter p (e ∷ rows) ++ filter q (e ∷ rows) ≡ filter r (e ∷ rows)
  go rest true true ep eq = (let no = sym eq ∙ apart e ep in absurd cc)
  go rest true false ep eq =
      ap (λ rs. rs ++ filter q (e ∷ rows)) (filter_true p e rows ep) ∙ ap (λ rs. e ∷ filter p rows ++ rs) (filter_false q e rows eq) ∙ ap (λ rs. e ∷ rs) rest
      ∙ sym (filter_true r e rows (is.0 ∙ ap (λ t. t || q e) ep))
  go rest false true ep eq =
      let none = filter_none p rows (above e.0 (λ y. p y ≡ false) (λ y l. later e y l eq) rows (head_below e rows h)) in
      ap (λ rs. rs ++ filter q (e ∷ rows)) (filter_false p e rows ep ∙ none) ∙ filter_true q e rows eq
      ∙ ap (λ rs. e ∷ (rs ++ filter q rows)) (sym none) ∙ ap (λ rs. e ∷ rs) rest
      ∙ sym (filter_true r e rows (is.0 ∙ ap (λ t. t || q e) ep ∙ eq))
  go rest false false ep eq =
      ap (λ rs. rs ++ filter q (e ∷ rows)) (filter_false p e rows ep) ∙ ap (λ rs. filter p rows ++ rs) (filter_false q e rows eq) ∙ rest
      ∙ sym (filter_false r e rows (is.0 ∙ ap (λ t. t || q e) ep ∙ eq))

-- ---- the first rows, up to the last of them

abbrev pub last_of : {X : Type 0} → List X → Option X
last_of [] = None
last_of (x ∷ []) = Some x
last_of (x ∷ y ∷ xs) = last_of (y ∷ xs)

pub last_map : {X Y : Type 0} (f : X → Y) (xs : List X) → last_of (map f xs) ≡ option_map f (last_of xs)
last_map f [] = refl
last_map f (x ∷ []) = refl
last_map f (x ∷ y ∷ xs) = last_map f (y ∷ xs)

pub last_has : {X : Type 0} (P : X → Type 0) (xs : List X) (x : X) → AllByRecursion P xs → last_of xs ≡ Some x → P x
last_has P [] x h e = absurd cc
last_has P (y ∷ []) x h e = subst P (some_same y x e) h.0 where
  some_same : {X : Type 0} (a b : X) → Some a ≡ Some b → a ≡ b
  some_same a b e = cc
last_has P (y ∷ z ∷ xs) x h e = last_has P (z ∷ xs) x h.1 e

below_take : (x : Key) (n : ℕ) (rows : Rows) → below_all key_cmp x rows ≡ true → AllByRecursion (λ (e : Entry). key_cmp x e.0 ≡ Less) (take n rows)
below_take x zero rows h = tt
below_take x (suc n) [] h = tt
below_take x (suc n) (e ∷ rows) h = let parts = and_parts (is_lt (key_cmp x e.0)) (below_all key_cmp x rows) h in (lt_less _ parts.0, below_take x n rows parts.1)

not_le : (a b : Key) → key_cmp a b ≡ Less → is_le (key_cmp b a) ≡ false
not_le a b l = ap is_le (key_total.antisymm b a ∙ ap ordering_reverse l)

pub taken : (n : ℕ) (rows : Rows) (x : Entry) → are_rising rows ≡ true → last_of (take n rows) ≡ Some x → take n rows ≡ filter (λ e. is_le (key_cmp e.0 x.0)) rows
taken zero rows x h e = absurd cc
taken (suc n) [] x h e = absurd cc
taken (suc n) (y ∷ rows) x h e = go (λ last. taken n rows x (rest_rising y rows h) last) (take n rows) refl where
  head_le : is_le (key_cmp y.0 x.0) ≡ true → e ≡ e → take n rows ≡ filter (λ e. is_le (key_cmp e.0 x.0)) rows → y ∷ take n rows ≡ filter (λ e. is_le (key_cmp e.0 x.0)) (y ∷ rows)
  head_le le same rest = ap (λ rs. y ∷ rs) rest ∙ sym (filter_true (λ e. is_le (key_cmp e.0 x.0)) y rows le)

  go : (last_of (take n rows) ≡ Some x → take n rows ≡ filter (λ e. is_le (key_cmp e.0 x.0)) rows) → (ys : Rows) → take n rows ≡ ys → y ∷ take n rows ≡ filter (λ e. is_le (key_cmp e.0 x.0)) (y ∷ rows)
  go rest [] t =
      let same : y ≡ x = (let s : Some y ≡ Some x = sym (ap (λ rs. last_of (y ∷ rs)) t) ∙ e in cc) in
      let none : filter (λ e. is_le (key_cmp e.0 x.0)) rows ≡ [] = filter_none (λ e. is_le (key_cmp e.0 x.0)) rows (above y.0 (λ z. is_le (key_cmp z.0 x.0) ≡ false) (λ z l. subst (λ w. is_le (key_cmp z.0 w.0) ≡ false) same (not_le y.0 z.0 l)) rows (head_below y rows h)) in
      head_le (subst (λ w. is_le (key_cmp y.0 w.0) ≡ true) same (ap is_le (tied_itself key_total y.0))) refl (t ∙ sym none)
  go rest (z ∷ zs) t =
      let last : last_of (take n rows) ≡ Some x = ap last_of t ∙ sym (ap (λ rs. last_of (y ∷ rs)) t) ∙ e in
      head_le (ap is_le (last_has (λ w. key_cmp y.0 w.0 ≡ Less) (take n rows) x (below_take y.0 n rows (head_below y rows h)) last)) refl (rest last)
