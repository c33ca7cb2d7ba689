-- The page where a key belongs, and what stands at the key there and in the whole.
use Rattle.std.proofs.Common.{◌≡◌, ℕ, suc, ◌<◌, Bool, true, false, cond, not, List, [], ◌∷◌, ◌++◌, length, take, drop, get_or, refl, sym, ap, ◌∙◌, subst, inl, inr, arith, IsTrue, Option, Some, None, Less, Equal, Greater, Ordering}
use Rattle.std.proofs.lemmas.Bool.{and_parts}
use Rattle.std.specs.Ordering.{is_lt, is_le, is_eq, eq_by_cmp}
use Rattle.std.specs.Cmp.{alike_right}
use Rattle.std.specs.FinMap.Entries.{find, put, where_key, below_all, by_order}
use Rattle.mt_model.specs.declared.key.Key.{Key}
use Rattle.mt_model.specs.Key.{key_cmp}
use Rattle.mt_chain.specs.declared.row.Stored.{Stored}
use Rattle.mt_chain.specs.declared.query.PkFrom.TheVariants.{From}
use Rattle.mt_chain.specs.Rows.{Rows, are_rising}
use Rattle.mt_chain.proofs.KeyLaws.{key_total}
use Rattle.mt_chain.proofs.OrderLaws.{lt_less, reversed, FallsByKey, before_falls, passed_falls}
use Rattle.mt_chain.proofs.SearchLaws.{rest_rising, head_below}
use Rattle.mt_mem.specs.Changes.{rows_with}
use Rattle.mt_paged.specs.declared.front.Front.{Front}
use Rattle.mt_paged.specs.declared.front.Front.TheVariants.{UpTo, BeforeRange, BeforePartition, BeforePlace}
use Rattle.mt_paged.specs.Pages.{joined, AreFilled}
use Rattle.mt_paged.specs.Fronts.{is_in_front, begins_in, NonePasses, IsLastIn, AllBelow, AllAbove, IsHome}
use Rattle.mt_paged.proofs.PagesLaws.{around, filled_at}
use Rattle.mt_paged.proofs.FrontLaws.{below_middle}

abbrev Entry : Type 0
Entry = Key × Stored

-- ---- keys up to a key

le_below : (x y key : Key) → key_cmp x y ≡ Less → is_le (key_cmp y key) ≡ true → key_cmp x key ≡ Less
le_below x y key less le = go (key_cmp y key) refl le where
  go : (r : Ordering) → key_cmp y key ≡ r → is_le r ≡ true → key_cmp x key ≡ Less
  go Less e h = key_total.trans x y key less e
  go Equal e h = sym (alike_right key_total y key x e) ∙ less
  go Greater e h = absurd cc

not_le : (r : Ordering) → is_le r ≡ false → r ≡ Greater
not_le Less e = absurd cc
not_le Equal e = absurd cc
not_le Greater e = refl

-- the first of two keys is in front where the second is
pub front_falls : (front : Front) → FallsByKey (is_in_front front)
front_falls (UpTo pk rk) = λ a b less passes. ap is_le (le_below a b (record { pk = pk.now; rk = rk.now }) less passes)
front_falls (BeforeRange pk from) = before_falls pk.now from.now
front_falls (BeforePartition pk) = passed_falls (From pk.now)
front_falls (BeforePlace at) = passed_falls at.now

abbrev upto : Key → Key → Bool
upto key = λ k. is_le (key_cmp k key)

all_before : (key : Key) (A B : Rows) (e : Entry) → are_rising (A ++ e ∷ B) ≡ true → is_le (key_cmp e.0 key) ≡ true → AllBelow key A
all_before key [] B e h le = tt
all_before key (a ∷ A) B e h le = (le_below a.0 e.0 key (below_middle a.0 A B e (head_below a (A ++ e ∷ B) h)) le, all_before key A B e (rest_rising a (A ++ e ∷ B) h) le)

before_page : (key : Key) (A p B : Rows) → 0 < length p → are_rising (A ++ (p ++ B)) ≡ true → begins_in (upto key) p ≡ true → AllBelow key A
before_page key A [] B l h le = absurd (omega arith)
before_page key A (e ∷ p) B l h le = all_before key A (p ++ B) e h le

all_above : (key : Key) (rows : Rows) → NonePasses (upto key) rows → AllAbove key rows
all_above key [] h = tt
all_above key (e ∷ rows) h = (not_le _ h.0, all_above key rows h.1)

-- the last page that begins at or below a key, or the first page, is where the key belongs
pub home_found : (key : Key) (pages : List Rows) (at : ℕ) → AreFilled pages → are_rising (joined pages) ≡ true → IsLastIn (upto key) pages at → IsHome key pages at
home_found key pages at f h last = record {
  within = last.within;
  below = elim last.begins as (λ _. AllBelow key (joined (take at pages))) [
    | inl zero ↦ subst (λ n. AllBelow key (joined (take n pages))) (sym zero) tt
    | inr begins ↦ before_page key (joined (take at pages)) (get_or pages at []) (joined (drop (suc at) pages)) (filled_at pages at [] f last.within) (ap are_rising (sym (around pages at [] last.within)) ∙ h) begins
  ];
  above = all_above key (joined (drop (suc at) pages)) last.after;
}

-- ---- what stands at a key between lesser and greater ones

find_past : (key : Key) (A B : Rows) → AllBelow key A → find key_cmp key (A ++ B) ≡ find key_cmp key B
find_past key [] B h = refl
find_past key (e ∷ A) B h = ap (λ r. cond (is_eq r) (Some e.1) (find key_cmp key (A ++ B))) (reversed e.0 key Less h.0) ∙ find_past key A B h.1

find_above : (key : Key) (B : Rows) → AllAbove key B → find key_cmp key B ≡ None
find_above key [] h = refl
find_above key (e ∷ B) h = ap (λ r. cond (is_eq r) (Some e.1) (find key_cmp key B)) (reversed e.0 key Greater h.0) ∙ find_above key B h.1

find_upto : (key : Key) (A B : Rows) → AllAbove key B → find key_cmp key (A ++ B) ≡ find key_cmp key A
find_upto key [] B h = find_above key B h
find_upto key (e ∷ A) B h = ap (λ r. cond (eq_by_cmp key_cmp key e.0) (Some e.1) r) (find_upto key A B h)

put_past : (key : Key) (s : Stored) (A B : Rows) → AllBelow key A → put key_cmp key s (A ++ B) ≡ A ++ put key_cmp key s B
put_past key s [] B h = refl
put_past key s (e ∷ A) B h =
    ap (λ r. by_order r ((key, s) ∷ e ∷ A ++ B) ((e.0, s) ∷ A ++ B) (e ∷ put key_cmp key s (A ++ B))) (reversed e.0 key Less h.0)
    ∙ ap (λ rs. e ∷ rs) (put_past key s A B h.1)

put_upto : (key : Key) (s : Stored) (A B : Rows) → AllAbove key B → put key_cmp key s (A ++ B) ≡ put key_cmp key s A ++ B
put_upto key s [] [] h = refl
put_upto key s [] (e ∷ B) h = ap (λ r. by_order r ((key, s) ∷ e ∷ B) ((e.0, s) ∷ B) (e ∷ put key_cmp key s B)) (reversed e.0 key Greater h.0)
put_upto key s (e ∷ A) B h = elim (key_cmp key e.0) as (λ r. by_order r ((key, s) ∷ e ∷ A ++ B) ((e.0, s) ∷ A ++ B) (e ∷ put key_cmp key s (A ++ B)) ≡ by_order r ((key, s) ∷ e ∷ A) ((e.0, s) ∷ A) (e ∷ put key_cmp key s A) ++ B) [
  | Less ↦ refl
  | Equal ↦ refl
  | Greater ↦ ap (λ rs. e ∷ rs) (put_upto key s A B h)
]

-- the rows but for the one at a key
abbrev without : Key → Rows → Rows
without key rows = where_key key_cmp (λ k. not (eq_by_cmp key_cmp key k)) rows

without_past : (key : Key) (A B : Rows) → AllBelow key A → without key (A ++ B) ≡ A ++ without key B
without_past key [] B h = refl
without_past key (e ∷ A) B h =
    ap (λ r. cond (not (is_eq r)) (e ∷ without key (A ++ B)) (without key (A ++ B))) (reversed e.0 key Less h.0)
    ∙ ap (λ rs. e ∷ rs) (without_past key A B h.1)

without_above : (key : Key) (B : Rows) → AllAbove key B → without key B ≡ B
without_above key [] h = refl
without_above key (e ∷ B) h =
    ap (λ r. cond (not (is_eq r)) (e ∷ without key B) (without key B)) (reversed e.0 key Greater h.0)
    ∙ ap (λ rs. e ∷ rs) (without_above key B h.1)

without_upto : (key : Key) (A B : Rows) → AllAbove key B → without key (A ++ B) ≡ without key A ++ B
without_upto key [] B h = without_above key B h
without_upto key (e ∷ A) B h = elim (eq_by_cmp key_cmp key e.0) as (λ b. cond (not b) (e ∷ without key (A ++ B)) (without key (A ++ B)) ≡ cond (not b) (e ∷ without key A) (without key A) ++ B) [
  | true ↦ without_upto key A B h
  | false ↦ ap (λ rs. e ∷ rs) (without_upto key A B h)
]

with_past : (key : Key) (row : Option Stored) (A B : Rows) → AllBelow key A → rows_with key row (A ++ B) ≡ A ++ rows_with key row B
with_past key (Some s) A B h = put_past key s A B h
with_past key None A B h = without_past key A B h

with_upto : (key : Key) (row : Option Stored) (A B : Rows) → AllAbove key B → rows_with key row (A ++ B) ≡ rows_with key row A ++ B
with_upto key (Some s) A B h = put_upto key s A B h
with_upto key None A B h = without_upto key A B h

-- ---- what is done at home is done in the whole

pub find_home : (key : Key) (pages : List Rows) (at : ℕ) → IsHome key pages at → find key_cmp key (joined pages) ≡ find key_cmp key (get_or pages at [])
find_home key pages at home =
    ap (find key_cmp key) (around pages at [] home.within)
    ∙ find_past key (joined (take at pages)) (get_or pages at [] ++ joined (drop (suc at) pages)) home.below
    ∙ find_upto key (get_or pages at []) (joined (drop (suc at) pages)) home.above

pub with_home : (key : Key) (row : Option Stored) (pages : List Rows) (at : ℕ) → IsHome key pages at
    → rows_with key row (joined pages) ≡ joined (take at pages) ++ (rows_with key row (get_or pages at []) ++ joined (drop (suc at) pages))
with_home key row pages at home =
    ap (rows_with key row) (around pages at [] home.within)
    ∙ with_past key row (joined (take at pages)) (get_or pages at [] ++ joined (drop (suc at) pages)) home.below
    ∙ ap (λ es. joined (take at pages) ++ es) (with_upto key row (get_or pages at []) (joined (drop (suc at) pages)) home.above)
