-- The walk over the keys of two stores leaves the logical table.
use Rattle.std.proofs.Common.{◌≡◌, ◌≢◌, ◌⊎◌, inl, inr, ◌+◌, ◌<◌, ◌≤◌, Bool, true, false, cond, ◌||◌, List, [], ◌∷◌, ◌++◌, map, length, filter, option_map, Option, Some, None, refl, sym, ap, subst, ◌∙◌, arith, bytes_eq, is_some, Less, Equal, Greater, Ordering}
use Rattle.std.proofs.lemmas.Bool.{and_parts}
use Rattle.std.specs.Prelude.{IsTrue}
use Rattle.std.specs.List.{AllByRecursion, slice_get}
use Rattle.std.specs.List.Sorted.{IsStrictlySortedBy}
use Rattle.std.specs.Ordering.{is_lt, is_le, is_eq, eq_by_cmp}
use Rattle.std.specs.FinMap.Entries.{find as row_of, find-where_key, below_all}
use Rattle.mt_model.specs.declared.key.Key.{Key}
use Rattle.mt_model.specs.declared.entity.Entity.{Entity}
use Rattle.mt_model.specs.Key.{key_cmp}
use Rattle.mt_model.specs.Entities.{RisingKeys}
use Rattle.mt_chain.specs.declared.row.Stored.{Stored}
use Rattle.mt_chain.specs.Rows.{Rows, are_rising}
use Rattle.mt_chain.proofs.KeyLaws.{key_total, key_ties}
use Rattle.mt_chain.proofs.OrderLaws.{lt_less, eq_equal, reversed}
use Rattle.mt_chain.specs.Table.{IsListing, rows_of, table_of}
use Rattle.mt_chain.proofs.SearchLaws.{head_below, sorted_rising}
use Rattle.mt_meta.specs.Markers.{marker_key}
use Rattle.mt_meta.specs.Logical.{Pair, Shown, OldState, NoOld, AtUseOld, AtPreferOld, AtPreferNew, BadOld, NewState, NoNew, AtFilling, AtUseNew, BadNew, old_at, new_at, old_state_at, new_state_at, row_by, logical}
use Rattle.mt_meta.specs.Steps.{as_row, logical_table}
use Rattle.mt_open.proofs.RepeatLaws.{self_tied}
use Rattle.mt_open.proofs.ReadingLists.{rising_filter}
use Rattle.mt_open.specs.Table.{entity_by, entity_at, with_one}
use Rattle.mt_open.specs.Walk.{has_row, has_key, IsAtMost, IsFirstKey, rows_past}

abbrev pub Entry : Type 0
Entry = Key × Stored

-- ---- rows and their least key

self_found : (k : Key) → eq_by_cmp key_cmp k k ≡ true
self_found k = ap is_eq (self_tied k)

pub head_has : (e : Entry) (rows : Rows) → has_row (e ∷ rows) e.0 ≡ true
head_has e rows = ap (λ b. is_some (cond b (Some e.1) (row_of key_cmp e.0 rows))) (self_found e.0)

-- a key that rows have is above each key that is below them all
below_has : (x : Key) (rows : Rows) → below_all key_cmp x rows ≡ true → (k : Key) → has_row rows k ≡ true → key_cmp x k ≡ Less
below_has x [] below k has = absurd (let e = has in cc)
below_has x (e ∷ rows) below k has = go (λ low found. below_has x rows low k found) (eq_by_cmp key_cmp k e.0) refl has where
  parts : (is_lt (key_cmp x e.0) ≡ true) × (below_all key_cmp x rows ≡ true)
  parts = and_parts (is_lt (key_cmp x e.0)) (below_all key_cmp x rows) below

  go : (below_all key_cmp x rows ≡ true → has_row rows k ≡ true → key_cmp x k ≡ Less) → (b : Bool) → eq_by_cmp key_cmp k e.0 ≡ b → is_some (cond b (Some e.1) (row_of key_cmp k rows)) ≡ true → key_cmp x k ≡ Less
  go rest true t has = subst (λ y. key_cmp x y ≡ Less) (sym (key_ties k e.0 (eq_equal _ t))) (lt_less _ parts.0)
  go rest false t has = rest parts.1 has

pub head_least : (e : Entry) (rows : Rows) → are_rising (e ∷ rows) ≡ true → IsAtMost e.0 (e ∷ rows)
head_least e rows rising k has = go (eq_by_cmp key_cmp k e.0) refl has where
  go : (b : Bool) → eq_by_cmp key_cmp k e.0 ≡ b → is_some (cond b (Some e.1) (row_of key_cmp k rows)) ≡ true → IsTrue (is_le (key_cmp e.0 k))
  go true t has = subst (λ y. IsTrue (is_le (key_cmp e.0 y))) (sym (key_ties k e.0 (eq_equal _ t))) (ap is_le (self_tied e.0))
  go false t has = ap is_le (below_has e.0 rows (head_below e rows rising) k has)

-- ---- the least key of two lists

le_trans : (a b c : Key) → is_le (key_cmp a b) ≡ true → is_le (key_cmp b c) ≡ true → is_le (key_cmp a c) ≡ true
le_trans a b c p q = go (key_cmp a b) refl p where
  after : (o : Ordering) → key_cmp a b ≡ Less → key_cmp b c ≡ o → is_le o ≡ true → is_le (key_cmp a c) ≡ true
  after Less l e q = ap is_le (key_total.trans a b c l e)
  after Equal l e q = ap is_le (subst (λ y. key_cmp a y ≡ Less) (key_ties b c e) l)
  after Greater l e q = absurd cc

  go : (o : Ordering) → key_cmp a b ≡ o → is_le o ≡ true → is_le (key_cmp a c) ≡ true
  go Less e p = after (key_cmp b c) e refl q
  go Equal e p = subst (λ y. is_le (key_cmp y c) ≡ true) (sym (key_ties a b e)) q
  go Greater e p = absurd cc

not_le : (a b : Key) → is_le (key_cmp a b) ≡ false → is_le (key_cmp b a) ≡ true
not_le a b h = go (key_cmp a b) refl h where
  go : (o : Ordering) → key_cmp a b ≡ o → is_le o ≡ false → is_le (key_cmp b a) ≡ true
  go Less e h = absurd cc
  go Equal e h = absurd cc
  go Greater e h = ap is_le (reversed a b Greater e)

or_right : (a b : Bool) → b ≡ true → (a || b) ≡ true
or_right true b e = refl
or_right false b e = e

none_at_most : (k : Key) → IsAtMost k []
none_at_most k other has = absurd (let e = has in cc)

pub first_none : IsFirstKey [] [] None
first_none key = refl

pub first_old : (e : Entry) (rows : Rows) → are_rising (e ∷ rows) ≡ true → IsFirstKey (e ∷ rows) [] (Some e.0)
first_old e rows rising = (ap (λ b. b || false) (head_has e rows), head_least e rows rising, none_at_most e.0)

pub first_new : (e : Entry) (rows : Rows) → are_rising (e ∷ rows) ≡ true → IsFirstKey [] (e ∷ rows) (Some e.0)
first_new e rows rising = (head_has e rows, none_at_most e.0, head_least e rows rising)

pub first_both : (d e : Entry) (old new : Rows) → are_rising (d ∷ old) ≡ true → are_rising (e ∷ new) ≡ true
    → IsFirstKey (d ∷ old) (e ∷ new) (Some (cond (is_le (key_cmp d.0 e.0)) d.0 e.0))
first_both d e old new low high = go (is_le (key_cmp d.0 e.0)) refl where
  go : (b : Bool) → is_le (key_cmp d.0 e.0) ≡ b → IsFirstKey (d ∷ old) (e ∷ new) (Some (cond b d.0 e.0))
  go true t = (ap (λ b. b || has_row (e ∷ new) d.0) (head_has d old), head_least d old low, λ k has. le_trans d.0 e.0 k t (head_least e new high k has))
  go false t = (or_right (has_row (d ∷ old) e.0) _ (head_has e new), λ k has. le_trans e.0 d.0 k (not_le d.0 e.0 t) (head_least d old low k has), head_least e new high)

some_same : (a b : Entry) → Some a ≡ Some b → a ≡ b
some_same a b e = cc

pub starts_none : (old new : Rows) → None ≡ slice_get old 0 → None ≡ slice_get new 0 → IsFirstKey old new None
starts_none [] [] low high = first_none
starts_none [] (x ∷ new) low high = absurd (let e = high in cc)
starts_none (x ∷ old) new low high = absurd (let e = low in cc)

pub starts_old : (old new : Rows) (e : Entry) → are_rising old ≡ true → Some e ≡ slice_get old 0 → None ≡ slice_get new 0 → IsFirstKey old new (Some e.0)
starts_old [] new e rising low high = absurd (let x = low in cc)
starts_old (x ∷ old) [] e rising low high = subst (λ (y : Entry). IsFirstKey (x ∷ old) [] (Some y.0)) (sym (some_same e x low)) (first_old x old rising)
starts_old (x ∷ old) (y ∷ new) e rising low high = absurd (let x = high in cc)

pub starts_new : (old new : Rows) (e : Entry) → are_rising new ≡ true → None ≡ slice_get old 0 → Some e ≡ slice_get new 0 → IsFirstKey old new (Some e.0)
starts_new [] [] e rising low high = absurd (let x = high in cc)
starts_new [] (x ∷ new) e rising low high = subst (λ (y : Entry). IsFirstKey [] (x ∷ new) (Some y.0)) (sym (some_same e x high)) (first_new x new rising)
starts_new (x ∷ old) new e rising low high = absurd (let x = low in cc)

pub starts_both : (old new : Rows) (d e : Entry) (k : Key) → are_rising old ≡ true → are_rising new ≡ true → Some d ≡ slice_get old 0 → Some e ≡ slice_get new 0
    → k ≡ cond (is_le (key_cmp d.0 e.0)) d.0 e.0 → IsFirstKey old new (Some k)
starts_both [] new d e k below above low high is = absurd (let x = low in cc)
starts_both (x ∷ old) [] d e k below above low high is = absurd (let y = high in cc)
starts_both (x ∷ old) (y ∷ new) d e k below above low high is =
    let first : k ≡ cond (is_le (key_cmp x.0 y.0)) x.0 y.0 = is ∙ ap (λ (z : Entry). cond (is_le (key_cmp z.0 e.0)) z.0 e.0) (some_same d x low) ∙ ap (λ (z : Entry). cond (is_le (key_cmp x.0 z.0)) x.0 z.0) (some_same e y high) in
    subst (λ z. IsFirstKey (x ∷ old) (y ∷ new) (Some z)) (sym first) (first_both x y old new below above)

-- ---- the rows past a key

filter_none : (p : Entry → Bool) (x : Key) (rows : Rows) → ((e : Entry) → key_cmp x e.0 ≡ Less → p e ≡ true) → below_all key_cmp x rows ≡ true → filter p rows ≡ rows
filter_none p x [] all below = refl
filter_none p x (e ∷ rows) all below =
    let parts = and_parts (is_lt (key_cmp x e.0)) (below_all key_cmp x rows) below in
    ap (λ b. cond b (e ∷ filter p rows) (filter p rows)) (all e (lt_less _ parts.0)) ∙ ap (λ rs. e ∷ rs) (filter_none p x rows all parts.1)

above : Key → Entry → Bool
above key e = is_lt (key_cmp key e.0)

-- the first row has the key
pub past_here : (key : Key) (e : Entry) (rows : Rows) → are_rising (e ∷ rows) ≡ true → key_cmp e.0 key ≡ Equal → rows_past key (e ∷ rows) ≡ rows
past_here key e rows rising tie =
    ap (λ b. cond b (e ∷ rows_past key rows) (rows_past key rows)) (ap is_lt (reversed e.0 key Equal tie))
    ∙ filter_none (λ f. is_lt (key_cmp key f.0)) e.0 rows (λ f less. ap is_lt (subst (λ k. key_cmp k f.0 ≡ Less) (key_ties e.0 key tie) less)) (head_below e rows rising)

-- the first row has a key above it
pub past_before : (key : Key) (e : Entry) (rows : Rows) → are_rising (e ∷ rows) ≡ true → IsAtMost key (e ∷ rows) → key_cmp e.0 key ≢ Equal → rows_past key (e ∷ rows) ≡ e ∷ rows
past_before key e rows rising least differ =
    ap (λ b. cond b (e ∷ rows_past key rows) (rows_past key rows)) (ap is_lt lower)
    ∙ ap (λ rs. e ∷ rs) (filter_none (λ f. is_lt (key_cmp key f.0)) e.0 rows (λ f less. ap is_lt (key_total.trans key e.0 f.0 lower less)) (head_below e rows rising)) where
      lower : key_cmp key e.0 ≡ Less
      lower = go (key_cmp key e.0) refl (least e.0 (head_has e rows)) where
        go : (o : Ordering) → key_cmp key e.0 ≡ o → is_le o ≡ true → key_cmp key e.0 ≡ Less
        go Less t le = t
        go Equal t le = absurd (differ (reversed key e.0 Equal t))
        go Greater t le = absurd cc

pub past_rising : (key : Key) (rows : Rows) → are_rising rows ≡ true → are_rising (rows_past key rows) ≡ true
past_rising key rows rising = rising_filter (λ e. is_lt (key_cmp key e.0)) rows rising

-- which keys are left
past_has : (key : Key) (rows : Rows) (k : Key) → has_row (rows_past key rows) k ≡ cond (is_lt (key_cmp key k)) (has_row rows k) false
past_has key rows k = ap is_some (find-where_key key_cmp (λ x. is_lt (key_cmp key x)) k (λ x tie. ap (λ y. is_lt (key_cmp key y)) (sym (key_ties k x tie))) rows) ∙ some_cond (is_lt (key_cmp key k)) (row_of key_cmp k rows) where
  some_cond : (b : Bool) (o : Option Stored) → is_some (cond b o None) ≡ cond b (is_some o) false
  some_cond true o = refl
  some_cond false o = refl

keys_past : (key : Key) (old new : Rows) (k : Key) → has_key (rows_past key old) (rows_past key new) k ≡ cond (is_lt (key_cmp key k)) (has_key old new k) false
keys_past key old new k = ap (λ b. b || has_row (rows_past key new) k) (past_has key old k) ∙ ap (λ b. cond (is_lt (key_cmp key k)) (has_row old k) false || b) (past_has key new k) ∙ or_cond (is_lt (key_cmp key k)) where
  or_cond : (b : Bool) → (cond b (has_row old k) false || cond b (has_row new k) false) ≡ cond b (has_key old new k) false
  or_cond true = refl
  or_cond false = refl

-- fewer rows are left
length_filter : (p : Entry → Bool) (rows : Rows) → length (filter p rows) ≤ length rows
length_filter p [] = omega arith
length_filter p (e ∷ rows) = let rest = length_filter p rows in elim (p e) as (λ b. length (cond b (e ∷ filter p rows) (filter p rows)) ≤ length (e ∷ rows)) [
  | true ↦ omega (arith, rest)
  | false ↦ omega (arith, rest)
]

past_fewer : (key : Key) (rows : Rows) → has_row rows key ≡ true → length (rows_past key rows) < length rows
past_fewer key [] has = absurd (let e = has in cc)
past_fewer key (e ∷ rows) has = go (past_fewer key rows) (eq_by_cmp key_cmp key e.0) refl has where
  go : (has_row rows key ≡ true → length (rows_past key rows) < length rows) → (b : Bool) → eq_by_cmp key_cmp key e.0 ≡ b → is_some (cond b (Some e.1) (row_of key_cmp key rows)) ≡ true → length (rows_past key (e ∷ rows)) < length (e ∷ rows)
  go fewer true t has =
      let skip : rows_past key (e ∷ rows) ≡ rows_past key rows = ap (λ b. cond b (e ∷ rows_past key rows) (rows_past key rows)) (ap is_lt (eq_equal _ t)) in
      let count = ap length skip in
      let most = length_filter (λ f. is_lt (key_cmp key f.0)) rows in
      omega (arith, count, most)
  go fewer false t has = let rest = fewer has in elim (is_lt (key_cmp key e.0)) as (λ b. length (cond b (e ∷ rows_past key rows) (rows_past key rows)) < length (e ∷ rows)) [
    | true ↦ omega (arith, rest)
    | false ↦ omega (arith, rest)
  ]

pub fewer : (key : Key) (old new : Rows) → has_key old new key ≡ true → length (rows_past key old) + length (rows_past key new) < length old + length new
fewer key old new has = go (has_row old key) refl has where
  low : length (rows_past key old) ≤ length old
  low = length_filter (λ e. is_lt (key_cmp key e.0)) old

  high : length (rows_past key new) ≤ length new
  high = length_filter (λ e. is_lt (key_cmp key e.0)) new

  go : (b : Bool) → has_row old key ≡ b → (b || has_row new key) ≡ true → length (rows_past key old) + length (rows_past key new) < length old + length new
  go true t has = (let less = past_fewer key old t in omega (arith, less, high))
  go false t has = (let less = past_fewer key new has in omega (arith, less, low))

-- ---- the list so far

abbrev pub AllBelow : Key → List Entity → Type 0
AllBelow key es = AllByRecursion (λ (e : Entity). key_cmp e.key key ≡ Less) es

-- the list shows what clients see at each key that is passed, and its keys are below those that are left
pub record Tabled (p : Pair) (es : List Entity) (old new : Rows) : Type 0 where
  pub rising : RisingKeys es
  pub old_rising : are_rising old ≡ true
  pub new_rising : are_rising new ≡ true
  pub below : (key : Key) → has_key old new key ≡ true → AllBelow key es
  pub shown : (key : Key) → has_key old new key ≡ false → table_of (rows_of es) key ≡ logical_table p key

-- where neither store has a row, clients see none
none_by : (o : OldState) (n : NewState) → row_by o n None None ≡ None
none_by NoOld NoNew = refl
none_by NoOld AtFilling = refl
none_by NoOld AtUseNew = refl
none_by NoOld BadNew = refl
none_by AtUseOld n = refl
none_by AtPreferOld n = refl
none_by AtPreferNew NoNew = refl
none_by AtPreferNew AtFilling = refl
none_by AtPreferNew AtUseNew = refl
none_by AtPreferNew BadNew = refl
none_by BadOld NoNew = refl
none_by BadOld AtFilling = refl
none_by BadOld AtUseNew = refl
none_by BadOld BadNew = refl

cond_same : {A : Type 0} (b : Bool) (x : A) → cond b x x ≡ x
cond_same true x = refl
cond_same false x = refl

no_row : (o : Option Stored) → is_some o ≡ false → o ≡ None
no_row None e = refl
no_row (Some r) e = absurd (let x = e in cc)

or_neither : (a b : Bool) → (a || b) ≡ false → (a ≡ false) × (b ≡ false)
or_neither true b e = absurd (let x = e in cc)
or_neither false b e = (refl, e)

none_seen : (p : Pair) (key : Key) → has_key p.old.rows p.new.rows key ≡ false → logical p key.pk key.rk ≡ None
none_seen p key has =
    let both = or_neither (has_row p.old.rows key) (has_row p.new.rows key) has in
    let o = old_state_at p key.pk in
    let n = new_state_at p key.pk in
    ap (λ row. cond (bytes_eq key.rk marker_key) None (row_by o n row (new_at p key.pk key.rk))) (no_row (old_at p key.pk key.rk) both.0)
    ∙ ap (λ entry. cond (bytes_eq key.rk marker_key) None (row_by o n None entry)) (no_row (new_at p key.pk key.rk) both.1)
    ∙ ap (λ s. cond (bytes_eq key.rk marker_key) None s) (none_by o n)
    ∙ cond_same (bytes_eq key.rk marker_key) None

no_keys : RisingKeys []
unfolding IsStrictlySortedBy
no_keys = tt

pub tabled_start : (p : Pair) → are_rising p.old.rows ≡ true → are_rising p.new.rows ≡ true → Tabled p [] p.old.rows p.new.rows
tabled_start p low high = record {
  rising = no_keys;
  old_rising = low;
  new_rising = high;
  below = λ key has. tt;
  shown = λ key has. sym (ap (option_map as_row) (none_seen p key has));
}

listed_keys : (es : List Entity) → map (λ (x : Entry). x.0) (rows_of es) ≡ map (λ (e : Entity). e.key) es
listed_keys [] = refl
listed_keys (e ∷ es) = ap (λ ks. e.key ∷ ks) (listed_keys es)

pub tabled_end : (p : Pair) (es : List Entity) (old new : Rows) → Tabled p es old new → IsFirstKey old new None → IsListing es (logical_table p)
tabled_end p es old new h none = record {
  rising = sorted_rising (rows_of es) (subst (IsStrictlySortedBy key_cmp) (sym (listed_keys es)) h.rising);
  rows = λ key. h.shown key (none key);
}

-- ---- one entity more

rising_push : (es : List Entity) (e : Entity) → RisingKeys es → AllBelow e.key es → RisingKeys (es ++ e ∷ [])
unfolding IsStrictlySortedBy
rising_push [] e rising below = (tt, tt)
rising_push (d ∷ es) e rising below = (later es rising.0, rising_push es e rising.1 below.1) where
  later : (xs : List Entity) → AllByRecursion (λ k. key_cmp d.key k ≡ Less) (map (λ (x : Entity). x.key) xs) → AllByRecursion (λ k. key_cmp d.key k ≡ Less) (map (λ (x : Entity). x.key) (xs ++ e ∷ []))
  later [] h = (below.0, tt)
  later (x ∷ xs) h = (h.0, later xs h.1)

below_push : (key : Key) (es : List Entity) (e : Entity) → AllBelow key es → key_cmp e.key key ≡ Less → AllBelow key (es ++ e ∷ [])
below_push key [] e below less = (less, tt)
below_push key (d ∷ es) e below less = (below.0, below_push key es e below.1 less)

-- an entity as what a table has at its key
abbrev stored_of : Entity → Stored
stored_of e = record { props = e.props; tag = e.tag }

-- no entity has a key that they are all below
not_found : (key : Key) (es : List Entity) → AllBelow key es → table_of (rows_of es) key ≡ None
not_found key [] below = refl
not_found key (e ∷ es) below = ap (λ o. cond (is_eq o) (Some (stored_of e)) (table_of (rows_of es) key)) (reversed e.key key Less below.0) ∙ not_found key es below.1

found_new : (key : Key) (es : List Entity) (e : Entity) → AllBelow key es → e.key ≡ key → table_of (rows_of (es ++ e ∷ [])) key ≡ Some (stored_of e)
found_new key [] e below same = ap (λ b. cond b (Some (stored_of e)) None) (subst (λ k. eq_by_cmp key_cmp key k ≡ true) (sym same) (self_found key))
found_new key (d ∷ es) e below same = ap (λ o. cond (is_eq o) (Some (stored_of d)) (table_of (rows_of (es ++ e ∷ [])) key)) (reversed d.key key Less below.0) ∙ found_new key es e below.1 same

found_before : (key : Key) (es : List Entity) (e : Entity) → eq_by_cmp key_cmp key e.key ≡ false → table_of (rows_of (es ++ e ∷ [])) key ≡ table_of (rows_of es) key
found_before key [] e other = ap (λ b. cond b (Some (stored_of e)) None) other
found_before key (d ∷ es) e other = ap (λ o. cond (eq_by_cmp key_cmp key d.key) (Some (stored_of d)) o) (found_before key es e other)

differs : (a b : Key) → a ≢ b → eq_by_cmp key_cmp a b ≡ false
differs a b ne = go (eq_by_cmp key_cmp a b) refl where
  go : (x : Bool) → eq_by_cmp key_cmp a b ≡ x → x ≡ false
  go false t = refl
  go true t = absurd (ne (key_ties a b (eq_equal _ t)))

cond_self : (b : Bool) → cond b true false ≡ b
cond_self true = refl
cond_self false = refl

-- the list after the entity at a key, if clients see one there
pub tabled_more : (p : Pair) (es : List Entity) (old new : Rows) (m : Key) → Tabled p es old new → IsFirstKey old new (Some m) → Tabled p (with_one es (entity_at p m)) (rows_past m old) (rows_past m new)
tabled_more p es old new m h first = go (logical p m.pk m.rk) refl where
  left : (key : Key) → has_key (rows_past m old) (rows_past m new) key ≡ true → (is_lt (key_cmp m key) ≡ true) × (has_key old new key ≡ true)
  left key has = both (is_lt (key_cmp m key)) refl (sym (keys_past m old new key) ∙ has) where
    both : (b : Bool) → is_lt (key_cmp m key) ≡ b → cond b (has_key old new key) false ≡ true → (is_lt (key_cmp m key) ≡ true) × (has_key old new key ≡ true)
    both true t h = (t, h)
    both false t h = absurd (let x = h in cc)

  least : (key : Key) → has_key old new key ≡ true → is_le (key_cmp m key) ≡ true
  least key has = side (has_row old key) refl has where
    side : (b : Bool) → has_row old key ≡ b → (b || has_row new key) ≡ true → is_le (key_cmp m key) ≡ true
    side true t has = first.1 key t
    side false t has = first.2 key has

  -- a key that is not left was not there, or is the one that was taken
  gone : (key : Key) → has_key (rows_past m old) (rows_past m new) key ≡ false → (has_key old new key ≡ false) ⊎ (key ≡ m)
  gone key has = there (has_key old new key) refl where
    taken : (o : Ordering) → key_cmp m key ≡ o → is_le o ≡ true → is_lt o ≡ false → key ≡ m
    taken Less t le upper = absurd (let x = upper in cc)
    taken Equal t le upper = sym (key_ties m key t)
    taken Greater t le upper = absurd (let x = le in cc)

    there : (b : Bool) → has_key old new key ≡ b → (has_key old new key ≡ false) ⊎ (key ≡ m)
    there false t = inl t
    there true t =
        let past : cond (is_lt (key_cmp m key)) true false ≡ false = ap (λ b. cond (is_lt (key_cmp m key)) b false) (sym t) ∙ sym (keys_past m old new key) ∙ has in
        inr (taken (key_cmp m key) refl (least key t) (sym (cond_self (is_lt (key_cmp m key))) ∙ past))

  under : AllBelow m es
  under = h.below m first.0

  apart : (key : Key) → has_key old new key ≡ false → key ≢ m
  apart key none same = (let x : true ≡ false = sym first.0 ∙ ap (has_key old new) (sym same) ∙ none in cc)

  go : (s : Option Shown) → logical p m.pk m.rk ≡ s → Tabled p (with_one es (entity_by m s)) (rows_past m old) (rows_past m new)
  go None seen = record {
    rising = h.rising;
    old_rising = past_rising m old h.old_rising;
    new_rising = past_rising m new h.new_rising;
    below = λ key has. h.below key (left key has).1;
    shown = λ key has. elim (gone key has) as (λ _. table_of (rows_of es) key ≡ logical_table p key) [
      | inl none ↦ h.shown key none
      | inr same ↦ subst (λ k. table_of (rows_of es) k ≡ logical_table p k) (sym same) (not_found m es under ∙ sym (ap (option_map as_row) seen))
    ];
  }
  go (Some s) seen = let e : Entity = record { key = m; props = s.props; tag = s.tag } in record {
    rising = rising_push es e h.rising under;
    old_rising = past_rising m old h.old_rising;
    new_rising = past_rising m new h.new_rising;
    below = λ key has. below_push key es e (h.below key (left key has).1) (lt_less _ (left key has).0);
    shown = λ key has. elim (gone key has) as (λ _. table_of (rows_of (es ++ e ∷ [])) key ≡ logical_table p key) [
      | inl none ↦ found_before key es e (differs key m (apart key none)) ∙ h.shown key none
      | inr same ↦ subst (λ k. table_of (rows_of (es ++ e ∷ [])) k ≡ logical_table p k) (sym same) (found_new m es e under refl ∙ sym (ap (option_map as_row) seen))
    ];
  }
