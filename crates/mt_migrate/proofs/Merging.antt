-- The walk over the keys of two lists of rows leaves the puts of a chunk.
use Rattle.std.proofs.Common.{◌≡◌, ◌⊎◌, ℕ, ◌+◌, ◌≤◌, Bool, true, false, cond, not, ◌&&◌, ◌||◌, List, [], ◌∷◌, ◌++◌, map, length, Option, Some, None, refl, sym, ap, subst, ◌∙◌, arith, inl, inr, bytes_eq, Less}
use Rattle.std.proofs.lemmas.Bool.{or_cases}
use Rattle.std.proofs.lemmas.Map.Keys.{IsDistinct-cons}
use Rattle.std.specs.List.{AllByRecursion, IsDistinct}
use Rattle.std.specs.List.Sorted.{IsStrictlySortedBy}
use Rattle.std.specs.Ordering.{is_le, is_eq}
use Rattle.std.specs.Cmp.Lexicographic.{texts_ties}
use Rattle.mt_model.specs.declared.value.Prop.{Prop}
use Rattle.mt_chain.specs.declared.row.Put.{Put}
use Rattle.mt_chain.specs.declared.row.Put.TheVariants as put
use Rattle.mt_chain.specs.declared.row.StoredRow.{StoredRow}
use Rattle.mt_chain.specs.Rows.{RisingRows, row_in, is_upto}
use Rattle.mt_chain.specs.Puts.{CanApply, row_key}
use Rattle.mt_chain.proofs.KeyLaws.{text_same, text_false}
use Rattle.mt_chain.specs.TwoLists.{first_key, rows_past}
use Rattle.mt_chain.proofs.TextOrder.{text_cmp, or_left, or_right, or_neither}
use Rattle.mt_chain.proofs.TwoLists.{has, not_there, left, IsFirst, is_first, Past, past_rows}
use Rattle.mt_meta.specs.Markers.{marker_key}
use Rattle.mt_meta.specs.Facts.{is_in}
use Rattle.mt_model.specs.declared.tag.Tag.{Tag}
use Rattle.mt_migrate.specs.declared.chunk.Want.{Want}
use Rattle.mt_migrate.specs.declared.chunk.Want.TheVariants.{Nothing, Insert, Replace, Delete}
use Rattle.mt_migrate.specs.Chunks.{want_of, is_of_chunk, want_at, is_want, wants_put, props_of, put_by, put_at, KeepsTag, IsWanted, ArePuts, with_put}

-- ---- the put that a key wants

put_names : (rk : List ℕ) (ps : List Prop) (w : Want) (p : Put) → put_by rk ps w ≡ Some p → row_key p ≡ rk
put_names rk ps Nothing p e = absurd (let x = e in cc)
put_names rk ps (Insert seen) p e = sym (ap (λ (x : Option Put). elim x as (λ _. List ℕ) [ None ↦ rk | Some y ↦ row_key y ]) e)
put_names rk ps (Replace seen own) p e = sym (ap (λ (x : Option Put). elim x as (λ _. List ℕ) [ None ↦ rk | Some y ↦ row_key y ]) e)
put_names rk ps (Delete own) p e = sym (ap (λ (x : Option Put). elim x as (λ _. List ℕ) [ None ↦ rk | Some y ↦ row_key y ]) e)

made : (rk : List ℕ) (ps : List Prop) (w : Want) → is_want w ≡ true → (p : Put) × (put_by rk ps w ≡ Some p)
made rk ps Nothing h = absurd (let x = h in cc)
made rk ps (Insert seen) h = (_, refl)
made rk ps (Replace seen own) h = (_, refl)
made rk ps (Delete own) h = (_, refl)

pub nothing_wanted : (upto : Option (List ℕ)) (rows entries : List StoredRow) (k : List ℕ) → row_in rows k ≡ None → row_in entries k ≡ None → want_at upto rows entries k ≡ Nothing
nothing_wanted upto rows entries k a b = ap (λ x. cond (is_of_chunk upto k) (want_of x (row_in entries k)) Nothing) a ∙ ap (λ x. cond (is_of_chunk upto k) (want_of None x) Nothing) b ∙ both (is_of_chunk upto k) where
  both : (x : Bool) → cond x Nothing Nothing ≡ Nothing
  both true = refl
  both false = refl

-- ---- the puts so far

abbrev AllBelow : List ℕ → List Put → Type 0
AllBelow k puts = AllByRecursion (λ p. text_cmp (row_key p) k ≡ Less) puts

abbrev RisingPuts : List Put → Type 0
RisingPuts puts = IsStrictlySortedBy text_cmp (map row_key puts)

none_rise : RisingPuts []
unfolding IsStrictlySortedBy
none_rise = tt

rising_more : (puts : List Put) (p : Put) → RisingPuts puts → AllBelow (row_key p) puts → RisingPuts (puts ++ p ∷ [])
unfolding IsStrictlySortedBy
rising_more [] p rising below = (tt, tt)
rising_more (q ∷ puts) p rising below = (later puts rising.0, rising_more puts p rising.1 below.1) where
  later : (ps : List Put) → AllByRecursion (λ k. text_cmp (row_key q) k ≡ Less) (map row_key ps) → AllByRecursion (λ k. text_cmp (row_key q) k ≡ Less) (map row_key (ps ++ p ∷ []))
  later [] h = (below.0, tt)
  later (x ∷ ps) h = (h.0, later ps h.1)

all_more : (P : Put → Type 0) (puts : List Put) (p : Put) → AllByRecursion P puts → P p → AllByRecursion P (puts ++ p ∷ [])
all_more P [] p h x = (x, tt)
all_more P (q ∷ puts) p h x = (h.0, all_more P puts p h.1 x)

in_before : (k : List ℕ) (puts : List Put) (p : Put) → is_in k (map row_key puts) ≡ true → is_in k (map row_key (puts ++ p ∷ [])) ≡ true
in_before k [] p h = absurd (let e = h in cc)
in_before k (q ∷ puts) p h = elim (or_cases (bytes_eq k (row_key q)) (is_in k (map row_key puts)) h) as (λ _. is_in k (map row_key (q ∷ puts ++ p ∷ [])) ≡ true) [
  | inl here ↦ or_left (bytes_eq k (row_key q)) _ here
  | inr there ↦ or_right (bytes_eq k (row_key q)) _ (in_before k puts p there)
]

in_last : (k : List ℕ) (puts : List Put) (p : Put) → row_key p ≡ k → is_in k (map row_key (puts ++ p ∷ [])) ≡ true
in_last k [] p e = or_left (bytes_eq k (row_key p)) false (ap (bytes_eq k) e ∙ text_same k)
in_last k (q ∷ puts) p e = or_right (bytes_eq k (row_key q)) _ (in_last k puts p e)

length_more : (puts : List Put) (p : Put) → length (puts ++ p ∷ []) ≡ length puts + 1
length_more [] p = refl
length_more (q ∷ puts) p = (let rest = length_more puts p in omega (arith, rest))

pub pushed : (first : Put) (puts : List Put) (o : Option Put) → with_put (first ∷ puts) o ≡ first ∷ with_put puts o
pushed first puts None = refl
pushed first puts (Some p) = refl

module _ (upto : Option (List ℕ)) (rows entries : List StoredRow) where
  -- the puts of the keys that are not left
  pub record Merged (puts : List Put) (old new : List StoredRow) : Type 0 where
    pub old_rising : RisingRows old
    pub new_rising : RisingRows new
    pub rising : RisingPuts puts
    pub below : (k : List ℕ) → left old new k ≡ true → AllBelow k puts
    pub each : AllByRecursion (IsWanted upto rows entries) puts
    pub all : (k : List ℕ) → wants_put upto rows entries k ≡ true → left old new k ≡ false → is_in k (map row_key puts) ≡ true
    pub count : length puts + (length old + length new) ≤ length rows + length entries

  pub merge_start : RisingRows rows → RisingRows entries → Merged [] rows entries
  merge_start a b = record {
    old_rising = a;
    new_rising = b;
    rising = none_rise;
    below = λ k h. tt;
    each = tt;
    all = λ k wants h. (let none = or_neither (has k rows) (has k entries) h in
        absurd (let x : false ≡ true = sym (ap is_want (nothing_wanted upto rows entries k (not_there rows k none.0) (not_there entries k none.1))) ∙ wants in cc));
    count = omega arith;
  }

  pub merge_end : (puts : List Put) (old new : List StoredRow) → Merged puts old new → first_key old new ≡ None → ArePuts upto rows entries puts × (length puts ≤ length rows + length entries)
  merge_end puts [] [] h e = (record { rising = h.rising; each = h.each; all = λ k wants. h.all k wants refl }, omega (arith, h.count))
  merge_end puts (r ∷ old) [] h e = absurd (let x = e in cc)
  merge_end puts [] (s ∷ new) h e = absurd (let x = e in cc)
  merge_end puts (r ∷ old) (s ∷ new) h e = absurd (go (is_le (text_cmp r.rk s.rk)) e) where
    go : (x : Bool) → cond x (Some r.rk) (Some s.rk) ≡ None → ⊥
    go true e = cc
    go false e = cc

  pub merge_less : (m : List ℕ) (old new : List StoredRow) → RisingRows old → RisingRows new → first_key old new ≡ Some m → length (rows_past m old) + length (rows_past m new) + 1 ≤ length old + length new
  merge_less m old new a b e =
      let f = is_first old new m a b e in
      let p = past_rows m old a f.low in
      let q = past_rows m new b f.high in
      elim (or_cases (has m old) (has m new) f.there) as (λ _. length (rows_past m old) + length (rows_past m new) + 1 ≤ length old + length new) [
        | inl here ↦ (let x = p.less here in let y = q.fewer in omega (arith, x, y))
        | inr there ↦ (let x = p.fewer in let y = q.less there in omega (arith, x, y))
      ]

  pub merge_more : (puts : List Put) (old new : List StoredRow) (m : List ℕ) → Merged puts old new → first_key old new ≡ Some m → KeepsTag (want_at upto rows entries m)
      → Merged (with_put puts (put_at upto rows entries m)) (rows_past m old) (rows_past m new)
  merge_more puts old new m h e keeps = go (put_at upto rows entries m) refl where
    f : IsFirst old new m
    f = is_first old new m h.old_rising h.new_rising e

    a : Past m old (rows_past m old)
    a = past_rows m old h.old_rising f.low

    b : Past m new (rows_past m new)
    b = past_rows m new h.new_rising f.high

    less : length (rows_past m old) + length (rows_past m new) + 1 ≤ length old + length new
    less = merge_less m old new h.old_rising h.new_rising e

    still : (k : List ℕ) → left (rows_past m old) (rows_past m new) k ≡ true → (left old new k ≡ true) × (text_cmp m k ≡ Less)
    still k there = elim (or_cases (has k (rows_past m old)) (has k (rows_past m new)) there) as (λ _. (left old new k ≡ true) × (text_cmp m k ≡ Less)) [
      | inl x ↦ (or_left (has k old) (has k new) (a.kept k x).0, (a.kept k x).1)
      | inr y ↦ (or_right (has k old) (has k new) (b.kept k y).0, (b.kept k y).1)
    ]

    -- a key that is not left was not, or is the one that was taken
    taken : (k : List ℕ) → left (rows_past m old) (rows_past m new) k ≡ false → (left old new k ≡ false) ⊎ (k ≡ m)
    taken k h = (let none = or_neither (has k (rows_past m old)) (has k (rows_past m new)) h in both (has k old) (has k new) refl refl none.0 none.1) where
      both : (x y : Bool) → has k old ≡ x → has k new ≡ y → has k (rows_past m old) ≡ false → has k (rows_past m new) ≡ false → (left old new k ≡ false) ⊎ (k ≡ m)
      both true y ex ey p q = inr (a.gone k ex p)
      both false true ex ey p q = inr (b.gone k ey q)
      both false false ex ey p q = inl (ap (λ z. z || has k new) ex ∙ ey)

    go : (o : Option Put) → put_at upto rows entries m ≡ o → Merged (with_put puts o) (rows_past m old) (rows_past m new)
    go None is = record {
      old_rising = a.rising;
      new_rising = b.rising;
      rising = h.rising;
      below = λ k there. h.below k (still k there).0;
      each = h.each;
      all = λ k wants out. elim (taken k out) as (λ _. is_in k (map row_key puts) ≡ true) [
        | inl before ↦ h.all k wants before
        | inr same ↦ absurd (let p = made m (props_of (row_in rows m)) (want_at upto rows entries m) (subst (λ x. wants_put upto rows entries x ≡ true) same wants) in let x : None ≡ Some p.0 = sym is ∙ p.1 in cc)
      ];
      count = (let c = h.count in omega (arith, c, less));
    }
    go (Some p) is =
        let named : row_key p ≡ m = put_names m (props_of (row_in rows m)) (want_at upto rows entries m) p is in
        let under : AllBelow (row_key p) puts = subst (λ x. AllBelow x puts) (sym named) (h.below m f.there) in
        record {
          old_rising = a.rising;
          new_rising = b.rising;
          rising = rising_more puts p h.rising under;
          below = λ k there. all_more (λ q. text_cmp (row_key q) k ≡ Less) puts p (h.below k (still k there).0) (subst (λ x. text_cmp x k ≡ Less) (sym named) (still k there).1);
          each = all_more (IsWanted upto rows entries) puts p h.each (subst (λ x. (put_at upto rows entries x ≡ Some p) × KeepsTag (want_at upto rows entries x)) (sym named) (is, keeps));
          all = λ k wants out. elim (taken k out) as (λ _. is_in k (map row_key (puts ++ p ∷ [])) ≡ true) [
            | inl before ↦ in_before k puts p (h.all k wants before)
            | inr same ↦ in_last k puts p (named ∙ sym same)
          ];
          count = (let c = h.count in let n = length_more puts p in omega (arith, c, n, less));
        }

  -- ---- what may be asked

  marker_wants : (rk : List ℕ) → rk ≡ marker_key → want_at upto rows entries rk ≡ Nothing
  marker_wants rk e = ap (λ x. cond (not x && is_upto upto rk) (want_of (row_in rows rk) (row_in entries rk)) Nothing) (ap (λ k. bytes_eq k marker_key) e ∙ text_same marker_key)

  never : (p : Put) → row_key p ≡ marker_key → put_at upto rows entries (row_key p) ≡ Some p → ⊥
  never p e h = (let x : None ≡ Some p = sym (ap (put_by (row_key p) (props_of (row_in rows (row_key p)))) (marker_wants (row_key p) e)) ∙ h in cc)

  -- no put is of the marker
  no_marker : (puts : List Put) → AllByRecursion (IsWanted upto rows entries) puts → AllByRecursion (λ k. bytes_eq marker_key k ≡ false) (map row_key puts)
  no_marker [] h = tt
  no_marker (p ∷ puts) h = (text_false marker_key (row_key p) (λ e. never p (sym e) h.0.0), no_marker puts h.1)

  below_apart : (k : List ℕ) (ks : List (List ℕ)) → AllByRecursion (λ y. text_cmp k y ≡ Less) ks → AllByRecursion (λ y. bytes_eq k y ≡ false) ks
  below_apart k [] h = tt
  below_apart k (y ∷ ks) h = (texts_ties k y ∙ ap is_eq h.0, below_apart k ks h.1)

  rising_apart : (ks : List (List ℕ)) → IsStrictlySortedBy text_cmp ks → IsDistinct bytes_eq ks
  unfolding IsStrictlySortedBy IsDistinct
  rising_apart [] h = tt
  rising_apart (k ∷ ks) h = IsDistinct-cons bytes_eq k ks (below_apart k ks h.0) (rising_apart ks h.1)

  pub can_write : (tag : Tag) (puts : List Put) → ArePuts upto rows entries puts → length puts ≤ 100 → CanApply (put.Check marker_key tag ∷ puts)
  can_write tag puts h few = record {
    some = omega arith;
    few = omega (arith, few);
    apart = IsDistinct-cons bytes_eq marker_key (map row_key puts) (no_marker puts h.each) (rising_apart (map row_key puts) h.rising);
  }
