-- Refusals and effects of batches: the least index, order, and rows that are not named.
use Rattle.std.proofs.Common.{◌≡◌, ℕ, zero, suc, ◌+◌, ◌<◌, Bool, true, false, cond, ◌||◌, List, [], ◌∷◌, map, length, get_or, refl, sym, ap, ◌∙◌, arith, IsTrue, Some, None, Option, is_some, option_map, unwrap_or, Contains}
use Rattle.std.specs.Option.{option_or}
use Rattle.std.specs.Result.{result_err}
use Rattle.std.specs.List.{list_any, find, zip, AllByRecursion, IsDistinct, HoldsAt}
use Rattle.std.specs.List.Sorted.{IsPermutation}
use Rattle.std.specs.Ordering.{eq_by_cmp, is_eq}
use Rattle.std.specs.Cmp.{eq_by_cmp_equiv, tied_itself}
use Rattle.std.proofs.lemmas.List.Sorted.{Contains-permutation, IsPermutation-map, list_any-IsPermutation}
use Rattle.std.proofs.lemmas.Map.Keys.{IsDistinct-IsPermutation}
use Rattle.mt_model.specs.declared.key.Key.{Key}
use Rattle.mt_model.specs.declared.tag.Tag.{Tag}
use Rattle.mt_model.specs.declared.value.Prop.{Prop}
use Rattle.mt_model.specs.Merge.{merged}
use Rattle.mt_model.specs.Key.{key_cmp}
use Rattle.mt_chain.specs.declared.row.Stored.{Stored}
use Rattle.mt_chain.specs.declared.op.Op.{Op}
use Rattle.mt_chain.specs.declared.op.Cause.{Cause}
use Rattle.mt_chain.specs.declared.op.Refusal.{Refusal}
use Rattle.mt_chain.specs.Rows.{Rows, are_rising}
use Rattle.mt_chain.specs.Table.{Table, IsSameTable, table_of}
use Rattle.mt_chain.specs.Effect.{Outcome, op_key, cause_on, writes, merges, unless_refused, limits_cause, any_tag}
use Rattle.mt_chain.specs.Batch.{Tagged, cause_in, refusal_at, refusal_from, names, op_at, unless_refusal, AreApart}
use Rattle.mt_chain.specs.Model.{rows_with, with_rows_left}
use Rattle.mt_chain.proofs.KeyLaws.{key_total, key_ties}
use Rattle.mt_chain.proofs.OrderLaws.{eq_equal}
use Rattle.mt_chain.proofs.ModelLaws.{table_of-rows_with, rising_rows_with}

-- ---- causes

limited : (cause : Option Cause) (a b : Outcome) → result_err a ≡ result_err b → result_err (unless_refused cause a) ≡ result_err (unless_refused cause b)
limited None a b same = same
limited (Some cause) a b same = refl

pub chosen : (met : Bool) (a b c : Outcome) → result_err a ≡ result_err b → result_err (cond met a c) ≡ result_err (cond met b c)
chosen true a b c same = same
chosen false a b c same = refl

pub merged_cause : (own over : List Prop) (tag : Tag) → result_err (merges own over tag) ≡ result_err (merges own over any_tag)
merged_cause own over tag = limited (limits_cause (merged own over)) (writes (merged own over) tag) (writes (merged own over) any_tag) refl

-- ---- refusals

-- the least refusal of operations that are counted from i
abbrev pub LeastFrom : ℕ → List Op → Table → Refusal → Type 0
LeastFrom i ops table r =
    (k : ℕ) × (r.index ≡ i + k) × (k < length ops)
    × HoldsAt (λ op. cause_in table op ≡ Some r.cause) ops k
    × ((j : ℕ) → j < k → HoldsAt (λ op. cause_in table op ≡ None) ops j)

later : (i : ℕ) (op : Op) (ops : List Op) (table : Table) (r : Refusal) → cause_in table op ≡ None → LeastFrom (i + 1) ops table r → LeastFrom i (op ∷ ops) table r
later i op ops table r none rest = (suc rest.0, (let at = rest.1 in omega arith), (let short = rest.2 in omega arith), rest.3, before) where
  before : (j : ℕ) → j < suc rest.0 → HoldsAt (λ op. cause_in table op ≡ None) (op ∷ ops) j
  before zero below d = none
  before (suc j) below d = rest.4 j (omega arith) d

pub least_from : (i : ℕ) (ops : List Op) (table : Table) (r : Refusal) → refusal_from i ops table ≡ Some r → LeastFrom i ops table r
least_from i [] table r h = absurd cc
least_from i (op ∷ ops) table r h =
    elim (cause_in table op) as (λ o. cause_in table op ≡ o → option_or (option_map (refusal_at i) o) (refusal_from (i + 1) ops table) ≡ Some r → LeastFrom i (op ∷ ops) table r) [
      | Some cause ↦ λ e h.
          let is : refusal_at i cause ≡ r = ap (λ o. unwrap_or o r) h in
          (0, (let at = sym (ap (λ x. x.index) is) in omega arith), omega arith, (λ d. e ∙ ap (λ x. Some x.cause) is), λ j below. absurd (omega arith))
      | None ↦ λ e h. later i op ops table r e (least_from (i + 1) ops table r h)
    ] refl h

pub none_from : (i : ℕ) (ops : List Op) (table : Table) → refusal_from i ops table ≡ None → AllByRecursion (λ op. cause_in table op ≡ None) ops
none_from i [] table h = tt
none_from i (op ∷ ops) table h =
    elim (cause_in table op) as (λ o. cause_in table op ≡ o → option_or (option_map (refusal_at i) o) (refusal_from (i + 1) ops table) ≡ None → AllByRecursion (λ op. cause_in table op ≡ None) (op ∷ ops)) [
      | Some cause ↦ λ e h. absurd cc
      | None ↦ λ e h. (e, none_from (i + 1) ops table h)
    ] refl h

pub refuses_any : (i : ℕ) (ops : List Op) (table : Table) → is_some (refusal_from i ops table) ≡ list_any (λ op. is_some (cause_in table op)) ops
refuses_any i [] table = refl
refuses_any i (op ∷ ops) table =
    elim (cause_in table op) as (λ o. is_some (option_or (option_map (refusal_at i) o) (refusal_from (i + 1) ops table)) ≡ (is_some o || list_any (λ op. is_some (cause_in table op)) ops)) [
      | Some cause ↦ refl
      | None ↦ refuses_any (i + 1) ops table
    ]

pub same_from : (i : ℕ) (ops : List Op) (t u : Table) → AllByRecursion (λ op. t (op_key op) ≡ u (op_key op)) ops → refusal_from i ops t ≡ refusal_from i ops u
same_from i [] t u h = refl
same_from i (op ∷ ops) t u h =
    ap (λ row. option_or (option_map (refusal_at i) (cause_on op row)) (refusal_from (i + 1) ops t)) h.0
    ∙ ap (option_or (option_map (refusal_at i) (cause_in u op))) (same_from (i + 1) ops t u h.1)

-- ---- the operation of a key

abbrev Apart : List Tagged → Type 0
Apart xs = IsDistinct (eq_by_cmp key_cmp) (map (λ o. op_key o.0) xs)

names_itself : (op : Op) → names (op_key op) op ≡ true
names_itself op = ap is_eq (tied_itself key_total (op_key op))

differs_at : (key : Key) (xs : List Tagged) (k : ℕ) (d : Tagged) → AllByRecursion (λ y. eq_by_cmp key_cmp key y ≡ false) (map (λ o. op_key o.0) xs) → k < length xs → eq_by_cmp key_cmp key (op_key (get_or xs k d).0) ≡ false
differs_at key [] k d h below = absurd (omega arith)
differs_at key (x ∷ xs) zero d h below = h.0
differs_at key (x ∷ xs) (suc k) d h below = differs_at key xs k d h.1 (omega arith)

pub find_alone : (xs : List Tagged) (o : Tagged) (k : ℕ) → Apart xs → k < length xs → get_or xs k o ≡ o → op_at xs (op_key o.0) ≡ Some o
unfolding IsDistinct
find_alone [] o k apart below is = absurd (omega arith)
find_alone (x ∷ xs) o zero apart below is = ap (λ (y : Tagged). op_at (x ∷ xs) (op_key y.0)) (sym is) ∙ ap (λ b. cond b (Some x) (op_at xs (op_key x.0))) (names_itself x.0) ∙ ap Some is
find_alone (x ∷ xs) o (suc k) apart below is =
    let other : names (op_key o.0) x.0 ≡ false = sym (ap (λ (y : Tagged). eq_by_cmp key_cmp (op_key x.0) (op_key y.0)) is) ∙ differs_at (op_key x.0) xs k o apart.0 (omega arith) in
    ap (λ b. cond b (Some x) (op_at xs (op_key o.0))) other ∙ find_alone xs o k apart.1 (omega arith) is

find_passes : (p : Tagged → Bool) (xs : List Tagged) (o : Tagged) → find p xs ≡ Some o → Contains xs o × (p o ≡ true)
find_passes p [] o h = absurd cc
find_passes p (x ∷ xs) o h =
    elim (p x) as (λ b. p x ≡ b → cond b (Some x) (find p xs) ≡ Some o → Contains (x ∷ xs) o × (p o ≡ true)) [
      | true ↦ λ e h. let is : x ≡ o = ap (λ r. unwrap_or r o) h in ((0, omega arith, is), sym (ap p is) ∙ e)
      | false ↦ λ e h. let rest = find_passes p xs o h in ((suc rest.0.0, (let below = rest.0.1 in omega arith), rest.0.2), rest.1)
    ] refl h

find_none : (p : Tagged → Bool) (xs : List Tagged) → list_any p xs ≡ false → find p xs ≡ None
find_none p [] h = refl
find_none p (x ∷ xs) h =
    elim (p x) as (λ b. (b || list_any p xs) ≡ false → cond b (Some x) (find p xs) ≡ None) [
      | true ↦ λ h. absurd cc
      | false ↦ λ h. find_none p xs h
    ] h

none_passes : (p : Tagged → Bool) (xs : List Tagged) → find p xs ≡ None → list_any p xs ≡ false
none_passes p [] h = refl
none_passes p (x ∷ xs) h =
    elim (p x) as (λ b. cond b (Some x) (find p xs) ≡ None → (b || list_any p xs) ≡ false) [
      | true ↦ λ h. absurd cc
      | false ↦ λ h. none_passes p xs h
    ] h

apart_reordered : (xs ys : List Tagged) → Apart xs → IsPermutation xs ys → Apart ys
apart_reordered xs ys apart same =
    IsDistinct-IsPermutation (eq_by_cmp key_cmp) (eq_by_cmp_equiv key_total).symm (map (λ o. op_key o.0) xs) (map (λ o. op_key o.0) ys) (IsPermutation-map (λ (o : Tagged). op_key o.0) xs ys same) apart

pub same_op_at : (xs ys : List Tagged) (key : Key) → Apart xs → IsPermutation xs ys → op_at ys key ≡ op_at xs key
same_op_at xs ys key apart same = go (op_at xs key) refl where
  go : (r : Option Tagged) → op_at xs key ≡ r → op_at ys key ≡ r
  go (Some o) e =
      let both = find_passes (λ x. names key x.0) xs o e in
      let there = Contains-permutation xs ys o same both.0 in
      let is : op_key o.0 ≡ key = key_ties (op_key o.0) key (eq_equal _ both.1) in
      ap (op_at ys) (sym is) ∙ find_alone ys o there.0 (apart_reordered xs ys apart same) there.1 there.2
  go None e = find_none (λ x. names key x.0) ys (sym (list_any-IsPermutation (λ x. names key x.0) xs ys same) ∙ none_passes (λ x. names key x.0) xs e)

-- ---- batches

pub firsts : (ops : List Op) (tags : List Tag) → length tags ≡ length ops → map (λ (o : Tagged). o.0) (zip ops tags) ≡ ops
firsts [] tags h = refl
firsts (op ∷ ops) [] h = absurd (omega arith)
firsts (op ∷ ops) (tag ∷ tags) h = ap (λ os. op ∷ os) (firsts ops tags (omega arith))

pub first_keys : (ops : List Op) (tags : List Tag) → AreApart ops → Apart (zip ops tags)
unfolding IsDistinct
first_keys [] tags h = tt
first_keys (op ∷ ops) [] h = tt
first_keys (op ∷ ops) (tag ∷ tags) h = (some_keys (op_key op) ops tags h.0, first_keys ops tags h.1) where
  some_keys : (key : Key) (ops : List Op) (tags : List Tag) → AllByRecursion (λ y. eq_by_cmp key_cmp key y ≡ false) (map op_key ops) → AllByRecursion (λ y. eq_by_cmp key_cmp key y ≡ false) (map (λ (o : Tagged). op_key o.0) (zip ops tags))
  some_keys key [] tags h = tt
  some_keys key (op ∷ ops) [] h = tt
  some_keys key (op ∷ ops) (tag ∷ tags) h = (h.0, some_keys key ops tags h.1)

pub unnamed_at : (ops : List Op) (tags : List Tag) (key : Key) → list_any (names key) ops ≡ false → op_at (zip ops tags) key ≡ None
unnamed_at [] tags key h = refl
unnamed_at (op ∷ ops) [] key h = refl
unnamed_at (op ∷ ops) (tag ∷ tags) key h =
    elim (names key op) as (λ b. (b || list_any (names key) ops) ≡ false → cond b (Some (op, tag)) (op_at (zip ops tags) key) ≡ None) [
      | true ↦ λ h. absurd cc
      | false ↦ λ h. unnamed_at ops tags key h
    ] h

pub by_refusal : (a b : Option Refusal) (applied other table : Table) → is_some a ≡ is_some b → IsSameTable applied other → IsSameTable (unless_refusal a applied table) (unless_refusal b other table)
by_refusal None None applied other table e same key = same key
by_refusal None (Some y) applied other table e same key = absurd cc
by_refusal (Some x) None applied other table e same key = absurd cc
by_refusal (Some x) (Some y) applied other table e same key = refl

pub unless_same : (r : Option Refusal) (applied table : Table) (key : Key) → applied key ≡ table key → unless_refusal r applied table key ≡ table key
unless_same None applied table key same = same
unless_same (Some r) applied table key same = refl

-- ---- finite tables

abbrev pub all_rows : List Op → List (Option Stored) → Rows → Rows
all_rows (op ∷ ops) (row ∷ left) rows = rows_with (all_rows ops left rows) (op_key op) row
all_rows ops left rows = rows

pub all_rising : (ops : List Op) (left : List (Option Stored)) (rows : Rows) → IsTrue (are_rising rows) → IsTrue (are_rising (all_rows ops left rows))
all_rising [] left rows h = h
all_rising (op ∷ ops) [] rows h = h
all_rising (op ∷ ops) (row ∷ left) rows h = rising_rows_with (all_rows ops left rows) (op_key op) row (all_rising ops left rows h)

pub all_left : (ops : List Op) (left : List (Option Stored)) (rows : Rows) → IsSameTable (table_of (all_rows ops left rows)) (with_rows_left ops left (table_of rows))
all_left [] left rows key = refl
all_left (op ∷ ops) [] rows key = refl
all_left (op ∷ ops) (row ∷ left) rows key =
    table_of-rows_with (all_rows ops left rows) (op_key op) row key
    ∙ ap (λ r. cond (eq_by_cmp key_cmp (op_key op) key) row r) (all_left ops left rows key)
