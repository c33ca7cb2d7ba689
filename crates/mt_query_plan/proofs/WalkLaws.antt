-- One walk over the rows of old and the entries of new leaves the answer.
use Rattle.std.proofs.Common.{◌≡◌, ℕ, ◌+◌, ◌≤◌, Bool, true, false, cond, ◌&&◌, List, [], ◌∷◌, ◌++◌, length, Option, Some, None, refl, sym, ap, subst, ◌∙◌, arith, inl, inr, bytes_eq, Less, Equal}
use Rattle.std.specs.Prelude.{option_map}
use Rattle.std.specs.Option.{option_or}
use Rattle.std.proofs.lemmas.Bool.{or_cases, and_parts}
use Rattle.std.specs.List.{AllByRecursion}
use Rattle.std.specs.Ordering.{is_lt, eq_by_cmp, ordering_then}
use Rattle.std.specs.Cmp.{tied_itself}
use Rattle.std.specs.Cmp.Lexicographic.{nat_list_cmp_total}
use Rattle.std.specs.FinMap.Entries.{find, below_all}
use Rattle.mt_model.specs.declared.key.Key.{Key}
use Rattle.mt_model.specs.declared.entity.Entity.{Entity}
use Rattle.mt_model.specs.Key.{key_cmp}
use Rattle.mt_filter.specs.declared.filter.Filter.{Filter}
use Rattle.mt_chain.specs.declared.row.Stored.{Stored}
use Rattle.mt_chain.specs.declared.row.StoredRow.{StoredRow}
use Rattle.mt_chain.specs.Rows.{RisingRows, row_in, key_at, are_rising}
use Rattle.mt_chain.specs.Table.{Table, table_of, rows_of}
use Rattle.mt_chain.proofs.KeyLaws.{text_true, text_same, is_tied, key_ties}
use Rattle.mt_chain.proofs.OrderLaws.{eq_equal}
use Rattle.mt_chain.specs.TwoLists.{first_key, first_row, rows_past}
use Rattle.mt_chain.proofs.TextOrder.{text_cmp, or_left, or_right, or_neither}
use Rattle.mt_chain.proofs.TwoLists.{has, left, not_there, IsFirst, is_first, Past, past_rows, at_first, past_in, none_left}
use Rattle.mt_history.specs.Replies.{in_partition, is_matched, kept_if, selected}
use Rattle.mt_meta.specs.declared.marker.NewPhase.{NewPhase}
use Rattle.mt_meta.specs.declared.marker.NewPhase.TheVariants.{Filling, UseNew}
use Rattle.mt_meta.specs.Markers.{marker_key}
use Rattle.mt_query_plan.specs.Answers.{seen_over, read_table, wanted_over, with_key, with_one, IsAnswer}

-- ---- one entity more

both : (a b : Bool) → a ≡ true → b ≡ true → (a && b) ≡ true
both true b ea eb = eb
both false b ea eb = absurd (let x = ea in cc)

below_push : (x : Key) (found : List Entity) (e : Entity) → below_all key_cmp x (rows_of found) ≡ true → key_cmp x e.key ≡ Less → below_all key_cmp x (rows_of (found ++ e ∷ [])) ≡ true
below_push x [] e h less = both (is_lt (key_cmp x e.key)) true (ap is_lt less) refl
below_push x (y ∷ found) e h less =
    let parts = and_parts (is_lt (key_cmp x y.key)) (below_all key_cmp x (rows_of found)) h in
    both (is_lt (key_cmp x y.key)) _ parts.0 (below_push x found e parts.1 less)

rising_push : (found : List Entity) (e : Entity) → are_rising (rows_of found) ≡ true → AllByRecursion (λ (x : Entity). key_cmp x.key e.key ≡ Less) found → are_rising (rows_of (found ++ e ∷ [])) ≡ true
rising_push [] e h all = refl
rising_push (x ∷ found) e h all =
    let parts = and_parts (below_all key_cmp x.key (rows_of found)) (are_rising (rows_of found)) h in
    both (below_all key_cmp x.key (rows_of (found ++ e ∷ []))) _ (below_push x.key found e parts.0 all.0) (rising_push found e parts.1 all.1)

all_push : (P : Entity → Type 0) (found : List Entity) (e : Entity) → AllByRecursion P found → P e → AllByRecursion P (found ++ e ∷ [])
all_push P [] e h p = (p, tt)
all_push P (x ∷ found) e h p = (h.0, all_push P found e h.1 p)

find_push : (found : List Entity) (e : Entity) (key : Key) → find key_cmp key (rows_of (found ++ e ∷ [])) ≡ option_or (find key_cmp key (rows_of found)) (cond (eq_by_cmp key_cmp key e.key) (Some (record { props = e.props; tag = e.tag })) None)
find_push [] e key = refl
find_push (x ∷ found) e key = go (eq_by_cmp key_cmp key x.key) (find_push found e key) where
  go : (b : Bool) → find key_cmp key (rows_of (found ++ e ∷ [])) ≡ option_or (find key_cmp key (rows_of found)) (cond (eq_by_cmp key_cmp key e.key) (Some (record { props = e.props; tag = e.tag })) None)
      → cond b (Some (record { props = x.props; tag = x.tag })) (find key_cmp key (rows_of (found ++ e ∷ []))) ≡ option_or (cond b (Some (record { props = x.props; tag = x.tag })) (find key_cmp key (rows_of found))) (cond (eq_by_cmp key_cmp key e.key) (Some (record { props = e.props; tag = e.tag })) None)
  go true rest = refl
  go false rest = rest

or_none : (o : Option Stored) → option_or o None ≡ o
or_none None = refl
or_none (Some s) = refl

no_choice : (b : Bool) (o : Option Stored) → cond b o o ≡ o
no_choice true o = refl
no_choice false o = refl

-- nothing is seen where no row was read
none_seen : (phase : NewPhase) (rk : List ℕ) → seen_over phase rk None None ≡ None
none_seen Filling rk = no_choice (bytes_eq rk marker_key) None
none_seen UseNew rk = no_choice (bytes_eq rk marker_key) None

module _ (pk : List ℕ) (test : Option Filter) (phase : NewPhase) (rows entries : List StoredRow) where
  abbrev answer_table : Table
  answer_table = selected (in_partition pk) test (read_table phase rows entries)

  -- the key is still to come
  abbrev ahead : List StoredRow → List StoredRow → Key → Bool
  ahead old new key = bytes_eq pk key.pk && left old new key.rk

  -- what was found are the rows of the keys that are not left
  pub record Walked (found : List Entity) (old new : List StoredRow) : Type 0 where
    pub old_rising : RisingRows old
    pub new_rising : RisingRows new
    pub rising : are_rising (rows_of found) ≡ true
    pub below : (rk : List ℕ) → left old new rk ≡ true → AllByRecursion (λ (e : Entity). key_cmp e.key (key_at pk rk) ≡ Less) found
    pub old_rows : (rk : List ℕ) → left old new rk ≡ true → row_in old rk ≡ row_in rows rk
    pub new_rows : (rk : List ℕ) → left old new rk ≡ true → row_in new rk ≡ row_in entries rk
    pub shows : (key : Key) → table_of (rows_of found) key ≡ cond (ahead old new key) None (answer_table key)

  pub walk_start : RisingRows rows → RisingRows entries → Walked [] rows entries
  walk_start a b = record {
    old_rising = a;
    new_rising = b;
    rising = refl;
    below = λ rk h. tt;
    old_rows = λ rk h. refl;
    new_rows = λ rk h. refl;
    shows = λ key. go key (bytes_eq pk key.pk) (left rows entries key.rk) refl;
  } where
    matched : Key → Stored → Bool
    matched key s = is_matched test key s.props

    go : (key : Key) (p l : Bool) → left rows entries key.rk ≡ l → None ≡ cond (p && l) None (cond p (kept_if (λ s. is_matched test key s.props) (read_table phase rows entries key)) None)
    go key false l e = refl
    go key true true e = refl
    go key true false e =
        let none = or_neither (has key.rk rows) (has key.rk entries) e in
        sym (ap (kept_if (λ s. is_matched test key s.props))
        (ap (λ r. seen_over phase key.rk r (row_in entries key.rk)) (not_there rows key.rk none.0)
        ∙ ap (seen_over phase key.rk None) (not_there entries key.rk none.1)
        ∙ none_seen phase key.rk))

  pub walk_end : (found : List Entity) (old new : List StoredRow) → Walked found old new → first_key old new ≡ None → IsAnswer pk test phase rows entries found
  walk_end found old new w e = record {
    rising = w.rising;
    rows = λ key. w.shows key ∙ ap (λ l. cond (bytes_eq pk key.pk && l) None (answer_table key)) (none_left old new key.rk e) ∙ open_all (bytes_eq pk key.pk) (answer_table key);
  } where
    open_all : (b : Bool) (o : Option Stored) → cond (b && false) None o ≡ o
    open_all true o = refl
    open_all false o = refl

  -- a key less in its partition
  less_key : (m rk : List ℕ) → text_cmp m rk ≡ Less → key_cmp (key_at pk m) (key_at pk rk) ≡ Less
  less_key m rk less = ap (λ o. ordering_then o (text_cmp m rk)) (tied_itself nat_list_cmp_total pk) ∙ less

  -- the row that the table has at a key is the one that is wanted there
  wanted_is : (m : List ℕ) (old new : List StoredRow) → first_row m old ≡ row_in rows m → first_row m new ≡ row_in entries m
      → wanted_over pk test phase m (first_row m old) (first_row m new) ≡ answer_table (key_at pk m)
  wanted_is m old new a b =
      ap (λ r. wanted_over pk test phase m r (first_row m new)) a
      ∙ ap (wanted_over pk test phase m (row_in rows m)) b
      ∙ sym (ap (λ (t : Bool). cond t (wanted_over pk test phase m (row_in rows m) (row_in entries m)) None) (text_same pk))

  found_with : (found : List Entity) (m : List ℕ) (w : Option Stored) (key : Key) → table_of (rows_of (with_one found (option_map (with_key pk m) w))) key
      ≡ option_or (table_of (rows_of found) key) (cond (eq_by_cmp key_cmp key (key_at pk m)) w None)
  found_with found m None key = sym (ap (option_or (table_of (rows_of found) key)) (no_choice (eq_by_cmp key_cmp key (key_at pk m)) None) ∙ or_none (table_of (rows_of found) key))
  found_with found m (Some s) key = find_push found (with_key pk m s) key

  -- one key more
  module _ (found : List Entity) (old new : List StoredRow) (m : List ℕ) (w : Walked found old new) (e : first_key old new ≡ Some m) where
    first : IsFirst old new m
    first = is_first old new m w.old_rising w.new_rising e

    olds : Past m old (rows_past m old)
    olds = past_rows m old w.old_rising first.low

    news : Past m new (rows_past m new)
    news = past_rows m new w.new_rising first.high

    abbrev left_then : List ℕ → Bool
    left_then = left (rows_past m old) (rows_past m new)

    -- what is left then was left, and is past the key
    kept : (rk : List ℕ) → left_then rk ≡ true → (left old new rk ≡ true) × (text_cmp m rk ≡ Less)
    kept rk h = elim (or_cases (has rk (rows_past m old)) (has rk (rows_past m new)) h) as (λ _. (left old new rk ≡ true) × (text_cmp m rk ≡ Less)) [
      | inl o ↦ (let k = olds.kept rk o in (or_left (has rk old) (has rk new) k.0, k.1))
      | inr n ↦ (let k = news.kept rk n in (or_right (has rk old) (has rk new) k.0, k.1))
    ]

    other : (rk : List ℕ) → left_then rk ≡ true → bytes_eq rk m ≡ false
    other rk h = go (bytes_eq rk m) refl where
      go : (b : Bool) → bytes_eq rk m ≡ b → b ≡ false
      go false t = refl
      go true t = absurd (let x : Equal ≡ Less = sym (tied_itself nat_list_cmp_total m) ∙ subst (λ k. text_cmp m k ≡ Less) (text_true rk m t) (kept rk h).1 in cc)

    gone : left_then m ≡ false
    gone = go (left_then m) refl where
      go : (b : Bool) → left_then m ≡ b → b ≡ false
      go false t = refl
      go true t = absurd (let x : Equal ≡ Less = sym (tied_itself nat_list_cmp_total m) ∙ (kept m t).1 in cc)

    -- any other key is left then where it was left
    as_left : (rk : List ℕ) → bytes_eq rk m ≡ false → left_then rk ≡ left old new rk
    as_left rk differs = go (left_then rk) (left old new rk) refl refl where
      was : left old new rk ≡ true → left_then rk ≡ false → rk ≡ m
      was l t = (let none = or_neither (has rk (rows_past m old)) (has rk (rows_past m new)) t in
          elim (or_cases (has rk old) (has rk new) l) as (λ _. rk ≡ m) [
            | inl o ↦ olds.gone rk o none.0
            | inr n ↦ news.gone rk n none.1
          ])

      go : (a b : Bool) → left_then rk ≡ a → left old new rk ≡ b → a ≡ b
      go true true x y = refl
      go false false x y = refl
      go true false x y = absurd (let z : true ≡ false = sym (kept rk x).0 ∙ y in cc)
      go false true x y = absurd (let z : true ≡ false = sym (text_same m) ∙ ap (λ k. bytes_eq k m) (sym (was y x)) ∙ differs in cc)

    shown_then : (o : Option Stored) → o ≡ answer_table (key_at pk m) → (key : Key)
        → table_of (rows_of (with_one found (option_map (with_key pk m) o))) key ≡ cond (ahead (rows_past m old) (rows_past m new) key) None (answer_table key)
    shown_then o is key = go (eq_by_cmp key_cmp key (key_at pk m)) refl where
      here : table_of (rows_of (with_one found (option_map (with_key pk m) o))) (key_at pk m) ≡ cond (ahead (rows_past m old) (rows_past m new) (key_at pk m)) None (answer_table (key_at pk m))
      here =
          found_with found m o (key_at pk m)
          ∙ ap (λ x. option_or x (cond (eq_by_cmp key_cmp (key_at pk m) (key_at pk m)) o None))
          (w.shows (key_at pk m) ∙ ap (λ b. cond (b && left old new m) None (answer_table (key_at pk m))) (text_same pk) ∙ ap (λ b. cond b None (answer_table (key_at pk m))) first.there)
          ∙ ap (λ b. cond b o None) (is_tied (key_at pk m) (key_at pk m) ∙ ap (λ b. b && bytes_eq m m) (text_same pk) ∙ text_same m)
          ∙ is
          ∙ sym (ap (λ b. cond (b && left_then m) None (answer_table (key_at pk m))) (text_same pk) ∙ ap (λ b. cond b None (answer_table (key_at pk m))) gone)

      same : (p : Bool) → bytes_eq pk key.pk ≡ p → eq_by_cmp key_cmp key (key_at pk m) ≡ false → cond (p && left old new key.rk) None (answer_table key) ≡ cond (p && left_then key.rk) None (answer_table key)
      same false t differs = refl
      same true t differs = ap (λ b. cond b None (answer_table key)) (sym (as_left key.rk
          (sym (ap (λ b. b && bytes_eq key.rk m) (ap (bytes_eq key.pk) (text_true pk key.pk t) ∙ text_same key.pk)) ∙ sym (is_tied key (key_at pk m)) ∙ differs)))

      go : (b : Bool) → eq_by_cmp key_cmp key (key_at pk m) ≡ b → table_of (rows_of (with_one found (option_map (with_key pk m) o))) key ≡ cond (ahead (rows_past m old) (rows_past m new) key) None (answer_table key)
      go true t = subst (λ k. table_of (rows_of (with_one found (option_map (with_key pk m) o))) k ≡ cond (ahead (rows_past m old) (rows_past m new) k) None (answer_table k)) (sym (key_ties key (key_at pk m) (eq_equal (key_cmp key (key_at pk m)) t))) here
      go false t =
          found_with found m o key
          ∙ ap (λ b. option_or (table_of (rows_of found) key) (cond b o None)) t
          ∙ or_none (table_of (rows_of found) key)
          ∙ w.shows key
          ∙ same (bytes_eq pk key.pk) refl t

    rising_then : (o : Option Stored) → are_rising (rows_of (with_one found (option_map (with_key pk m) o))) ≡ true
    rising_then None = w.rising
    rising_then (Some s) = rising_push found (with_key pk m s) w.rising (w.below m first.there)

    below_then : (o : Option Stored) (rk : List ℕ) → left_then rk ≡ true → AllByRecursion (λ (x : Entity). key_cmp x.key (key_at pk rk) ≡ Less) (with_one found (option_map (with_key pk m) o))
    below_then None rk h = w.below rk (kept rk h).0
    below_then (Some s) rk h = all_push (λ x. key_cmp x.key (key_at pk rk) ≡ Less) found (with_key pk m s) (w.below rk (kept rk h).0) (less_key m rk (kept rk h).1)

    pub walk_more : Walked (with_one found (option_map (with_key pk m) (wanted_over pk test phase m (first_row m old) (first_row m new)))) (rows_past m old) (rows_past m new)
    walk_more =
        let o = wanted_over pk test phase m (first_row m old) (first_row m new) in
        let is = wanted_is m old new (at_first m old w.old_rising first.low ∙ w.old_rows m first.there) (at_first m new w.new_rising first.high ∙ w.new_rows m first.there) in
        record {
          old_rising = olds.rising;
          new_rising = news.rising;
          rising = rising_then o;
          below = below_then o;
          old_rows = λ rk h. past_in m rk old (other rk h) ∙ w.old_rows rk (kept rk h).0;
          new_rows = λ rk h. past_in m rk new (other rk h) ∙ w.new_rows rk (kept rk h).0;
          shows = shown_then o is;
        }

    -- what is left is less
    pub walk_less : length (rows_past m old) + length (rows_past m new) + 1 ≤ length old + length new
    walk_less = elim (or_cases (has m old) (has m new) first.there) as (λ _. length (rows_past m old) + length (rows_past m new) + 1 ≤ length old + length new) [
      | inl o ↦ (let a = olds.less o in let b = news.fewer in omega (arith, a, b))
      | inr n ↦ (let a = olds.fewer in let b = news.less n in omega (arith, a, b))
    ]
