-- What a store that tells holds, and what was read of it.
use Rattle.std.proofs.Common.{◌≡◌, ℕ, zero, suc, ◌-◌, ◌^◌, ◌<◌, ◌≤◌, Bool, true, false, cond, not, ◌&&◌, ◌||◌, nat_lt, List, [], ◌∷◌, ◌++◌, map, length, take, filter, option_map, refl, sym, ap, ◌∙◌, subst, arith, bytes_eq, Some, None, Option, Less, Equal, Greater, Ordering, Result, Ok, Err, IfSome}
use Rattle.std.proofs.lemmas.Bool.{and_parts, not-true, ltb-false}
use Rattle.std.proofs.lemmas.List.{append-nil, append_assoc}
use Rattle.std.proofs.lemmas.List.Elements.{recursion_from_All}
use Rattle.std.specs.List.{AllByRecursion}
use Rattle.std.specs.List.Sorted.{IsStrictlySortedBy}
use Rattle.std.specs.Ordering.{is_lt, is_le, is_eq, ordering_reverse}
use Rattle.std.specs.Cmp.Lexicographic.{texts_ties}
use Rattle.std.specs.FinMap.Entries.{where_key}
use Rattle.mt_model.specs.declared.key.Key.{Key}
use Rattle.mt_model.specs.Key.{key_cmp}
use Rattle.mt_chain.specs.declared.row.StoredRow.{StoredRow}
use Rattle.mt_chain.specs.declared.query.RkFrom.{RkFrom}
use Rattle.mt_chain.specs.declared.query.RkFrom.TheVariants as place
use Rattle.mt_chain.specs.declared.query.PkFrom.{PkFrom}
use Rattle.mt_chain.specs.declared.query.PkFrom.TheVariants as start
use Rattle.mt_chain.specs.declared.query.Found.{Found}
use Rattle.mt_chain.specs.declared.query.Next.{Next}
use Rattle.mt_chain.specs.Rows.{Rows, key_at, are_rising, is_from, is_past, shown, has_partition, last_key}
use Rattle.mt_chain.specs.Places.{is_before, is_passed}
use Rattle.mt_chain.specs.StoreCall.{Contents, IsContents, CanQuery, FitsQuery, IsFound, IsNext}
use Rattle.mt_chain.specs.Store.{Store, Onward, Rose, FaultsBy, Counted, Early, Same}
use Rattle.mt_chain.proofs.KeyLaws.{key_total, text_true, text_same}
use Rattle.mt_open.specs.declared.reading.Loaded.{Loaded}
use Rattle.mt_open.specs.declared.reading.ReadFault.{ReadFault}
use Rattle.mt_open.specs.declared.reading.ReadFault.TheVariants.{NoMemory}
use Rattle.mt_open.specs.Reading.{is_failure, Passed, AsBefore, IsRead, ReadsStore, keyed, chunk_query, place_after, keyed_row, ReadsChunk, AllPass, IsReadTo, is_before_in, is_in, ReadUpTo, ReadsPartition, AsksNext, Walked}
use Rattle.mt_open.proofs.ReadingLists.{Entry, weaker, always, filter_none, filter_all, filter_twice, rising_filter, joined, last_of, taken, or_right}
use Rattle.mt_open.proofs.ReadingShape.{text_cmp, turned, from_apart, past_apart, less_by_pk, same_pk, last_is, key_each, shape_more, shape_whole, shape_start}

-- ---- the rows of a chunk

-- the rows of a partition from a place on
abbrev in_chunk : List ℕ → RkFrom → Entry → Bool
in_chunk pk from e = bytes_eq pk e.0.pk && (is_from from e.0.rk && true)

keyed_shown : (pk : List ℕ) (from : RkFrom) (rows : Rows) → keyed pk (map (λ e. shown e.0.rk e.1) (filter (in_chunk pk from) rows)) ≡ filter (in_chunk pk from) rows
keyed_shown pk from [] = refl
keyed_shown pk from (e ∷ rows) = elim (in_chunk pk from e) as (λ b. in_chunk pk from e ≡ b → keyed pk (map (λ e. shown e.0.rk e.1) (cond b (e ∷ filter (in_chunk pk from) rows) (filter (in_chunk pk from) rows))) ≡ cond b (e ∷ filter (in_chunk pk from) rows) (filter (in_chunk pk from) rows)) [
  | true ↦ λ t.
      let same = text_true pk e.0.pk (and_parts (bytes_eq pk e.0.pk) (is_from from e.0.rk && true) t).0 in
      ap (λ p. (key_at p e.0.rk, e.1) ∷ keyed pk (map (λ e. shown e.0.rk e.1) (filter (in_chunk pk from) rows))) same ∙ ap (λ rs. e ∷ rs) (keyed_shown pk from rows)
  | false ↦ λ t. keyed_shown pk from rows
] refl

keyed_take : (pk : List ℕ) (n : ℕ) (rows : List StoredRow) → keyed pk (take n rows) ≡ take n (keyed pk rows)
keyed_take pk zero rows = refl
keyed_take pk (suc n) [] = refl
keyed_take pk (suc n) (r ∷ rows) = ap (λ rs. keyed_row pk r ∷ rs) (keyed_take pk n rows)

-- in a partition no row that a chunk may have lies before one that was read
apart_in : (pk : List ℕ) (from : RkFrom) (e : Entry) → is_before_in pk from e.0 ≡ true → in_chunk pk from e ≡ false
apart_in pk from e h = let parts = and_parts (bytes_eq pk e.0.pk) (not (is_from from e.0.rk)) h in ap (λ t. bytes_eq pk e.0.pk && (t && true)) (not-true _ parts.1) ∙ and_false (bytes_eq pk e.0.pk) where
  and_false : (b : Bool) → (b && false) ≡ false
  and_false true = refl
  and_false false = refl

later_in : (pk : List ℕ) (from : RkFrom) (x y : Entry) → key_cmp x.0 y.0 ≡ Less → in_chunk pk from x ≡ true → is_before_in pk from y.0 ≡ false
later_in pk from x y l h = go (is_before_in pk from y.0) refl where
  go : (b : Bool) → is_before_in pk from y.0 ≡ b → b ≡ false
  go false e = refl
  go true e =
      let of_x = and_parts (bytes_eq pk x.0.pk) (is_from from x.0.rk && true) h in
      let of_y = and_parts (bytes_eq pk y.0.pk) (not (is_from from y.0.rk)) e in
      let same = sym (text_true pk x.0.pk of_x.0) ∙ text_true pk y.0.pk of_y.0 in
      let less = sym (same_pk x.0 y.0 same) ∙ l in
      let more = turned y.0.rk x.0.rk Less (from_apart from y.0.rk x.0.rk of_y.1 (and_parts (is_from from x.0.rk) true of_x.1).0) in
      let no = sym less ∙ more in
      absurd cc

-- all rows of a partition are those before a place and those from it on
whole : (pk : List ℕ) (from : RkFrom) (rows : Rows) → are_rising rows ≡ true → where_key key_cmp (is_before_in pk from) rows ++ filter (in_chunk pk from) rows ≡ where_key key_cmp (is_in pk) rows
whole pk from rows h = joined (λ e. is_before_in pk from e.0) (in_chunk pk from) (λ e. is_in pk e.0) rows h (always _ (λ e. split (bytes_eq pk e.0.pk) (is_from from e.0.rk)) rows) (apart_in pk from) (later_in pk from) where
  split : (a b : Bool) → a ≡ ((a && not b) || (a && (b && true)))
  split true true = refl
  split true false = refl
  split false b = refl

-- the rows of a partition before a place are those before an earlier one, and those from there up to the last before it
part_split : (from : RkFrom) (k rk : List ℕ) → is_from from k ≡ true → not (is_lt (text_cmp k rk)) ≡ (not (is_from from rk) || ((is_from from rk && true) && is_le (text_cmp rk k)))
part_split from k rk g = go (is_from from rk) (text_cmp k rk) refl refl where
  go : (b : Bool) (o : Ordering) → is_from from rk ≡ b → text_cmp k rk ≡ o → not (is_lt o) ≡ (not b || ((b && true) && is_le (text_cmp rk k)))
  go false o eb eo = (let l = turned rk k Less (from_apart from rk k (ap not eb) g) in ap (λ r. not (is_lt r)) (sym eo ∙ l))
  go true Less eb eo = sym (ap is_le (turned k rk Less eo))
  go true Equal eb eo = sym (ap is_le (turned k rk Equal eo))
  go true Greater eb eo = sym (ap is_le (turned k rk Greater eo))

more_split : (pk : List ℕ) (from : RkFrom) (k : List ℕ) (x : Key) (e : Entry) → x ≡ key_at pk k → is_from from k ≡ true → is_before_in pk (place.After k) e.0 ≡ (is_before_in pk from e.0 || (in_chunk pk from e && is_le (key_cmp e.0 x)))
more_split pk from k x e at g = go (bytes_eq pk e.0.pk) refl where
  go : (b : Bool) → bytes_eq pk e.0.pk ≡ b → (b && not (is_lt (text_cmp k e.0.rk))) ≡ ((b && not (is_from from e.0.rk)) || ((b && (is_from from e.0.rk && true)) && is_le (key_cmp e.0 x)))
  go false eb = refl
  go true eb =
      let order : key_cmp e.0 x ≡ text_cmp e.0.rk k = ap (key_cmp e.0) at ∙ same_pk e.0 (key_at pk k) (sym (text_true pk e.0.pk eb)) in
      part_split from k e.0.rk g ∙ ap (λ o. not (is_from from e.0.rk) || ((is_from from e.0.rk && true) && is_le o)) (sym order)

up_to : (pk : List ℕ) (from : RkFrom) (k : List ℕ) (n : ℕ) (rows : Rows) (x : Entry) → are_rising rows ≡ true → is_from from k ≡ true → last_of (take n (filter (in_chunk pk from) rows)) ≡ Some x → x.0 ≡ key_at pk k → where_key key_cmp (is_before_in pk from) rows ++ take n (filter (in_chunk pk from) rows) ≡ where_key key_cmp (is_before_in pk (place.After k)) rows
up_to pk from k n rows x h g last at =
    ap (λ rs. where_key key_cmp (is_before_in pk from) rows ++ rs)
    (taken n (filter (in_chunk pk from) rows) x (rising_filter (in_chunk pk from) rows h) last ∙ filter_twice (in_chunk pk from) (λ e. is_le (key_cmp e.0 x.0)) rows)
    ∙ joined (λ e. is_before_in pk from e.0) (λ e. in_chunk pk from e && is_le (key_cmp e.0 x.0)) (λ e. is_before_in pk (place.After k) e.0) rows h
    (always _ (λ e. more_split pk from k x.0 e at g) rows)
    (λ e b. ap (λ t. t && is_le (key_cmp e.0 x.0)) (apart_in pk from e b))
    (λ a b l t. later_in pk from a b l (and_parts (in_chunk pk from a) (is_le (key_cmp a.0 x.0)) t).0)

-- ---- the answer of a chunk

chunk_rows : (pk : List ℕ) (from : RkFrom) (found : Found) (a : Contents) → IsFound (chunk_query pk from) found a → keyed pk found.rows ≡ take 100 (filter (in_chunk pk from) a.rows)
chunk_rows pk from found a is = ap (keyed pk) is.rows ∙ keyed_take pk 100 (map (λ e. shown e.0.rk e.1) (filter (in_chunk pk from) a.rows)) ∙ ap (take 100) (keyed_shown pk from a.rows)

last_keyed : (pk : List ℕ) (rows : List StoredRow) (k : List ℕ) → last_key rows ≡ Some k → (x : Entry) × (last_of (keyed pk rows) ≡ Some x) × (x.0 ≡ key_at pk k)
last_keyed pk [] k e = absurd cc
last_keyed pk (r ∷ []) k e = ((key_at pk r.rk, record { props = r.props; tag = r.tag }), refl, ap (key_at pk) (let same : r.rk ≡ k = cc in same))
last_keyed pk (r ∷ s ∷ rows) k e = last_keyed pk (s ∷ rows) k e

told_more : (pk : List ℕ) (from : RkFrom) (found : Found) (a : Contents) (k : List ℕ) → are_rising a.rows ≡ true → IsFound (chunk_query pk from) found a → last_key found.rows ≡ Some k → is_from from k ≡ true → where_key key_cmp (is_before_in pk from) a.rows ++ keyed pk found.rows ≡ where_key key_cmp (is_before_in pk (place.After k)) a.rows
told_more pk from found a k h is last g =
    let at = last_keyed pk found.rows k last in
    let rows = chunk_rows pk from found a is in
    ap (λ rs. where_key key_cmp (is_before_in pk from) a.rows ++ rs) rows
    ∙ up_to pk from k 100 a.rows at.0 h g (sym (ap last_of rows) ∙ at.1) at.2

take_all : {X : Type 0} (n : ℕ) (xs : List X) → length xs ≤ n → take n xs ≡ xs
take_all zero [] l = refl
take_all zero (x ∷ xs) l = absurd (omega (arith, l))
take_all (suc n) [] l = refl
take_all (suc n) (x ∷ xs) l = ap (λ ys. x ∷ ys) (take_all n xs (omega (arith, l)))

take_short : {X : Type 0} (n : ℕ) (xs : List X) → nat_lt n (length xs) ≡ false → take n xs ≡ xs
take_short n xs h = take_all n xs (ltb-false n (length xs) h)

take_none : {X : Type 0} (n : ℕ) (xs : List X) → take (suc n) xs ≡ [] → xs ≡ []
take_none n [] h = refl
take_none n (x ∷ xs) h = absurd cc

last_none : (rows : List StoredRow) → last_key rows ≡ None → rows ≡ []
last_none [] e = refl
last_none (r ∷ []) e = absurd cc
last_none (r ∷ s ∷ rows) e = (let none = last_none (s ∷ rows) e in absurd cc)

-- no further place: the rows are all there are
found_all : (pk : List ℕ) (from : RkFrom) (found : Found) (a : Contents) → IsFound (chunk_query pk from) found a → place_after found ≡ None → keyed pk found.rows ≡ filter (in_chunk pk from) a.rows
found_all pk from found a is e = go found.more refl e where
  all : List StoredRow
  all = map (λ e. shown e.0.rk e.1) (filter (in_chunk pk from) a.rows)

  none_mapped : (o : Option (List ℕ)) → option_map place.After o ≡ None → o ≡ None
  none_mapped None e = refl
  none_mapped (Some k) e = absurd cc

  go : (more : Bool) → found.more ≡ more → cond more (option_map place.After (last_key found.rows)) None ≡ None → keyed pk found.rows ≡ filter (in_chunk pk from) a.rows
  go false m e = ap (keyed pk) (is.rows ∙ take_short 100 all (sym is.more ∙ m)) ∙ keyed_shown pk from a.rows
  go true m e =
      let none = last_none found.rows (none_mapped (last_key found.rows) e) in
      let empty = take_none 99 all (sym is.rows ∙ none) in
      ap (keyed pk) (none ∙ sym empty) ∙ keyed_shown pk from a.rows

told_whole : (pk : List ℕ) (from : RkFrom) (found : Found) (a : Contents) → are_rising a.rows ≡ true → IsFound (chunk_query pk from) found a → place_after found ≡ None → where_key key_cmp (is_before_in pk from) a.rows ++ keyed pk found.rows ≡ where_key key_cmp (is_in pk) a.rows
told_whole pk from found a h is e = ap (λ rs. where_key key_cmp (is_before_in pk from) a.rows ++ rs) (found_all pk from found a is e) ∙ whole pk from a.rows h

-- ---- partitions

-- what holds of rows whose partitions are there holds of all
each_there : (P : Entry → Type 0) (rows : Rows) → ((e : Entry) → has_partition rows e.0.pk ≡ true → P e) → AllByRecursion P rows
each_there P [] f = tt
each_there P (e ∷ rows) f = (f e (ap (λ t. t || has_partition rows e.0.pk) (text_same e.0.pk)), each_there P rows (λ d h. f d (or_right (bytes_eq d.0.pk e.0.pk) _ h)))

next_split : (at : PkFrom) (pk a : List ℕ) → is_past at pk ≡ true → (is_past at a ≡ true → is_le (text_cmp pk a) ≡ true) → not (is_lt (text_cmp pk a)) ≡ (not (is_past at a) || bytes_eq pk a)
next_split at pk a past least = go (is_past at a) (text_cmp pk a) refl refl least where
  go : (b : Bool) (o : Ordering) → is_past at a ≡ b → text_cmp pk a ≡ o → (b ≡ true → is_le (text_cmp pk a) ≡ true) → not (is_lt o) ≡ (not b || bytes_eq pk a)
  go false o eb eo f = ap (λ r. not (is_lt r)) (sym eo ∙ turned a pk Less (past_apart at a pk (ap not eb) past))
  go true Less eb eo f = sym (texts_ties pk a ∙ ap is_eq eo)
  go true Equal eb eo f = sym (texts_ties pk a ∙ ap is_eq eo)
  go true Greater eb eo f = (let no = sym (ap is_le eo) ∙ f refl in absurd cc)

next_apart : (at : PkFrom) (pk : List ℕ) → is_past at pk ≡ true → (e : Entry) → is_passed at e.0 ≡ true → is_in pk e.0 ≡ false
next_apart at pk past e h = go (bytes_eq pk e.0.pk) refl where
  go : (b : Bool) → bytes_eq pk e.0.pk ≡ b → b ≡ false
  go false eb = refl
  go true eb = (let is = sym past ∙ ap (is_past at) (text_true pk e.0.pk eb) ∙ not-true _ h in absurd cc)

next_later : (at : PkFrom) (pk : List ℕ) → is_past at pk ≡ true → (x y : Entry) → key_cmp x.0 y.0 ≡ Less → is_in pk x.0 ≡ true → is_passed at y.0 ≡ false
next_later at pk past x y l h = go (is_passed at y.0) refl where
  go : (b : Bool) → is_passed at y.0 ≡ b → b ≡ false
  go false e = refl
  go true e =
      let less = past_apart at y.0.pk pk e past in
      let under = less_by_pk y.0 x.0 (ap (text_cmp y.0.pk) (sym (text_true pk x.0.pk h)) ∙ less) in
      let over = key_total.antisymm y.0 x.0 ∙ ap ordering_reverse l in
      let no = sym under ∙ over in
      absurd cc

told_next : (at : PkFrom) (pk : List ℕ) (rows : Rows) → are_rising rows ≡ true → IsNext at (Some pk) rows → where_key key_cmp (is_passed at) rows ++ where_key key_cmp (is_in pk) rows ≡ where_key key_cmp (is_passed (start.After pk)) rows
told_next at pk rows h next =
    joined (λ e. is_passed at e.0) (λ e. is_in pk e.0) (λ e. is_passed (start.After pk) e.0) rows h
    (each_there _ rows (λ e has. next_split at pk e.0.pk next.0 (λ past. next.2 e.0.pk past has)))
    (next_apart at pk next.0) (next_later at pk next.0)

told_end : (at : PkFrom) (rows : Rows) → IsNext at None rows → where_key key_cmp (is_passed at) rows ≡ rows
told_end at rows none = filter_all (λ e. is_passed at e.0) rows (each_there _ rows (λ e has. go e has (is_past at e.0.pk) refl)) where
  go : (e : Entry) → has_partition rows e.0.pk ≡ true → (b : Bool) → is_past at e.0.pk ≡ b → not b ≡ true
  go e has false eb = refl
  go e has true eb = (let no = sym has ∙ none e.0.pk eb in absurd cc)

none_first : (rows : Rows) → where_key key_cmp (is_passed (start.From [])) rows ≡ []
none_first rows = filter_none (λ e. is_passed (start.From []) e.0) rows (always _ (λ e. go e.0.pk) rows) where
  go : (pk : List ℕ) → not (is_le (text_cmp [] pk)) ≡ false
  go [] = refl
  go (c ∷ pk) = refl

none_in : (pk : List ℕ) (rows : Rows) → where_key key_cmp (is_before_in pk place.Start) rows ≡ []
none_in pk rows = filter_none (λ e. is_before_in pk place.Start e.0) rows (always _ (λ e. and_false (bytes_eq pk e.0.pk)) rows) where
  and_false : (b : Bool) → (b && false) ≡ false
  and_false true = refl
  and_false false = refl

-- ---- telling that may stop

onward_then : (P Q R : Contents → Contents → Type 0) (s t u : Option Contents) → ((a b c : Contents) → u ≡ Some c → P a b → Q b c → R a c) → Onward P s t → Onward Q t u → Onward R s u
onward_then P Q R s t None f p q = tt
onward_then P Q R s None (Some c) f p q = absurd q
onward_then P Q R None (Some b) (Some c) f p q = absurd p
onward_then P Q R (Some a) (Some b) (Some c) f p q = f a b c refl p q

onward_one : (P R : Contents → Contents → Type 0) (s t : Option Contents) → ((a b : Contents) → P a b → R a b) → Onward P s t → Onward R s t
onward_one P R s None f p = tt
onward_one P R None (Some b) f p = absurd p
onward_one P R (Some a) (Some b) f p = f a b p

pub onward_start : (P : Contents → Contents → Type 0) (s : Option Contents) → ((a : Contents) → P a a) → Onward P s s
onward_start P None f = tt
onward_start P (Some a) f = f a

rising_of : (t : Option Contents) (c : Contents) → t ≡ Some c → IfSome t IsContents → are_rising c.rows ≡ true
rising_of (Some d) c e h = subst (λ (x : Contents). are_rising x.rows ≡ true) (let same : d ≡ c = cc in same) h.rising
rising_of None c e h = absurd cc

faults_then : (failed : Bool) (s t u : Store) → t.faults ≡ s.faults → FaultsBy failed t u → FaultsBy failed s u
faults_then true s t u same rose = subst (λ n. Rose n u.faults) same rose
faults_then false s t u same still = still ∙ same

passed_then : (failed : Bool) (s t u : Store) → Passed false s t → Passed failed t u → Passed failed s u
passed_then failed s t u p q = record {
  number = q.number ∙ p.number;
  calls = (let a = p.calls in let b = q.calls in omega arith);
  grew = (let a = p.grew in let b = q.grew in omega arith);
  faults = faults_then failed s t u p.faults q.faults;
}

-- no call yet
none_passed : (s : Store) → Passed false s s
none_passed s = record { number = refl; calls = omega arith; grew = omega arith; faults = refl }

as_before_then : (P : Contents → Contents → Type 0) (s t u : Store) → ((a b : Contents) → P a b → b ≡ a) → Onward P s.told t.told → AsBefore t u → AsBefore s u
as_before_then P s t u same told f = onward_then P Same Same s.told t.told u.told (λ a b c e p q. q ∙ same a b p) told f

-- ---- what a query may ask

pub can_ask : (pk : List ℕ) (from : RkFrom) → CanQuery (chunk_query pk from)
unfolding IsStrictlySortedBy
can_ask pk from = record { few = omega arith; rising = tt; limit = omega arith }

-- ---- a partition, chunk by chunk

pub part_start : (s : Store) (pk : List ℕ) (old : Rows) → AllPass (is_before pk place.Start) old → ReadUpTo s pk old place.Start old s
part_start s pk old all = record {
  passed = none_passed s;
  shape = all;
  told = onward_start (IsReadTo old (is_before_in pk place.Start) old) s.told (λ a. (refl, sym (append-nil old) ∙ ap (λ rs. old ++ rs) (sym (none_in pk a.rows))));
}

place_is : (found : Found) (at : RkFrom) → Some at ≡ place_after found → (k : List ℕ) × (last_key found.rows ≡ Some k) × (at ≡ place.After k)
place_is found at e = go found.more (last_key found.rows) refl e where
  go : (more : Bool) (o : Option (List ℕ)) → last_key found.rows ≡ o → Some at ≡ cond more (option_map place.After o) None → (k : List ℕ) × (last_key found.rows ≡ Some k) × (at ≡ place.After k)
  go false o l e = absurd cc
  go true None l e = absurd cc
  go true (Some k) l e = (k, l, let same : at ≡ place.After k = cc in same)

each_from : (pk : List ℕ) (from : RkFrom) (found : Found) → FitsQuery (chunk_query pk from) found → AllByRecursion (λ (r : StoredRow). is_from from r.rk ≡ true) found.rows
each_from pk from found fits =
    weaker (λ (r : StoredRow). (is_from from r.rk && true) ≡ true) (λ (r : StoredRow). is_from from r.rk ≡ true) (λ r h. (and_parts (is_from from r.rk) true h).0) found.rows
    (recursion_from_All (λ (r : StoredRow). (is_from from r.rk && true) ≡ true) found.rows fits.rows.0)

same_first : (old : Rows) (test : Key → Bool) (rows : Rows) (a b : Contents) → IsReadTo old test rows a b → b ≡ a
same_first old test rows a b p = p.0

-- the rows read so far, and those of a chunk
told_chunk : (old now now' : Rows) (p q : Key → Bool) (pk : List ℕ) (from : RkFrom) (found : Found) (s t u : Option Contents) → now' ≡ now ++ keyed pk found.rows → IfSome u IsContents → ((a : Contents) → are_rising a.rows ≡ true → IsFound (chunk_query pk from) found a → where_key key_cmp p a.rows ++ keyed pk found.rows ≡ where_key key_cmp q a.rows) → Onward (IsReadTo old p now) s t → Onward (λ before after. (after ≡ before) × IsFound (chunk_query pk from) found before) t u → Onward (IsReadTo old q now') s u
told_chunk old now now' p q pk from found s t u is contents law told asked = onward_then (IsReadTo old p now) (λ before after. (after ≡ before) × IsFound (chunk_query pk from) found before) (IsReadTo old q now') s t u step told asked where
  step : (a b c : Contents) → u ≡ Some c → IsReadTo old p now a b → (c ≡ b) × IsFound (chunk_query pk from) found b → IsReadTo old q now' a c
  step a b c e read ask =
      let same = ask.0 ∙ read.0 in
      let rising = subst (λ (x : Contents). are_rising x.rows ≡ true) same (rising_of u c e contents) in
      let here = subst (λ x. IsFound (chunk_query pk from) found x) read.0 ask.1 in
      (same, is ∙ ap (λ rs. rs ++ keyed pk found.rows) read.1 ∙ append_assoc old (where_key key_cmp p a.rows) (keyed pk found.rows) ∙ ap (λ rs. old ++ rs) (law a rising here))

pub part_more : (s t u : Store) (pk : List ℕ) (old : Rows) (from : RkFrom) (now now' : Rows) (at : RkFrom) → ReadUpTo s pk old from now t → ReadsChunk t pk from now (Ok (Some at)) now' u → ReadUpTo s pk old at now' u
part_more s t u pk old from now now' at upto chunk =
    let found = chunk.shows.0 in
    let takes = chunk.shows.1 in
    let place_at = place_is found at takes.goes_on in
    let k = place_at.0 in
    let each = each_from pk from found takes.queried.1 in
    let from_k = last_is (λ rk. is_from from rk ≡ true) found.rows k (key_each (λ rk. is_from from rk ≡ true) found.rows each) place_at.1 in
    subst (λ p. ReadUpTo s pk old p now' u) (sym place_at.2) (record {
      passed = passed_then false s t u upto.passed chunk.passed;
      shape = subst (λ rs. AllPass (is_before pk (place.After k)) rs) (sym takes.rows) (shape_more pk from now found.rows k upto.shape each takes.rising place_at.1);
      told = told_chunk old now now' (is_before_in pk from) (is_before_in pk (place.After k)) pk from found s.told t.told u.told takes.rows takes.counted.contents
          (λ a h is. told_more pk from found a k h is place_at.1 from_k) upto.told takes.queried.2;
    })

pub part_end : (s t u : Store) (pk : List ℕ) (old : Rows) (from : RkFrom) (now now' : Rows) → ReadUpTo s pk old from now t → ReadsChunk t pk from now (Ok None) now' u → ReadsPartition s pk old (Ok tt) now' u
part_end s t u pk old from now now' upto chunk =
    let found = chunk.shows.0 in
    let takes = chunk.shows.1 in
    let each = each_from pk from found takes.queried.1 in
    record {
      passed = passed_then false s t u upto.passed chunk.passed;
      shows = (
        subst (λ rs. AllPass (is_passed (start.After pk)) rs) (sym takes.rows) (shape_whole pk from now found.rows upto.shape each takes.rising),
        told_chunk old now now' (is_before_in pk from) (is_in pk) pk from found s.told t.told u.told takes.rows takes.counted.contents
            (λ a h is. told_whole pk from found a h is (sym takes.goes_on)) upto.told takes.queried.2,
      );
    }

pub part_err : (s t u : Store) (pk : List ℕ) (old : Rows) (from : RkFrom) (now now' : Rows) (fault : ReadFault) → ReadUpTo s pk old from now t → ReadsChunk t pk from now (Err fault) now' u → ReadsPartition s pk old (Err fault) now' u
part_err s t u pk old from now now' fault upto chunk = record {
  passed = passed_then (is_failure fault) s t u upto.passed chunk.passed;
  shows = as_before_then (IsReadTo old (is_before_in pk from) now) s t u (same_first old (is_before_in pk from) now) upto.told chunk.shows;
}

-- after an answer there are fewer calls to come
fewer : (s t u : Store) → Counted s t → Early s → t.calls ≤ u.calls → 2 ^ 62 - u.calls < 2 ^ 62 - s.calls
fewer s t u c early l = (let calls = c.calls in grind arith)

pub part_smaller : (t u : Store) (pk : List ℕ) (from : RkFrom) (now now' : Rows) (place : Option RkFrom) → ReadsChunk t pk from now (Ok place) now' u → 2 ^ 62 - u.calls < 2 ^ 62 - t.calls
part_smaller t u pk from now now' place chunk = let takes = chunk.shows.1 in fewer t u u takes.counted takes.queried.0 (omega arith)

-- ---- the walk over partitions

if_some : {X : Type 0} (P : X → Type 0) (o : Option X) (x : X) → o ≡ Some x → IfSome o P → P x
if_some P (Some y) x e h = subst P (let same : y ≡ x = cc in same) h
if_some P None x e h = absurd cc

-- the rows before a place were read, and the next partition was asked for
abbrev Mid : PkFrom → Rows → Next → Contents → Contents → Type 0
Mid at rows next before after = (after ≡ before) × (rows ≡ where_key key_cmp (is_passed at) before.rows) × IsNext at next.pk before.rows × (next.sealed ≡ before.sealed) × (are_rising before.rows ≡ true)

mid : (s t u : Store) (at : PkFrom) (rows : Rows) (next : Next) → Walked s at rows t → AsksNext t at (Ok next) u → Onward (Mid at rows next) s.told u.told
mid s t u at rows next walked asks = onward_then (IsReadTo [] (is_passed at) rows) (λ before after. (after ≡ before) × IsNext at next.pk before.rows × (next.sealed ≡ before.sealed)) (Mid at rows next) s.told t.told u.told step walked.told asks.shows.1.2 where
  step : (a b c : Contents) → u.told ≡ Some c → IsReadTo [] (is_passed at) rows a b → (c ≡ b) × IsNext at next.pk b.rows × (next.sealed ≡ b.sealed) → Mid at rows next a c
  step a b c e read ask =
      let same = ask.0 ∙ read.0 in (
        same,
        read.1,
        subst (λ (x : Contents). IsNext at next.pk x.rows) read.0 ask.1,
        subst (λ (x : Contents). next.sealed ≡ x.sealed) read.0 ask.2,
        subst (λ (x : Contents). are_rising x.rows ≡ true) same (rising_of u.told c e asks.shows.0.contents),
      )

step : (at : PkFrom) (pk : List ℕ) (rows rows' : Rows) (next : Next) → next.pk ≡ Some pk → {v : Option Contents} → (a b c : Contents) → v ≡ Some c → Mid at rows next a b → IsReadTo rows (is_in pk) rows' b c → IsReadTo [] (is_passed (start.After pk)) rows' a c
step at pk rows rows' next e a b c is m part = (
  part.0 ∙ m.0,
  part.1 ∙ ap (λ (x : Contents). rows ++ where_key key_cmp (is_in pk) x.rows) m.0 ∙ ap (λ rs. rs ++ where_key key_cmp (is_in pk) a.rows) m.1
      ∙ told_next at pk a.rows m.4 (subst (λ o. IsNext at o a.rows) e m.2),
)

finish : (at : PkFrom) (loaded : Loaded) (next : Next) → next.pk ≡ None → loaded.sealed ≡ next.sealed → (a b : Contents) → Mid at loaded.rows next a b → IsRead loaded.rows loaded.sealed a b
finish at loaded next e sealed a b m = (m.0, m.1 ∙ told_end at a.rows (subst (λ o. IsNext at o a.rows) e m.2), sealed ∙ m.3)

rose_by : (s t u : Store) → s.calls ≤ t.calls → Counted t u → Rose s.calls u.calls
rose_by s t u grew counted = (let one = counted.calls in omega (arith, grew, one))

pub walk_start : (s : Store) → Walked s (start.From []) [] s
walk_start s = record {
  passed = none_passed s;
  shape = record { rising = refl; each = tt };
  told = onward_start (IsReadTo [] (is_passed (start.From [])) []) s.told (λ a. (refl, sym (none_first a.rows)));
}

pub walk_shape : (s t u : Store) (at : PkFrom) (rows : Rows) (next : Next) (pk : List ℕ) → Walked s at rows t → AsksNext t at (Ok next) u → next.pk ≡ Some pk → AllPass (is_before pk place.Start) rows
walk_shape s t u at rows next pk walked asks e = shape_start at pk rows walked.shape (if_some (λ pk. is_past at pk ≡ true) next.pk pk e asks.shows.1.1)

pub walk_more : (s t u v : Store) (at : PkFrom) (rows rows' : Rows) (next : Next) (pk : List ℕ) → Walked s at rows t → AsksNext t at (Ok next) u → next.pk ≡ Some pk → ReadsPartition u pk rows (Ok tt) rows' v → Walked s (start.After pk) rows' v
walk_more s t u v at rows rows' next pk walked asks e part = record {
  passed = passed_then false s u v (passed_then false s t u walked.passed asks.passed) part.passed;
  shape = part.shows.0;
  told = onward_then (Mid at rows next) (IsReadTo rows (is_in pk) rows') (IsReadTo [] (is_passed (start.After pk)) rows') s.told u.told v.told (step at pk rows rows' next e) (mid s t u at rows next walked asks) part.shows.1;
}

pub walk_end : (s t u : Store) (at : PkFrom) (loaded : Loaded) (next : Next) → Walked s at loaded.rows t → AsksNext t at (Ok next) u → next.pk ≡ None → loaded.sealed ≡ next.sealed → ReadsStore s (Ok loaded) u
walk_end s t u at loaded next walked asks e sealed = record {
  passed = passed_then false s t u walked.passed asks.passed;
  shows = (
    rose_by s t u walked.passed.calls asks.shows.0,
    onward_one (Mid at loaded.rows next) (IsRead loaded.rows loaded.sealed) s.told u.told (finish at loaded next e sealed) (mid s t u at loaded.rows next walked asks),
    asks.shows.0.contents,
  );
}

pub walk_next_err : (s t u : Store) (at : PkFrom) (rows : Rows) (fault : ReadFault) → Walked s at rows t → AsksNext t at (Err fault) u → ReadsStore s (Err fault) u
walk_next_err s t u at rows fault walked asks = record {
  passed = passed_then (is_failure fault) s t u walked.passed asks.passed;
  shows = as_before_then (IsReadTo [] (is_passed at) rows) s t u (same_first [] (is_passed at) rows) walked.told asks.shows;
}

pub walk_part_err : (s t u v : Store) (at : PkFrom) (rows rows' : Rows) (next : Next) (pk : List ℕ) (fault : ReadFault) → Walked s at rows t → AsksNext t at (Ok next) u → ReadsPartition u pk rows (Err fault) rows' v → ReadsStore s (Err fault) v
walk_part_err s t u v at rows rows' next pk fault walked asks part =
    record {
      passed = passed_then (is_failure fault) s u v (passed_then false s t u walked.passed asks.passed) part.passed;
      shows = as_before_then (Mid at rows next) s u v (λ a b m. m.0) (mid s t u at rows next walked asks) part.shows;
    }

pub walk_smaller : (t u v : Store) (at : PkFrom) (rows rows' : Rows) (next : Next) (pk : List ℕ) (r : Result (Unit {0}) ReadFault) → AsksNext t at (Ok next) u → ReadsPartition u pk rows r rows' v → 2 ^ 62 - v.calls < 2 ^ 62 - t.calls
walk_smaller t u v at rows rows' next pk r asks part = fewer t u v asks.shows.0 asks.shows.1.0 part.passed.calls

pub walk_no_text : (s : Store) → ReadsStore s (Err NoMemory) s
walk_no_text s = record {
  passed = none_passed s;
  shows = onward_start Same s.told (λ a. refl);
}
