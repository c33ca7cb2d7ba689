-- Operations that stand one after the other in one partition, on distinct rows.
use Rattle.std.proofs.Common.{◌≡◌, ℕ, ◌+◌, ◌<◌, ◌≤◌, Bool, true, false, cond, ◌||◌, ◌&&◌, not, List, [], ◌∷◌, ◌++◌, map, length, get_or, take, drop, refl, sym, ap, ◌∙◌, arith, bytes_eq, Some, None, Option, All}
use Rattle.std.proofs.lemmas.List.{take_more}
use Rattle.std.proofs.lemmas.List.Folds.{list_any-append}
use Rattle.std.proofs.lemmas.List.Elements.{All-from_recursion}
use Rattle.std.proofs.Math.Seq.{drop-cons}
use Rattle.std.proofs.Math.Numerals.{add-one}
use Rattle.std.specs.List.{list_any, AllByRecursion, IsDistinct}
use Rattle.std.specs.Option.{option_or}
use Rattle.std.specs.Ordering.{nat_cmp, is_eq, eq_by_cmp}
use Rattle.std.specs.Cmp.Lexicographic.{slice_cmp, texts_ties, nat_list_eq_equiv}
use Rattle.mt_model.specs.declared.key.Key.{Key}
use Rattle.mt_model.specs.Key.{key_cmp}
use Rattle.mt_chain.specs.declared.op.Op.{Op}
use Rattle.mt_chain.specs.Effect.{op_key}
use Rattle.mt_chain.specs.Batch.{names, batch_size, AreApart}
use Rattle.mt_chain.proofs.KeyLaws.{is_tied, text_true, text_same}
use Rattle.mt_rules.specs.declared.batch.BatchFault.{BatchFault}
use Rattle.mt_rules.specs.declared.batch.BatchFault.TheVariants.{OtherPartition, Twice}
use Rattle.mt_rules.specs.Batches.{MayAsk, IsBatch, partition_of, count_fault, size_fault, place_fault, places_fault, batch_fault}

-- an operation names that row key
abbrev pub has_row : List ℕ → List Op → Bool
has_row rk ops = list_any (λ o. bytes_eq rk (op_key o).rk) ops

-- all are of that partition
abbrev pub AreOf : List ℕ → List Op → Type 0
AreOf pk ops = AllByRecursion (λ o. (op_key o).pk ≡ pk) ops

-- none names a row that an earlier one names
abbrev pub AreNew : List Op → List Op → Type 0
AreNew earlier ops = AllByRecursion (λ o. list_any (names (op_key o)) earlier ≡ false) ops

-- ---- one more row seen

either : (b was t : Bool) → t ≡ b → cond b true was ≡ (was || (t || false))
either true true t e = refl
either true false t e = rw e refl
either false true t e = refl
either false false t e = rw e refl

pub seen_step : (ops : List Op) (i : ℕ) (op : Op) (rk n : List ℕ) (was now : Bool) → i < length ops → op ≡ get_or ops i op → rk ≡ (op_key op).rk
    → now ≡ cond (is_eq (slice_cmp nat_cmp rk n)) true was → was ≡ has_row n (take i ops) → now ≡ has_row n (take (i + 1) ops)
seen_step ops i op rk n was now h e named step old =
    let same : bytes_eq n (op_key op).rk ≡ is_eq (slice_cmp nat_cmp rk n) = nat_list_eq_equiv.symm n (op_key op).rk ∙ texts_ties (op_key op).rk n ∙ ap (λ r. is_eq (slice_cmp nat_cmp r n)) (sym named) in
    let more : has_row n (take (i + 1) ops) ≡ (has_row n (take i ops) || (bytes_eq n (op_key op).rk || false)) =
    rw (take_more ops i op h, ← e) (list_any-append (λ (o : Op). bytes_eq n (op_key o).rk) (take i ops) (op ∷ [])) in
    step ∙ (rw old (either (is_eq (slice_cmp nat_cmp rk n)) (has_row n (take i ops)) (bytes_eq n (op_key op).rk) same)) ∙ sym more

of_more : (pk : List ℕ) (xs : List Op) (op : Op) → AreOf pk xs → (op_key op).pk ≡ pk → AreOf pk (xs ++ op ∷ [])
of_more pk [] op h e = (e, tt)
of_more pk (x ∷ xs) op h e = (h.0, of_more pk xs op h.1 e)

pub of_step : (pk : List ℕ) (ops : List Op) (i : ℕ) (op : Op) → i < length ops → op ≡ get_or ops i op → AreOf pk (take i ops) → (op_key op).pk ≡ pk → AreOf pk (take (i + 1) ops)
of_step pk ops i op h e old same = rw (take_more ops i op h, ← e) (of_more pk (take i ops) op old same)

-- in one partition a row is named by its row key
pub by_row_key : (key : Key) (pk : List ℕ) (earlier : List Op) → key.pk ≡ pk → AreOf pk earlier → list_any (names key) earlier ≡ has_row key.rk earlier
by_row_key key pk [] same h = refl
by_row_key key pk (o ∷ earlier) same h =
    let here : names key o ≡ bytes_eq key.rk (op_key o).rk =
    is_tied (op_key o) key
    ∙ ap (λ x. bytes_eq x key.pk && bytes_eq (op_key o).rk key.rk) (h.0 ∙ sym same)
    ∙ ap (λ b. b && bytes_eq (op_key o).rk key.rk) (text_same key.pk)
    ∙ nat_list_eq_equiv.symm (op_key o).rk key.rk in
    ap (λ b. b || list_any (names key) earlier) here ∙ ap (λ b. bytes_eq key.rk (op_key o).rk || b) (by_row_key key pk earlier same h.1)

-- ---- the first fault of place

pub left_step : (pk : List ℕ) (ops : List Op) (i : ℕ) (op : Op) → i < length ops → op ≡ get_or ops i op → place_fault pk (take i ops) i op ≡ None
    → places_fault pk (take (i + 1) ops) (i + 1) (drop (i + 1) ops) ≡ places_fault pk (take i ops) i (drop i ops)
left_step pk ops i op h e none = rw (take_more ops i op h, drop-cons ops i op h, ← e, none, add-one) refl

pub here_step : (pk : List ℕ) (ops : List Op) (i : ℕ) (op : Op) (fault : BatchFault) → i < length ops → op ≡ get_or ops i op → place_fault pk (take i ops) i op ≡ Some fault
    → places_fault pk (take i ops) i (drop i ops) ≡ Some fault
here_step pk ops i op fault h e is = rw (drop-cons ops i op h, ← e, is) refl

pub other_place : (pk : List ℕ) (earlier : List Op) (i : ℕ) (op : Op) → bytes_eq (op_key op).pk pk ≡ false → place_fault pk earlier i op ≡ Some (OtherPartition i)
other_place pk earlier i op e = rw e refl

pub twice_place : (pk : List ℕ) (earlier : List Op) (i : ℕ) (op : Op) → (op_key op).pk ≡ pk → AreOf pk earlier → has_row (op_key op).rk earlier ≡ true → place_fault pk earlier i op ≡ Some (Twice i)
twice_place pk earlier i op same one seen =
    let e : bytes_eq (op_key op).pk pk ≡ true = ap (λ x. bytes_eq (op_key op).pk x) (sym same) ∙ text_same (op_key op).pk in
    let twice : list_any (names (op_key op)) earlier ≡ true = by_row_key (op_key op) pk earlier same one ∙ seen in
    rw (e, twice) refl

pub no_place : (pk : List ℕ) (earlier : List Op) (i : ℕ) (op : Op) → (op_key op).pk ≡ pk → AreOf pk earlier → has_row (op_key op).rk earlier ≡ false → place_fault pk earlier i op ≡ None
no_place pk earlier i op same one seen =
    let e : bytes_eq (op_key op).pk pk ≡ true = ap (λ x. bytes_eq (op_key op).pk x) (sym same) ∙ text_same (op_key op).pk in
    let new : list_any (names (op_key op)) earlier ≡ false = by_row_key (op_key op) pk earlier same one ∙ seen in
    rw (e, new) refl

-- ---- without a fault

both_none : {A : Type 0} (a b : Option A) → option_or a b ≡ None → (a ≡ None) × (b ≡ None)
both_none None b h = (refl, h)
both_none (Some a) b h = absurd cc

split_place : (same twice : Bool) (i : ℕ) → cond (not same) (Some (OtherPartition i)) (cond twice (Some (Twice i)) None) ≡ None → (same ≡ true) × (twice ≡ false)
split_place true true i h = absurd cc
split_place true false i h = (refl, refl)
split_place false twice i h = absurd cc

both_false : (a b : Bool) → (a || (b || false)) ≡ false → (a ≡ false) × (b ≡ false)
both_false true b h = absurd cc
both_false false true h = absurd cc
both_false false false h = (refl, refl)

-- none names the row of the last of the earlier ones
split_new : (op : Op) (earlier ops : List Op) → AreNew (earlier ++ op ∷ []) ops → AllByRecursion (λ y. eq_by_cmp key_cmp (op_key op) y ≡ false) (map op_key ops) × AreNew earlier ops
split_new op earlier [] h = (tt, tt)
split_new op earlier (o ∷ ops) h =
    let rest = split_new op earlier ops h.1 in
    let both = both_false (list_any (names (op_key o)) earlier) (names (op_key o) op) (sym (list_any-append (names (op_key o)) earlier (op ∷ [])) ∙ h.0) in
    ((both.1, rest.0), (both.0, rest.1))

pub placed : (pk : List ℕ) (earlier : List Op) (i : ℕ) (ops : List Op) → places_fault pk earlier i ops ≡ None → AreOf pk ops × AreApart ops × AreNew earlier ops
unfolding IsDistinct
placed pk earlier i [] h = (tt, tt, tt)
placed pk earlier i (op ∷ ops) h =
    let both = both_none (place_fault pk earlier i op) (places_fault pk (earlier ++ op ∷ []) (i + 1) ops) h in
    let here = split_place (bytes_eq (op_key op).pk pk) (list_any (names (op_key op)) earlier) i both.0 in
    let rest = placed pk (earlier ++ op ∷ []) (i + 1) ops both.1 in
    let news = split_new op earlier ops rest.2 in
    ((text_true (op_key op).pk pk here.0, rest.0), (news.0, rest.1), (here.1, news.1))

some_few : (ops : List Op) → count_fault ops ≡ None → (0 < length ops) × (length ops ≤ 100)
some_few [] h = absurd cc
some_few (op ∷ ops) h = (omega arith, grind arith)

within : (ops : List Op) → size_fault ops ≡ None → batch_size ops ≤ 4194304
within ops h = grind arith

pub is_batch : (ops : List Op) → batch_fault ops ≡ None → All MayAsk ops → IsBatch ops
is_batch ops h rules =
    let count = both_none (count_fault ops) (option_or (size_fault ops) (places_fault (partition_of ops) [] 0 ops)) h in
    let size = both_none (size_fault ops) (places_fault (partition_of ops) [] 0 ops) count.1 in
    let places = placed (partition_of ops) [] 0 ops size.1 in
    let number = some_few ops count.0 in
    record {
      some = number.0;
      few = number.1;
      partition = All-from_recursion (λ o. (op_key o).pk ≡ partition_of ops) ops places.0;
      apart = places.1;
      small = within ops size.0;
      rules = rules;
    }

pub not_true : (b : Bool) → not b ≡ true → b ≡ false
not_true true e = cc
not_true false e = refl

pub not_false : (b : Bool) → not b ≡ false → b ≡ true
not_false true e = refl
not_false false e = cc
