-- The tags of an answer, filled in by the order in which a store was asked.
use Rattle.std.proofs.Common.{◌≡◌, ◌≢◌, ℕ, zero, suc, ◌+◌, ◌<◌, ◌≤◌, Bool, true, false, cond, ◌||◌, List, [], ◌∷◌, map, length, get_or, drop, refl, sym, ap, subst, ◌∙◌, arith, Option, Some, None, nat_eq}
use Rattle.std.specs.List.{range_with_len, IsDistinct, AllByRecursion, list_any, zip}
use Rattle.std.specs.List.Sorted.{IsPermutation}
use Rattle.std.proofs.Math.ListN.{drop_of_length-le}
use Rattle.std.proofs.lemmas.Bool.{eq-eqb, eqb-true}
use Rattle.std.proofs.lemmas.Map.Keys.{IsDistinct-IsPermutation, IsDistinct-head, IsDistinct-tail, IsDistinct-cons}
use Rattle.std.proofs.lemmas.List.{length-map, ext_get_or, get_or-map, drop_more, length-set, get_or-set_same, get_or-set_other}
use Rattle.std.proofs.lemmas.List.FromFn.{length-range_with_len, get_or-range_with_len, get_or-map-range_with_len, length-map-range_with_len}
use Rattle.std.proofs.lemmas.List.Folds.{list_any_at}
use Rattle.std.proofs.lemmas.List.Sorted.{IsPermutation-map, list_any-IsPermutation}
use Rattle.std.proofs.lemmas.List.Elements.{All-get_or}
use Rattle.mt_model.specs.declared.tag.Tag.{Tag}
use Rattle.mt_chain.specs.declared.row.Stored.{Stored}
use Rattle.mt_chain.specs.declared.op.Op.{Op}
use Rattle.mt_chain.specs.declared.op.Op.TheVariants.{Insert, Replace, Merge, Delete, InsertOrReplace, InsertOrMerge}
use Rattle.mt_chain.specs.declared.op.Cond.TheVariants.{Any}
use Rattle.mt_chain.specs.Rows.{key_at}
use Rattle.mt_chain.specs.Table.{Table}
use Rattle.mt_chain.specs.Effect.{op_key, told_tag, any_tag, cause_on}
use Rattle.mt_chain.specs.Batch.{refusal_of, cause_in, tags_answered, IsReordered}
use Rattle.mt_chain.proofs.Theorems.{none_refuses}
use Rattle.mt_batch_plan.specs.Calls.{AnswersTags}
use Rattle.mt_batch_plan.specs.Plans.{IsOrder, IsPlan, picked, op_or, is_delete, filled}
use Rattle.mt_batch_plan.proofs.OrderLaws.{all_picked, in_order, order_length}

-- ---- filling in

-- the tags with those of the store filled in, in that order
abbrev pub all_filled : List Op → List ℕ → List Tag → List Tag → List Tag
all_filled ops [] given tags = tags
all_filled ops (i ∷ order) [] tags = tags
all_filled ops (i ∷ order) (tag ∷ given) tags = all_filled ops order given (filled (is_delete (op_or ops i)) i tag tags)

-- the tag that stands beside an index
abbrev by_index : List ℕ → List Tag → ℕ → Tag
by_index [] given i = any_tag
by_index (j ∷ order) [] i = any_tag
by_index (j ∷ order) (tag ∷ given) i = cond (nat_eq j i) tag (by_index order given i)

abbrev chosen : Bool → Tag → Tag → Tag
chosen true own given = own
chosen false own given = given

pub length_filled : (b : Bool) (i : ℕ) (tag : Tag) (tags : List Tag) → length (filled b i tag tags) ≡ length tags
length_filled true i tag tags = refl
length_filled false i tag tags = length-set tags i tag

pub length_all_filled : (ops : List Op) (order : List ℕ) (given tags : List Tag) → length (all_filled ops order given tags) ≡ length tags
length_all_filled ops [] given tags = refl
length_all_filled ops (i ∷ order) [] tags = refl
length_all_filled ops (i ∷ order) (tag ∷ given) tags =
    length_all_filled ops order given (filled (is_delete (op_or ops i)) i tag tags) ∙ length_filled (is_delete (op_or ops i)) i tag tags

filled_here : (b : Bool) (i : ℕ) (tag : Tag) (tags : List Tag) (d : Tag) → i < length tags → get_or (filled b i tag tags) i d ≡ chosen b (get_or tags i d) tag
filled_here true i tag tags d inside = refl
filled_here false i tag tags d inside = get_or-set_same tags i tag d inside

not_equal : (a b : ℕ) → nat_eq a b ≡ false → b ≢ a
not_equal a b e same = cc_of (sym (eq-eqb a b (sym same)) ∙ e) where
  cc_of : true ≡ false → ⊥
  cc_of h = cc

filled_elsewhere : (b : Bool) (i j : ℕ) (tag : Tag) (tags : List Tag) (d : Tag) → nat_eq j i ≡ false → get_or (filled b j tag tags) i d ≡ get_or tags i d
filled_elsewhere true i j tag tags d other = refl
filled_elsewhere false i j tag tags d other = get_or-set_other tags j i tag d (not_equal j i other)

-- an index that is not in the order keeps its tag
untouched : (ops : List Op) (order : List ℕ) (given tags : List Tag) (i : ℕ) (d : Tag) → AllByRecursion (λ j. nat_eq j i ≡ false) order → get_or (all_filled ops order given tags) i d ≡ get_or tags i d
untouched ops [] given tags i d h = refl
untouched ops (j ∷ order) [] tags i d h = refl
untouched ops (j ∷ order) (tag ∷ given) tags i d h =
    untouched ops order given (filled (is_delete (op_or ops j)) j tag tags) i d h.1
    ∙ filled_elsewhere (is_delete (op_or ops j)) i j tag tags d h.0

flipped : (a b : ℕ) → nat_eq a b ≡ nat_eq b a
flipped a b = grind arith

all_flipped : (i : ℕ) (order : List ℕ) → AllByRecursion (λ j. nat_eq i j ≡ false) order → AllByRecursion (λ j. nat_eq j i ≡ false) order
all_flipped i [] h = tt
all_flipped i (j ∷ order) h = (flipped j i ∙ h.0, all_flipped i order h.1)

same_number : (a b : ℕ) → nat_eq a b ≡ true → a ≡ b
same_number a b e = eqb-true a b e

-- an index of the order has the tag that stands beside it
touched : (ops : List Op) (order : List ℕ) (given tags : List Tag) (i : ℕ) (d : Tag) → i < length tags → length given ≡ length order → IsDistinct nat_eq order
    → list_any (λ j. nat_eq j i) order ≡ true → get_or (all_filled ops order given tags) i d ≡ chosen (is_delete (op_or ops i)) (get_or tags i d) (by_index order given i)
touched ops [] given tags i d inside even apart there = absurd cc
touched ops (j ∷ order) [] tags i d inside even apart there = absurd (omega (arith, even))
touched ops (j ∷ order) (tag ∷ given) tags i d inside even apart there =
    elim (nat_eq j i) as (λ b. nat_eq j i ≡ b → (b || list_any (λ j. nat_eq j i) order) ≡ true
    → get_or (all_filled ops order given (filled (is_delete (op_or ops j)) j tag tags)) i d ≡ chosen (is_delete (op_or ops i)) (get_or tags i d) (cond b tag (by_index order given i))) [
      | true ↦ λ e h.
          let same : j ≡ i = same_number j i e in
          subst (λ k. get_or (all_filled ops order given (filled (is_delete (op_or ops j)) j tag tags)) k d ≡ chosen (is_delete (op_or ops k)) (get_or tags k d) tag) same
          (untouched ops order given (filled (is_delete (op_or ops j)) j tag tags) j d (all_flipped j order (IsDistinct-head nat_eq j order apart))
          ∙ filled_here (is_delete (op_or ops j)) j tag tags d (subst (λ k. k < length tags) (sym same) inside))
      | false ↦ λ e h.
          touched ops order given (filled (is_delete (op_or ops j)) j tag tags) i d (subst (λ n. i < n) (sym (length_filled (is_delete (op_or ops j)) j tag tags)) inside)
          (omega (arith, even)) (IsDistinct-tail nat_eq j order apart) h
          ∙ ap (λ own. chosen (is_delete (op_or ops i)) own (by_index order given i)) (filled_elsewhere (is_delete (op_or ops j)) i j tag tags d e)
    ] refl there

-- ---- the order has each index once

above : (i a n : ℕ) → i < a → AllByRecursion (λ j. nat_eq i j ≡ false) (range_with_len a n)
above i a zero low = tt
above i a (suc n) low = (grind (arith, low), above i (a + 1) n (omega (arith, low)))

distinct_range : (a n : ℕ) → IsDistinct nat_eq (range_with_len a n)
unfolding IsDistinct
distinct_range a zero = tt
distinct_range a (suc n) = IsDistinct-cons nat_eq a (range_with_len (a + 1) n) (above a (a + 1) n (omega arith)) (distinct_range (a + 1) n)

distinct_indexes : (ops : List Op) (order : List ℕ) → IsOrder ops order → IsDistinct nat_eq order
distinct_indexes ops order h = IsDistinct-IsPermutation nat_eq flipped (range_with_len 0 (length ops)) order h.all (distinct_range 0 (length ops))

has_index : (ops : List Op) (order : List ℕ) (i : ℕ) → IsOrder ops order → i < length ops → list_any (λ j. nat_eq j i) order ≡ true
has_index ops order i h inside =
    sym (list_any-IsPermutation (λ j. nat_eq j i) (range_with_len 0 (length ops)) order h.all)
    ∙ list_any_at (λ j. nat_eq j i) (range_with_len 0 (length ops)) i 0 (rw length-range_with_len inside)
    (eq-eqb (get_or (range_with_len 0 (length ops)) i 0) i (get_or-range_with_len 0 (length ops) i 0 inside ∙ omega arith))

-- ---- the tags by operation

-- the tags beside indexes, of which none is another one
others_by : (j : ℕ) (tag : Tag) (order : List ℕ) (given : List Tag) (is : List ℕ) → AllByRecursion (λ i. nat_eq j i ≡ false) is → map (by_index (j ∷ order) (tag ∷ given)) is ≡ map (by_index order given) is
others_by j tag order given [] h = refl
others_by j tag order given (i ∷ is) h =
    ap (λ b. cond b tag (by_index order given i) ∷ map (by_index (j ∷ order) (tag ∷ given)) is) h.0
    ∙ ap (λ l. by_index order given i ∷ l) (others_by j tag order given is h.1)

all_by : (order : List ℕ) (given : List Tag) → length given ≡ length order → IsDistinct nat_eq order → map (by_index order given) order ≡ given
all_by [] [] even apart = refl
all_by [] (tag ∷ given) even apart = absurd (omega (arith, even))
all_by (j ∷ order) [] even apart = absurd (omega (arith, even))
all_by (j ∷ order) (tag ∷ given) even apart =
    ap (λ b. cond b tag (by_index order given j) ∷ map (by_index (j ∷ order) (tag ∷ given)) order) (eq-eqb j j refl)
    ∙ ap (λ l. tag ∷ l) (others_by j tag order given order (IsDistinct-head nat_eq j order apart) ∙ all_by order given (omega (arith, even)) (IsDistinct-tail nat_eq j order apart))

zip_maps : {X Y Z : Type 0} (f : X → Y) (g : X → Z) (xs : List X) → zip (map f xs) (map g xs) ≡ map (λ x. (f x, g x)) xs
zip_maps f g [] = refl
zip_maps f g (x ∷ xs) = ap (λ l. (f x, g x) ∷ l) (zip_maps f g xs)

answered_maps : (f : ℕ → Op) (g : ℕ → Tag) (table : Table) (xs : List ℕ) → tags_answered (map f xs) (map g xs) table ≡ map (λ i. told_tag (f i) (table (op_key (f i))) (g i)) xs
answered_maps f g table [] = refl
answered_maps f g table (i ∷ xs) = ap (λ l. told_tag (f i) (table (op_key (f i))) (g i) ∷ l) (answered_maps f g table xs)

-- a delete that is accepted is answered the tag of its row, and any other operation the store's
told : (op : Op) (row : Option Stored) (tag : Tag) → cause_on op row ≡ None → chosen (is_delete op) (told_tag op row any_tag) tag ≡ told_tag op row tag
told (Insert key props) row tag e = refl
told (Replace key props c) row tag e = refl
told (Merge key props c) row tag e = refl
told (Delete key c) None tag e = absurd cc
told (Delete key c) (Some row) tag e = refl
told (InsertOrReplace key props) row tag e = refl
told (InsertOrMerge key props) row tag e = refl

abbrev no_op : Op
no_op = Delete (key_at [] []) Any

-- each operation's tag, by its index
abbrev told_at : List Op → Table → List ℕ → List Tag → ℕ → Tag
told_at ops table order given i = told_tag (op_or ops i) (table (op_key (op_or ops i))) (by_index order given i)

filled_told : (ops : List Op) (table : Table) (order : List ℕ) (given before : List Tag) → length given ≡ length order → refusal_of ops table ≡ None → IsPlan ops table order before
    → (i : ℕ) → i < length ops → get_or (all_filled ops order given before) i any_tag ≡ told_at ops table order given i
filled_told ops table order given before even none plan i inside =
    let count : length before ≡ length ops = ap length plan.told ∙ length-map ops (λ op. told_tag op (table (op_key op)) any_tag) in
    let own : get_or before i any_tag ≡ told_tag (op_or ops i) (table (op_key (op_or ops i))) any_tag =
    ap (λ l. get_or l i any_tag) plan.told ∙ get_or-map (λ op. told_tag op (table (op_key op)) any_tag) ops i no_op any_tag inside in
    let accepted : cause_on (op_or ops i) (table (op_key (op_or ops i))) ≡ None = All-get_or (λ op. cause_in table op ≡ None) ops i no_op inside (none_refuses ops table none) in
    touched ops order given before i any_tag (subst (λ n. i < n) (sym count) inside) even (distinct_indexes ops order plan.in_order) (has_index ops order i plan.in_order inside)
    ∙ ap (λ t. chosen (is_delete (op_or ops i)) t (by_index order given i)) own
    ∙ told (op_or ops i) (table (op_key (op_or ops i))) (by_index order given i) accepted

all_told : (ops : List Op) (table : Table) (order : List ℕ) (given before : List Tag) → length given ≡ length order → refusal_of ops table ≡ None → IsPlan ops table order before
    → all_filled ops order given before ≡ map (told_at ops table order given) (range_with_len 0 (length ops))
all_told ops table order given before even none plan =
    let count : length (all_filled ops order given before) ≡ length ops =
    length_all_filled ops order given before ∙ ap length plan.told ∙ length-map ops (λ op. told_tag op (table (op_key op)) any_tag) in
    ext_get_or any_tag (all_filled ops order given before) (map (told_at ops table order given) (range_with_len 0 (length ops)))
    (count ∙ sym (length-map-range_with_len (told_at ops table order given) 0 (length ops)))
    (λ i within.
    let inside : i < length ops = subst (λ n. i < n) count within in
    filled_told ops table order given before even none plan i inside
    ∙ sym (get_or-map-range_with_len (told_at ops table order given) 0 (length ops) i i any_tag inside (omega arith)))

-- the tags by operation are those of the store by its order
by_op_reordered : (ops : List Op) (order : List ℕ) (given : List Tag) → length given ≡ length order → IsOrder ops order
    → IsReordered ops (map (by_index order given) (range_with_len 0 (length ops))) (picked ops order) given
by_op_reordered ops order given even h =
    let by = by_index order given in
    let all : List ℕ = range_with_len 0 (length ops) in
    let here : map (λ i. (op_or ops i, by i)) all ≡ zip ops (map by all) = sym (zip_maps (op_or ops) by all) ∙ ap (λ l. zip l (map by all)) (all_picked ops) in
    let there : map (λ i. (op_or ops i, by i)) order ≡ zip (picked ops order) given =
    sym (zip_maps (op_or ops) by order) ∙ ap (zip (picked ops order)) (all_by order given even (distinct_indexes ops order h)) in (
      length-map-range_with_len by 0 (length ops),
      even ∙ sym (length-map order (op_or ops)),
      subst (λ l. IsPermutation l (zip (picked ops order) given)) here
          (subst (λ l. IsPermutation (map (λ i. (op_or ops i, by i)) all) l) there (IsPermutation-map (λ i. (op_or ops i, by i)) all order h.all)),
    )

pub answers : (ops : List Op) (table : Table) (order : List ℕ) (given before after : List Tag) → length given ≡ length ops + 1 → refusal_of ops table ≡ None → IsPlan ops table order before
    → after ≡ all_filled ops order (drop 1 given) before → AnswersTags ops table given after
answers ops table order [] before after count none plan is = absurd (omega (arith, count))
answers ops table order (first ∷ rest) before after count none plan is =
    let even : length rest ≡ length order = omega (arith, count, order_length ops order plan.in_order) in
    let by = by_index order rest in
    let all : List ℕ = range_with_len 0 (length ops) in
    record {
      first = first;
      rest = rest;
      parts = refl;
      sorted = picked ops order;
      in_order = in_order ops order plan.in_order;
      by_op = map by all;
      each = by_op_reordered ops order rest even plan.in_order;
      answer = is ∙ all_told ops table order rest before even none plan ∙ sym (answered_maps (op_or ops) by table all) ∙ ap (λ l. tags_answered l (map by all) table) (all_picked ops);
    }

-- ---- the loop

-- one more index
pub fill_more : (ops : List Op) (order : List ℕ) (given tags : List Tag) (k i : ℕ) (tag : Tag) → k < length order → i ≡ get_or order k 0 → k + 1 < length given → tag ≡ get_or given (k + 1) any_tag
    → all_filled ops (drop k order) (drop (k + 1) given) tags ≡ all_filled ops (drop (k + 1) order) (drop (k + 1 + 1) given) (filled (is_delete (op_or ops i)) i tag tags)
fill_more ops order given tags k i tag inside is within that =
    ap (λ l. all_filled ops l (drop (k + 1) given) tags) (drop_more order k 0 inside ∙ ap (λ j. j ∷ drop (k + 1) order) (sym is))
    ∙ ap (λ l. all_filled ops (i ∷ drop (k + 1) order) l tags) (drop_more given (k + 1) any_tag within ∙ ap (λ t. t ∷ drop (k + 1 + 1) given) (sym that))

-- no index is left
pub fill_ends : (ops : List Op) (order : List ℕ) (given tags : List Tag) (k : ℕ) → length order ≤ k → all_filled ops (drop k order) given tags ≡ tags
fill_ends ops order given tags k past = ap (λ l. all_filled ops l given tags) (drop_of_length-le order past)

pub fill_keeps : (ops : List Op) (order : List ℕ) (given tags after : List Tag) (k i : ℕ) (tag : Tag) (op : Op) (all : List Tag) → k < length order → i ≡ get_or order k 0 → k + 1 < length given → tag ≡ get_or given (k + 1) any_tag
    → op ≡ op_or ops i → after ≡ filled (is_delete op) i tag tags → all_filled ops (drop k order) (drop (k + 1) given) tags ≡ all
    → all_filled ops (drop (k + 1) order) (drop (k + 1 + 1) given) after ≡ all
fill_keeps ops order given tags after k i tag op all inside is within that named made before =
    ap (all_filled ops (drop (k + 1) order) (drop (k + 1 + 1) given)) (made ∙ ap (λ o. filled (is_delete o) i tag tags) named)
    ∙ sym (fill_more ops order given tags k i tag inside is within that)
    ∙ before
