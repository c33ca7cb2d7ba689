-- The tags of a written batch: those of its puts are fresh and differ, and those of its deletes are of the rows that went.
use Rattle.std.proofs.Common.{◌≡◌, ◌≢◌, ℕ, suc, ◌<◌, ◌≤◌, Bool, true, false, cond, ◌&&◌, nat_eq, eq-eqb, List, [], ◌∷◌, map, filter, length, refl, sym, ap, ◌∙◌, subst, arith, Some, None, Option}
use Rattle.std.specs.Prelude.{option_map}
use Rattle.std.specs.List.{zip, AllByRecursion, AllPairs, IsDistinct}
use Rattle.std.specs.List.Sorted.{IsPermutation}
use Rattle.std.proofs.lemmas.List.Elements.{All-from_recursion, recursion_from_All}
use Rattle.std.proofs.lemmas.List.Sorted.{All-permutation, IsPermutation-sym}
use Rattle.std.proofs.lemmas.List.Kept.{AllPairs-cons}
use Rattle.mt_model.specs.declared.key.Key.{Key}
use Rattle.mt_model.specs.declared.tag.Tag.{Tag}
use Rattle.mt_chain.specs.declared.row.Stored.{Stored}
use Rattle.mt_chain.specs.declared.op.Op.{Op}
use Rattle.mt_chain.specs.declared.op.Op.TheVariants.{Insert, Replace, Merge, Delete, InsertOrReplace, InsertOrMerge}
use Rattle.mt_chain.specs.Table.{Table}
use Rattle.mt_chain.specs.Effect.{op_key, effect, cause_on, left_by, told_tag}
use Rattle.mt_chain.specs.Batch.{Tagged, cause_in, names, op_at, row_after, tags_answered}
use Rattle.mt_history.specs.Legal.{is_write, tags_written, IsGone}

-- ---- the tags that a client is told

-- what comes of an operation is the same with the tag that the client is told
told_effect : (op : Op) (row was : Option Stored) (tag : Tag) → effect op row (told_tag op was tag) ≡ effect op row tag
told_effect (Insert key props) row was tag = refl
told_effect (Replace key props c) row was tag = refl
told_effect (Merge key props c) row was tag = refl
told_effect (Delete key c) None None tag = refl
told_effect (Delete key c) None (Some w) tag = refl
told_effect (Delete key c) (Some r) None tag = refl
told_effect (Delete key c) (Some r) (Some w) tag = refl
told_effect (InsertOrReplace key props) row was tag = refl
told_effect (InsertOrMerge key props) row was tag = refl

pub answered_applied : (ops : List Op) (tags : List Tag) (table : Table) (row : Option Stored) (key : Key)
    → row_after (op_at (zip ops (tags_answered ops tags table)) key) row ≡ row_after (op_at (zip ops tags) key) row
answered_applied [] tags table row key = refl
answered_applied (op ∷ ops) [] table row key = refl
answered_applied (op ∷ ops) (tag ∷ tags) table row key =
    elim (names key op) as (λ b. row_after (cond b (Some (op, told_tag op (table (op_key op)) tag)) (op_at (zip ops (tags_answered ops tags table)) key)) row
    ≡ row_after (cond b (Some (op, tag)) (op_at (zip ops tags) key)) row) [
      | true ↦ ap (λ made. left_by made row) (told_effect op row (table (op_key op)) tag)
      | false ↦ answered_applied ops tags table row key
    ]

-- the tags of the operations that leave rows
abbrev of_writes : List Tagged → List Tag
of_writes xs = map (λ o. o.1) (filter (λ o. is_write o.0) xs)

one_written : (op : Op) (row : Option Stored) (tag : Tag) (xs ys : List Tagged) → of_writes xs ≡ of_writes ys → of_writes ((op, told_tag op row tag) ∷ xs) ≡ of_writes ((op, tag) ∷ ys)
one_written (Insert key props) row tag xs ys same = ap (λ ts. tag ∷ ts) same
one_written (Replace key props c) row tag xs ys same = ap (λ ts. tag ∷ ts) same
one_written (Merge key props c) row tag xs ys same = ap (λ ts. tag ∷ ts) same
one_written (Delete key c) row tag xs ys same = same
one_written (InsertOrReplace key props) row tag xs ys same = ap (λ ts. tag ∷ ts) same
one_written (InsertOrMerge key props) row tag xs ys same = ap (λ ts. tag ∷ ts) same

pub answered_written : (ops : List Op) (tags : List Tag) (table : Table) → tags_written ops (tags_answered ops tags table) ≡ tags_written ops tags
answered_written [] tags table = refl
answered_written (op ∷ ops) [] table = refl
answered_written (op ∷ ops) (tag ∷ tags) table = one_written op (table (op_key op)) tag (zip ops (tags_answered ops tags table)) (zip ops tags) (answered_written ops tags table)

pub length-answered : (ops : List Op) (tags : List Tag) (table : Table) → length tags ≡ length ops → length (tags_answered ops tags table) ≡ length ops
length-answered [] tags table same = refl
length-answered (op ∷ ops) [] table same = absurd (omega arith)
length-answered (op ∷ ops) (tag ∷ tags) table same = ap suc (length-answered ops tags table (omega arith))

pub answered_alike : (ops : List Op) (tags : List Tag) (t u : Table) → AllByRecursion (λ op. t (op_key op) ≡ u (op_key op)) ops → tags_answered ops tags t ≡ tags_answered ops tags u
answered_alike [] tags t u h = refl
answered_alike (op ∷ ops) [] t u h = refl
answered_alike (op ∷ ops) (tag ∷ tags) t u h = ap (λ row. told_tag op row tag ∷ tags_answered ops tags t) h.0 ∙ ap (λ ts. told_tag op (u (op_key op)) tag ∷ ts) (answered_alike ops tags t u h.1)

one_gone : (op : Op) (row : Option Stored) (tag : Tag) → cause_on op row ≡ None → is_write op ≡ false → option_map (λ r. r.tag) row ≡ Some (told_tag op row tag)
one_gone (Insert key props) row tag accepted not_so = absurd cc
one_gone (Replace key props c) row tag accepted not_so = absurd cc
one_gone (Merge key props c) row tag accepted not_so = absurd cc
one_gone (Delete key c) None tag accepted not_so = absurd cc
one_gone (Delete key c) (Some row) tag accepted not_so = refl
one_gone (InsertOrReplace key props) row tag accepted not_so = absurd cc
one_gone (InsertOrMerge key props) row tag accepted not_so = absurd cc

-- a delete is told the tag of the row that went
pub all_gone : (ops : List Op) (tags : List Tag) (table : Table) → AllByRecursion (λ op. cause_in table op ≡ None) ops → AllByRecursion (IsGone table) (zip ops (tags_answered ops tags table))
all_gone [] tags table h = tt
all_gone (op ∷ ops) [] table h = tt
all_gone (op ∷ ops) (tag ∷ tags) table h = (one_gone op (table (op_key op)) tag h.0, all_gone ops tags table h.1)

-- ---- the tags of writes

-- the tag of what is written is of that store, above n and at most m
abbrev pub GetsTag : ℕ → ℕ → ℕ → Tagged → Type 0
GetsTag store n m o = is_write o.0 ≡ true → (o.1.store ≡ store) × (n < o.1.n) × (o.1.n ≤ m)

-- what holds of the tags of the operations that leave rows
pub written_all : (P : Tag → Type 0) (xs : List Tagged) → AllByRecursion (λ (o : Tagged). is_write o.0 ≡ true → P o.1) xs → AllByRecursion P (of_writes xs)
written_all P [] h = tt
written_all P (x ∷ xs) h =
    elim (is_write x.0) as (λ b. is_write x.0 ≡ b → AllByRecursion P (map (λ o. o.1) (cond b (x ∷ filter (λ o. is_write o.0) xs) (filter (λ o. is_write o.0) xs)))) [
      | true ↦ λ e. (h.0 e, written_all P xs h.1)
      | false ↦ λ e. written_all P xs h.1
    ] refl

-- both leave rows, with the same number
abbrev pub clash : Tagged → Tagged → Bool
clash a b = (is_write a.0 && is_write b.0) && nat_eq a.1.n b.1.n

pub clash_flips : (a b : Tagged) → clash a b ≡ clash b a
clash_flips a b = go (is_write a.0) (is_write b.0) where
  go : (x y : Bool) → ((x && y) && nat_eq a.1.n b.1.n) ≡ ((y && x) && nat_eq b.1.n a.1.n)
  go true true = grind arith
  go true false = refl
  go false true = refl
  go false false = refl

differ : (x : Tagged) (xs : List Tagged) → is_write x.0 ≡ true → AllByRecursion (λ o. clash x o ≡ false) xs → AllByRecursion (λ (o : Tagged). is_write o.0 ≡ true → x.1 ≢ o.1) xs
differ x [] does h = tt
differ x (o ∷ xs) does h = (
  λ f same. (let no : ((true && true) && nat_eq x.1.n o.1.n) ≡ false = subst (λ b. ((b && true) && nat_eq x.1.n o.1.n) ≡ false) does (subst (λ b. ((is_write x.0 && b) && nat_eq x.1.n o.1.n) ≡ false) f h.0) in
      let is : true ≡ false = sym (eq-eqb x.1.n o.1.n (ap (λ t. t.n) same)) ∙ no in cc),
  differ x xs does h.1,
)

pub pairs_apart : (xs : List Tagged) → IsDistinct clash xs → AllPairs (λ a b. a ≢ b) (of_writes xs)
unfolding IsDistinct
pairs_apart [] h = λ i j d below in_range. absurd (omega arith)
pairs_apart (x ∷ xs) h =
    elim (is_write x.0) as (λ b. is_write x.0 ≡ b → AllPairs (λ a b. a ≢ b) (map (λ o. o.1) (cond b (x ∷ filter (λ o. is_write o.0) xs) (filter (λ o. is_write o.0) xs)))) [
      | true ↦ λ e. AllPairs-cons (λ (a b : Tag). a ≢ b) x.1 (of_writes xs) (All-from_recursion (λ t. x.1 ≢ t) (of_writes xs) (written_all (λ t. x.1 ≢ t) xs (differ x xs e h.0))) (pairs_apart xs h.1)
      | false ↦ λ e. pairs_apart xs h.1
    ] refl

-- ---- in the order of the batch

pub given_reordered : (store n m : ℕ) (xs ys : List Tagged) → IsPermutation ys xs → AllByRecursion (GetsTag store n m) xs → AllByRecursion (GetsTag store n m) ys
given_reordered store n m xs ys same h =
    recursion_from_All (GetsTag store n m) ys (All-permutation (GetsTag store n m) xs ys (IsPermutation-sym ys xs same) (All-from_recursion (GetsTag store n m) xs h))
