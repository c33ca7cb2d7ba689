-- The tags of the puts of a batch, whatever store they write: those of its writes are fresh and differ.
use Rattle.std.proofs.Common.{◌≡◌, ◌≢◌, ℕ, ◌+◌, ◌≤◌, Bool, true, false, cond, ◌&&◌, nat_eq, ne_eqb, List, [], ◌∷◌, map, refl, sym, ap, ◌∙◌, arith, Some, None, Option, Ok, Err}
use Rattle.std.specs.List.{zip, AllByRecursion, AllPairs, IsDistinct}
use Rattle.std.specs.List.Sorted.{IsPermutation}
use Rattle.std.specs.Result.{result_err}
use Rattle.std.proofs.lemmas.List.Sorted.{IsPermutation-sym}
use Rattle.std.proofs.lemmas.Map.Keys.{IsDistinct-IsPermutation}
use Rattle.mt_model.specs.declared.tag.Tag.{Tag}
use Rattle.mt_model.specs.declared.value.Prop.{Prop}
use Rattle.mt_model.specs.Merge.{merged}
use Rattle.mt_chain.specs.declared.row.Stored.{Stored}
use Rattle.mt_chain.specs.declared.row.Put.{Put}
use Rattle.mt_chain.specs.declared.op.Op.{Op}
use Rattle.mt_chain.specs.declared.op.Op.TheVariants.{Insert, Replace, Merge, Delete, InsertOrReplace, InsertOrMerge}
use Rattle.mt_chain.specs.declared.op.Cause.{Cause}
use Rattle.mt_chain.specs.declared.op.Cause.TheVariants.{ConditionFailed}
use Rattle.mt_chain.specs.Puts.{tag_of, tags_of, next_tag, counter_after, all_counter_after}
use Rattle.mt_chain.specs.Effect.{Outcome, op_key, meets, writes, limits_cause, unless_refused, merges, effect, any_tag, cause_on, left_by}
use Rattle.mt_chain.specs.Batch.{Tagged}
use Rattle.mt_chain.proofs.PutLaws.{counter_rises, counter_one}
use Rattle.mt_history.specs.Legal.{is_write, tags_written}
use Rattle.mt_batch_plan.specs.declared.basis.Basis.{Basis}
use Rattle.mt_batch_plan.specs.Bases.{seen_by, stored_in, kept_on, put_of, put_by}
use Rattle.mt_batch_plan.proofs.OnTags.{GetsTag, clash, clash_flips, pairs_apart}

-- ---- an operation that writes

-- a row is left
abbrev LeavesRow : Outcome → Type 0
LeavesRow (Ok (Some row)) = Unit {0}
LeavesRow made = ⊥

met_leaves : (met : Bool) (a : Outcome) → (result_err a ≡ None → LeavesRow a) → result_err (cond met a (Err ConditionFailed)) ≡ None → LeavesRow (cond met a (Err ConditionFailed))
met_leaves true a h accepted = h accepted
met_leaves false a h accepted = absurd cc

limited_leaves : (cause : Option Cause) (ps : List Prop) → result_err (unless_refused cause (writes ps any_tag)) ≡ None → LeavesRow (unless_refused cause (writes ps any_tag))
limited_leaves None ps accepted = tt
limited_leaves (Some cause) ps accepted = absurd cc

merge_leaves : (own over : List Prop) → result_err (merges own over any_tag) ≡ None → LeavesRow (merges own over any_tag)
merge_leaves own over accepted = limited_leaves (limits_cause (merged own over)) (merged own over) accepted

leaves_row : (op : Op) (row : Option Stored) → is_write op ≡ true → cause_on op row ≡ None → LeavesRow (effect op row any_tag)
leaves_row (Insert key props) None does accepted = tt
leaves_row (Insert key props) (Some row) does accepted = absurd cc
leaves_row (Replace key props c) None does accepted = absurd cc
leaves_row (Replace key props c) (Some row) does accepted = met_leaves (meets c row.tag) (writes props any_tag) (λ e. tt) accepted
leaves_row (Merge key props c) None does accepted = absurd cc
leaves_row (Merge key props c) (Some row) does accepted = met_leaves (meets c row.tag) (merges row.props props any_tag) (merge_leaves row.props props) accepted
leaves_row (Delete key c) row does accepted = absurd cc
leaves_row (InsertOrReplace key props) None does accepted = tt
leaves_row (InsertOrReplace key props) (Some row) does accepted = tt
leaves_row (InsertOrMerge key props) None does accepted = tt
leaves_row (InsertOrMerge key props) (Some row) does accepted = merge_leaves row.props props accepted

-- the put takes the next tag
pub record TakesNext (store n : ℕ) (put : Put) : Type 0 where
  pub tag : tag_of store n put ≡ next_tag store n
  pub counter : counter_after n put ≡ n + 1

-- the put of an operation that writes a row takes the next tag
abbrev pub Takes : ℕ → (Op → Put) → Op → Type 0
Takes store put op = is_write op ≡ true → (n : ℕ) → TakesNext store n (put op)

takes_next : (basis : Basis) (store n : ℕ) (rk : List ℕ) (row : Option Stored) (made : Outcome) → LeavesRow made → TakesNext store n (put_of rk row (kept_on basis (left_by made None)))
takes_next basis store n rk row (Err cause) h = absurd h
takes_next basis store n rk row (Ok None) h = absurd h
takes_next basis store n rk None (Ok (Some made)) h = record { tag = refl; counter = refl }
takes_next basis store n rk (Some was) (Ok (Some made)) h = record { tag = refl; counter = refl }

pub puts_take : (store : ℕ) (basis : Basis) (ops : List Op) → AllByRecursion (λ op. cause_on op (seen_by basis (op_key op).rk) ≡ None) ops → AllByRecursion (Takes store (put_by basis)) ops
puts_take store basis [] h = tt
puts_take store basis (op ∷ ops) h = (
  λ does n. takes_next basis store n (op_key op).rk (stored_in basis (op_key op).rk) (effect op (seen_by basis (op_key op).rk) any_tag) (leaves_row op (seen_by basis (op_key op).rk) does h.0),
  puts_take store basis ops h.1,
)

-- ---- the tags of a batch

from_below : (store k n m : ℕ) → k ≤ n → (xs : List Tagged) → AllByRecursion (GetsTag store n m) xs → AllByRecursion (GetsTag store k m) xs
from_below store k n m le [] h = tt
from_below store k n m le (x ∷ xs) h = (λ does. (let g = h.0 does in (g.0, omega (arith, g.1, le), g.2)), from_below store k n m le xs h.1)

-- each is of that store, above n and up to the counter afterwards
pub all_given : (store n : ℕ) (put : Op → Put) (ops : List Op) → AllByRecursion (Takes store put) ops → AllByRecursion (GetsTag store n (all_counter_after n (map put ops))) (zip ops (tags_of store n (map put ops)))
all_given store n put [] h = tt
all_given store n put (op ∷ ops) h = (
  λ does. (let takes = h.0 does n in
      let number : (tag_of store n (put op)).n ≡ n + 1 = ap (λ (t : Tag). t.n) takes.tag in
      let rises = (counter_rises (counter_after n (put op)) (map put ops)).0 in
      let next = takes.counter in
      (ap (λ (t : Tag). t.store) takes.tag, omega (arith, number), omega (arith, number, next, rises))),
  from_below store n (counter_after n (put op)) (all_counter_after n (map put (op ∷ ops))) (counter_one n (put op)).0 (zip ops (tags_of store (counter_after n (put op)) (map put ops))) (all_given store (counter_after n (put op)) put ops h.1),
)

none_clash : (store m : ℕ) (x : Tagged) (xs : List Tagged) → (is_write x.0 ≡ true → (n : ℕ) × (x.1.n ≡ n) × AllByRecursion (GetsTag store n m) xs) → AllByRecursion (λ o. clash x o ≡ false) xs
none_clash store m x [] h = tt
none_clash store m x (o ∷ xs) h = (
  go (is_write x.0) (is_write o.0) refl refl,
  none_clash store m x xs (λ does. (let g = h does in (g.0, g.1, g.2.1))),
) where
  go : (a b : Bool) → is_write x.0 ≡ a → is_write o.0 ≡ b → ((a && b) && nat_eq x.1.n o.1.n) ≡ false
  go false b e f = refl
  go true false e f = refl
  go true true e f = (let g = h e in let above = (g.2.0 f).1 in let is = g.1 in ne_eqb x.1.n o.1.n (λ same. absurd (omega (arith, above, is, same))))

all_apart : (store n : ℕ) (put : Op → Put) (ops : List Op) → AllByRecursion (Takes store put) ops → IsDistinct clash (zip ops (tags_of store n (map put ops)))
unfolding IsDistinct
all_apart store n put [] h = tt
all_apart store n put (op ∷ ops) h = (
  none_clash store (all_counter_after n (map put (op ∷ ops))) (op, tag_of store n (put op)) (zip ops (tags_of store (counter_after n (put op)) (map put ops))) (λ does.
      (let takes = h.0 does n in
      (counter_after n (put op), ap (λ (t : Tag). t.n) takes.tag ∙ sym takes.counter, all_given store (counter_after n (put op)) put ops h.1))),
  all_apart store (counter_after n (put op)) put ops h.1,
)

-- and they differ, in the order of the batch too
pub tags_apart : (store n : ℕ) (put : Op → Put) (sorted ops : List Op) (by_op : List Tag) → AllByRecursion (Takes store put) sorted
    → IsPermutation (zip ops by_op) (zip sorted (tags_of store n (map put sorted))) → AllPairs (λ a b. a ≢ b) (tags_written ops by_op)
tags_apart store n put sorted ops by_op h same =
    let xs = zip sorted (tags_of store n (map put sorted)) in
    pairs_apart (zip ops by_op) (IsDistinct-IsPermutation clash clash_flips xs (zip ops by_op) (IsPermutation-sym (zip ops by_op) xs same) (all_apart store n put sorted h))
