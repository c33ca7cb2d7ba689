-- What batches and their refusals come to: the laws of the definitions.
use Rattle.std.proofs.Common.{◌≡◌, false, List, map, get_or, refl, sym, ap, subst, ◌∙◌, arith, Some, None, Option, is_some, Err, All, Contains}
use Rattle.std.specs.Result.{result_err}
use Rattle.std.specs.List.{list_any, zip}
use Rattle.std.specs.List.Sorted.{IsPermutation}
use Rattle.std.proofs.lemmas.List.Elements.{All-from_recursion, recursion_from_All}
use Rattle.std.proofs.lemmas.List.Sorted.{IsPermutation-map, list_any-IsPermutation}
use Rattle.mt_model.specs.declared.key.Key.{Key}
use Rattle.mt_model.specs.declared.tag.Tag.{Tag}
use Rattle.mt_chain.specs.declared.row.Stored.{Stored}
use Rattle.mt_chain.specs.declared.op.Op.{Op}
use Rattle.mt_chain.specs.declared.op.Op.TheVariants.{Insert, Replace, Merge, Delete, InsertOrReplace, InsertOrMerge}
use Rattle.mt_chain.specs.declared.op.Cause.TheVariants.{ConditionFailed}
use Rattle.mt_chain.specs.declared.op.Refusal.{Refusal}
use Rattle.mt_chain.specs.Table.{Table, IsSameTable, IsFinite, table_of}
use Rattle.mt_chain.specs.Effect.{op_key, effect, cause_on, left_by, meets, merges, any_tag}
use Rattle.mt_chain.specs.Batch.{Tagged, cause_in, refusal_of, names, op_at, row_after, batch_applied, unless_refusal, table_after, AreApart, IsReordered, IsLeast}
use Rattle.mt_chain.specs.Model.{rows_left}
use Rattle.mt_chain.proofs.ModelLaws.{left_applied, with_same}
use Rattle.mt_chain.proofs.BatchLaws.{chosen, merged_cause, least_from, none_from, refuses_any, same_from, find_alone, first_keys, unnamed_at, by_refusal, unless_same, firsts, same_op_at, all_rows, all_rising, all_left}

-- ---- causes and refusals

-- whether and why an operation is refused does not depend on the tag of what it would write
pub cause_at_any_tag : (op : Op) (row : Option Stored) (tag : Tag) → result_err (effect op row tag) ≡ cause_on op row
cause_at_any_tag (Insert key props) None tag = refl
cause_at_any_tag (Insert key props) (Some row) tag = refl
cause_at_any_tag (Replace key props c) None tag = refl
cause_at_any_tag (Replace key props c) (Some row) tag = chosen (meets c row.tag) _ _ _ refl
cause_at_any_tag (Merge key props c) None tag = refl
cause_at_any_tag (Merge key props c) (Some row) tag = chosen (meets c row.tag) (merges row.props props tag) (merges row.props props any_tag) (Err ConditionFailed) (merged_cause row.props props tag)
cause_at_any_tag (Delete key c) None tag = refl
cause_at_any_tag (Delete key c) (Some row) tag = refl
cause_at_any_tag (InsertOrReplace key props) None tag = refl
cause_at_any_tag (InsertOrReplace key props) (Some row) tag = refl
cause_at_any_tag (InsertOrMerge key props) None tag = refl
cause_at_any_tag (InsertOrMerge key props) (Some row) tag = merged_cause row.props props tag

-- a refusal names the least index whose operation is refused
pub refusal_is_least : (ops : List Op) (table : Table) (r : Refusal) → refusal_of ops table ≡ Some r → IsLeast ops table r
refusal_is_least ops table r h =
    let found = least_from 0 ops table r h in
    let at : found.0 ≡ r.index = (let is = found.1 in omega arith) in
    record {
      within = (let short = found.2 in omega arith);
      refuses = λ d. subst (λ k. cause_in table (get_or ops k d) ≡ Some r.cause) at (found.3 d);
      others = λ j below. found.4 j (omega arith);
    }

-- without a refusal no operation is refused
pub none_refuses : (ops : List Op) (table : Table) → refusal_of ops table ≡ None → All (λ op. cause_in table op ≡ None) ops
none_refuses ops table h = All-from_recursion (λ op. cause_in table op ≡ None) ops (none_from 0 ops table h)

-- a refused batch changes nothing
pub refused_changes_nothing : (ops : List Op) (tags : List Tag) (table : Table) (refusal : Refusal) → refusal_of ops table ≡ Some refusal → IsSameTable (table_after ops tags table) table
refused_changes_nothing ops tags table refusal is key = ap (λ r. unless_refusal r (batch_applied ops tags table) table key) is

-- the rows that a batch names fix its refusal
pub same_refusal : (ops : List Op) (t u : Table) → All (λ op. t (op_key op) ≡ u (op_key op)) ops → refusal_of ops t ≡ refusal_of ops u
same_refusal ops t u h = same_from 0 ops t u (recursion_from_All (λ op. t (op_key op) ≡ u (op_key op)) ops h)

-- whether a batch is refused does not depend on the order of its operations
pub refused_alike : (ops others : List Op) (table : Table) → IsPermutation ops others → is_some (refusal_of others table) ≡ is_some (refusal_of ops table)
refused_alike ops others table same =
    refuses_any 0 others table
    ∙ sym (list_any-IsPermutation (λ op. is_some (cause_in table op)) ops others same)
    ∙ sym (refuses_any 0 ops table)

-- ---- effects

-- a batch changes only rows that it names
pub unnamed_stays : (ops : List Op) (tags : List Tag) (table : Table) (key : Key) → list_any (names key) ops ≡ false → table_after ops tags table key ≡ table key
unnamed_stays ops tags table key h =
    unless_same (refusal_of ops table) (batch_applied ops tags table) table key (ap (λ o. row_after o (table key)) (unnamed_at ops tags key h))

-- where no two operations name one key, each row that is named gets the effect of its operation, with the operation's own tag, on the row before the batch
pub named_effect : (ops : List Op) (tags : List Tag) (table : Table) (op : Op) (tag : Tag) → AreApart ops → Contains (zip ops tags) (op, tag)
    → batch_applied ops tags table (op_key op) ≡ left_by (effect op (table (op_key op)) tag) (table (op_key op))
named_effect ops tags table op tag apart there =
    ap (λ o. row_after o (table (op_key op))) (find_alone (zip ops tags) (op, tag) there.0 (first_keys ops tags apart) there.1 there.2)

-- a row fixes what a batch leaves of it
pub same_row : (ops : List Op) (tags : List Tag) (table other : Table) (key : Key) → table key ≡ other key → batch_applied ops tags table key ≡ batch_applied ops tags other key
same_row ops tags table other key same = ap (row_after (op_at (zip ops tags) key)) same

-- where no two operations name one key, their order together with their tags makes no difference to the table
pub reordered : (ops : List Op) (tags : List Tag) (others : List Op) (theirs : List Tag) (table : Table) → AreApart ops
    → IsReordered ops tags others theirs → IsSameTable (table_after others theirs table) (table_after ops tags table)
reordered ops tags others theirs table apart same =
    let moved = IsPermutation-map (λ (o : Tagged). o.0) (zip ops tags) (zip others theirs) same.2 in
    let moved_ops : IsPermutation ops others = subst (λ os. IsPermutation ops os) (firsts others theirs same.1) (subst (λ os. IsPermutation os (map (λ (o : Tagged). o.0) (zip others theirs))) (firsts ops tags same.0) moved) in
    by_refusal (refusal_of others table) (refusal_of ops table) (batch_applied others theirs table) (batch_applied ops tags table) table
    (refused_alike ops others table moved_ops)
    (λ key. ap (λ o. row_after o (table key)) (same_op_at (zip ops tags) (zip others theirs) key (first_keys ops tags apart) same.2))

-- a batch leaves a finite table finite
pub finite_after : (ops : List Op) (tags : List Tag) (table : Table) → IsFinite table → IsFinite (table_after ops tags table)
finite_after ops tags table finite = go (refusal_of ops table) where
  go : (r : Option Refusal) → IsFinite (unless_refusal r (batch_applied ops tags table) table)
  go (Some r) = finite
  go None = (
    all_rows ops (rows_left ops tags table) finite.0,
    all_rising ops (rows_left ops tags table) finite.0 finite.1,
    λ key.
        all_left ops (rows_left ops tags table) finite.0 key
        ∙ with_same ops (rows_left ops tags table) (table_of finite.0) table finite.2 key
        ∙ left_applied ops tags table key,
  )
