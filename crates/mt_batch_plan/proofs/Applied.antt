-- A write that is done is the batch, whatever store it was made in.
use Rattle.std.proofs.Common.{◌≡◌, ◌≢◌, ℕ, ◌<◌, ◌≤◌, Bool, true, false, cond, ◌&&◌, List, [], ◌∷◌, map, refl, sym, ap, ◌∙◌, subst, inl, inr, bytes_eq, Some, None, Option, is_some, option_map, All}
use Rattle.std.specs.List.{zip, AllByRecursion, AllPairs}
use Rattle.std.proofs.lemmas.List.Elements.{All-from_recursion, recursion_from_All}
use Rattle.std.specs.Cmp.Lexicographic.{nat_list_cmp_total}
use Rattle.mt_model.specs.declared.key.Key.{Key}
use Rattle.mt_model.specs.declared.tag.Tag.{Tag}
use Rattle.mt_chain.specs.declared.row.Put.{Put}
use Rattle.mt_chain.specs.declared.op.Op.{Op}
use Rattle.mt_chain.specs.declared.op.Refusal.{Refusal}
use Rattle.mt_chain.specs.Rows.{key_at}
use Rattle.mt_chain.specs.Puts.{tags_of, all_counter_after}
use Rattle.mt_chain.specs.Table.{Table, IsSameTable}
use Rattle.mt_chain.specs.Effect.{op_key}
use Rattle.mt_chain.specs.Batch.{Tagged, refusal_of, names, op_at, row_after, batch_applied, unless_refusal, tags_answered, IsReordered}
use Rattle.mt_chain.proofs.OneList.{one_order}
use Rattle.mt_chain.proofs.KeyLaws.{is_tied, text_true, text_false, text_differs}
use Rattle.mt_chain.proofs.Theorems.{none_refuses, same_refusal, refused_alike, reordered}
use Rattle.mt_rules.specs.Batches.{IsBatch, partition_of}
use Rattle.mt_history.specs.Legal.{is_write, tags_written, IsGone}
use Rattle.mt_meta.specs.Markers.{marker_key}
use Rattle.mt_meta.specs.Logical.{Pair, logical}
use Rattle.mt_meta.specs.Steps.{as_row, logical_table, IsFresh}
use Rattle.mt_meta.proofs.Rules.{key_cases}
use Rattle.mt_batch_plan.specs.Calls.{IsInOrder, AnswersTags}
use Rattle.mt_batch_plan.specs.BatchSteps.{IsWritten}
use Rattle.mt_batch_plan.proofs.OnTags.{answered_applied, answered_written, length-answered, answered_alike, all_gone, GetsTag, written_all, given_reordered}
use Rattle.mt_batch_plan.proofs.PutTags.{Takes, all_given, tags_apart}
use Rattle.mt_batch_plan.proofs.OpLaws.{all_sorted, all_unsorted, each_all, IsOf, ops_of, row_key_of}

-- a write of a batch that was done: `table` is what the batch was judged on, and `put` the put of an operation in the store of that number
pub record Applied (ops : List Op) (table : Table) (store : ℕ) (put : Op → Put) (sorted : List Op) (p : Pair) (n : ℕ) (q : Pair) : Type 0 where
  pub batch : IsBatch ops
  pub order : IsInOrder ops sorted
  pub accepted : refusal_of ops table ≡ None
  -- the table before is the one that it was judged on
  pub agrees : AllByRecursion (λ op. logical_table p (op_key op) ≡ table (op_key op)) sorted
  pub takes : AllByRecursion (Takes store put) sorted
  -- the puts leave the batch's effects in the partition, and other partitions as they were
  pub rows : (rk : List ℕ) → rk ≢ marker_key
      → logical_table q (key_at (partition_of ops) rk) ≡ row_after (op_at (zip sorted (tags_of store n (map put sorted))) (key_at (partition_of ops) rk)) (logical_table p (key_at (partition_of ops) rk))
  pub others : (pk rk : List ℕ) → pk ≢ partition_of ops → logical q pk rk ≡ logical p pk rk
  pub given : (tag : Tag) → tag.store ≡ store → n < tag.n → tag.n ≤ all_counter_after n (map put sorted) → IsFresh p q tag

none_named : (ops : List Op) (tags : List Tag) (key : Key) → AllByRecursion (λ op. names key op ≡ false) ops → op_at (zip ops tags) key ≡ None
none_named [] tags key h = refl
none_named (op ∷ ops) [] key h = refl
none_named (op ∷ ops) (tag ∷ tags) key h = ap (λ b. cond b (Some (op, tag)) (op_at (zip ops tags) key)) h.0 ∙ none_named ops tags key h.1

elsewhere : (pk : List ℕ) (key : Key) (op : Op) → IsOf pk op → bytes_eq pk key.pk ≡ false → names key op ≡ false
elsewhere pk key op h other = is_tied (op_key op) key ∙ ap (λ x. bytes_eq x key.pk && bytes_eq (op_key op).rk key.rk) h.0 ∙ ap (λ b. b && bytes_eq (op_key op).rk key.rk) other

no_and : (a : Bool) → (a && false) ≡ false
no_and true = refl
no_and false = refl

marker_unnamed : (pk : List ℕ) (key : Key) (op : Op) → IsOf pk op → key.rk ≡ marker_key → names key op ≡ false
marker_unnamed pk key op h is =
    is_tied (op_key op) key
    ∙ ap (λ b. bytes_eq (op_key op).pk key.pk && b) (text_false (op_key op).rk key.rk (λ same. row_key_of pk op h (same ∙ is)))
    ∙ no_and (bytes_eq (op_key op).pk key.pk)

no_refusal : (r : Option Refusal) → is_some r ≡ false → r ≡ None
no_refusal None h = refl
no_refusal (Some r) h = absurd cc

rest_same : (a b : Tag) (xs ys : List Tag) → a ∷ xs ≡ b ∷ ys → xs ≡ ys
rest_same a b xs ys e = cc

module _ (ops : List Op) (table : Table) (store : ℕ) (put : Op → Put) (sorted : List Op) (p : Pair) (n : ℕ) (q : Pair) (w : Applied ops table store put sorted p n q) where
  abbrev given_tags : List Tag
  given_tags = tags_of store n (map put sorted)

  of_sorted : AllByRecursion (IsOf (partition_of ops)) sorted
  of_sorted = all_sorted (IsOf (partition_of ops)) ops sorted w.order (All-from_recursion _ ops (ops_of ops w.batch))

  agrees_all : All (λ op. logical_table p (op_key op) ≡ table (op_key op)) ops
  agrees_all = all_unsorted (λ op. logical_table p (op_key op) ≡ table (op_key op)) ops sorted w.order w.agrees

  accepted_now : refusal_of ops (logical_table p) ≡ None
  accepted_now = same_refusal ops (logical_table p) table agrees_all ∙ w.accepted

  accepted_sorted : refusal_of sorted (logical_table p) ≡ None
  accepted_sorted = no_refusal (refusal_of sorted (logical_table p)) (refused_alike ops sorted (logical_table p) w.order.all ∙ ap is_some accepted_now)

  -- the table afterwards, where each operation in the order of row keys has the tag of its put
  shows_at : (rk : List ℕ) → logical_table q (key_at (partition_of ops) rk) ≡ batch_applied sorted given_tags (logical_table p) (key_at (partition_of ops) rk)
  shows_at rk = elim (key_cases rk) as (λ _. logical_table q (key_at (partition_of ops) rk) ≡ batch_applied sorted given_tags (logical_table p) (key_at (partition_of ops) rk)) [
    | inl is ↦
        ap (λ k. option_map as_row (logical q (partition_of ops) k)) is
        ∙ ap (λ k. option_map as_row (logical p (partition_of ops) k)) (sym is)
        ∙ ap (λ o. row_after o (logical_table p (key_at (partition_of ops) rk))) (sym (none_named sorted given_tags (key_at (partition_of ops) rk)
        (each_all (IsOf (partition_of ops)) (λ op. names (key_at (partition_of ops) rk) op ≡ false) (λ op h. marker_unnamed (partition_of ops) (key_at (partition_of ops) rk) op h is) sorted of_sorted)))
    | inr other ↦ w.rows rk other
  ]

  shows_sorted : IsSameTable (logical_table q) (batch_applied sorted given_tags (logical_table p))
  shows_sorted key = go (bytes_eq (partition_of ops) key.pk) refl where
    go : (b : Bool) → bytes_eq (partition_of ops) key.pk ≡ b → logical_table q key ≡ batch_applied sorted given_tags (logical_table p) key
    go true is = subst (λ pk. logical_table q (key_at pk key.rk) ≡ batch_applied sorted given_tags (logical_table p) (key_at pk key.rk)) (text_true (partition_of ops) key.pk is) (shows_at key.rk)
    go false is =
        ap (option_map as_row) (w.others key.pk key.rk (λ same. text_differs (partition_of ops) key.pk is (sym same)))
        ∙ ap (λ o. row_after o (logical_table p key)) (sym (none_named sorted given_tags key
        (each_all (IsOf (partition_of ops)) (λ op. names key op ≡ false) (λ op h. elsewhere (partition_of ops) key op h is) sorted of_sorted)))

  -- the same in the order of the batch
  shows_batch : (by_op : List Tag) → IsReordered ops by_op sorted given_tags → IsSameTable (logical_table q) (batch_applied ops by_op (logical_table p))
  shows_batch by_op same key =
      shows_sorted key
      ∙ ap (λ r. unless_refusal r (batch_applied sorted given_tags (logical_table p)) (logical_table p) key) (sym accepted_sorted)
      ∙ reordered ops by_op sorted given_tags (logical_table p) w.batch.apart same key
      ∙ ap (λ r. unless_refusal r (batch_applied ops by_op (logical_table p)) (logical_table p) key) accepted_now

  fresh_by : (by_op : List Tag) → IsReordered ops by_op sorted given_tags → All (IsFresh p q) (tags_written ops by_op)
  fresh_by by_op same =
      let m = all_counter_after n (map put sorted) in
      All-from_recursion (IsFresh p q) (tags_written ops by_op) (written_all (IsFresh p q) (zip ops by_op)
      (each_all (GetsTag store n m) (λ (o : Tagged). is_write o.0 ≡ true → IsFresh p q o.1)
      (λ o h does. (let g = h does in w.given o.1 g.0 g.1 g.2))
      (zip ops by_op)
      (given_reordered store n m (zip sorted given_tags) (zip ops by_op) same.2 (all_given store n put sorted w.takes))))

  answered : (by_op : List Tag) → IsReordered ops by_op sorted given_tags → IsWritten ops (tags_answered ops by_op table) p q
  answered by_op same = record {
    accepted = accepted_now;
    each = length-answered ops by_op table same.0;
    table = λ key. shows_batch by_op same key ∙ sym (answered_applied ops by_op table (logical_table p key) key);
    fresh = subst (All (IsFresh p q)) (sym (answered_written ops by_op table)) (fresh_by by_op same);
    apart = subst (AllPairs (λ a b. a ≢ b)) (sym (answered_written ops by_op table)) (tags_apart store n put sorted ops by_op w.takes same.2);
    gone = subst (λ ts. All (IsGone (logical_table p)) (zip ops ts)) (answered_alike ops by_op (logical_table p) table (recursion_from_All _ ops agrees_all))
        (All-from_recursion (IsGone (logical_table p)) _ (all_gone ops by_op (logical_table p) (recursion_from_All _ ops (none_refuses ops (logical_table p) accepted_now))));
  }

  pub applied : (given tags : List Tag) (first : Tag) → given ≡ first ∷ given_tags → AnswersTags ops table given tags → IsWritten ops tags p q
  applied given tags first is answer =
      let rest : answer.rest ≡ given_tags = rest_same answer.first first answer.rest _ (sym answer.parts ∙ is) in
      let same = subst (λ xs. IsReordered ops answer.by_op xs given_tags) (one_order nat_list_cmp_total (λ op. (op_key op).rk) ops answer.sorted sorted answer.in_order.all w.order.all answer.in_order.rising w.order.rising)
      (subst (λ ts. IsReordered ops answer.by_op answer.sorted ts) rest answer.each) in
      subst (λ ts. IsWritten ops ts p q) (sym answer.answer) (answered answer.by_op same)
