-- Rows that are left one after the other, and what they come to.
use Rattle.std.proofs.Common.{◌≡◌, suc, ◌<◌, Bool, true, false, cond, List, [], ◌∷◌, ◌++◌, length, get_or, refl, sym, ap, ◌∙◌, arith, IsTrue, Some, None, Option, Result, Ok, Err, OnOk}
use Rattle.std.specs.List.{zip}
use Rattle.std.specs.Ordering.{eq_by_cmp}
use Rattle.mt_model.specs.declared.key.Key.{Key}
use Rattle.mt_model.specs.declared.tag.Tag.{Tag}
use Rattle.mt_model.specs.Key.{key_cmp}
use Rattle.mt_chain.specs.declared.row.Stored.{Stored}
use Rattle.mt_chain.specs.declared.op.Op.{Op}
use Rattle.mt_chain.specs.Rows.{Rows, are_rising}
use Rattle.mt_chain.specs.Table.{Table, IsSameTable, table_of, with_entry}
use Rattle.mt_chain.specs.Effect.{op_key, effect, left_by}
use Rattle.mt_chain.specs.Batch.{batch_applied, op_at, row_after}
use Rattle.mt_chain.specs.Model.{rows_with, rows_left, with_rows_left}
use Rattle.mt_chain.proofs.KeyLaws.{is_tied, key_ties}
use Rattle.mt_chain.proofs.OrderLaws.{eq_equal}
use Rattle.mt_chain.proofs.RowLaws.{row_at-with_row, row_at-without_row, rising_with_row, rising_without_row}

pub on_ok : {A E : Type 0} {P Q : Type 0} (r : Result A E) → (P → Q) → OnOk r P → OnOk r Q
on_ok (Ok a) f h = f h
on_ok (Err e) f h = tt

-- ---- one row

pub table_of-rows_with : (rows : Rows) (key : Key) (row : Option Stored) → IsSameTable (table_of (rows_with rows key row)) (with_entry (table_of rows) key row)
table_of-rows_with rows key None other = row_at-without_row rows key.pk key.rk other.pk other.rk ∙ ap (λ b. cond b None (table_of rows other)) (sym (is_tied key other))
table_of-rows_with rows key (Some row) other = row_at-with_row rows key.pk key.rk row other.pk other.rk ∙ ap (λ b. cond b (Some row) (table_of rows other)) (sym (is_tied key other))

pub rising_rows_with : (rows : Rows) (key : Key) (row : Option Stored) → IsTrue (are_rising rows) → IsTrue (are_rising (rows_with rows key row))
rising_rows_with rows key None h = rising_without_row rows key.pk key.rk h
rising_rows_with rows key (Some row) h = rising_with_row rows key.pk key.rk row h

-- ---- all rows

pub with_none : (ops : List Op) (table : Table) → IsSameTable (with_rows_left ops [] table) table
with_none [] table key = refl
with_none (op ∷ ops) table key = refl

pub with_same : (ops : List Op) (rows : List (Option Stored)) (table other : Table) → IsSameTable table other → IsSameTable (with_rows_left ops rows table) (with_rows_left ops rows other)
with_same [] rows table other same key = same key
with_same (op ∷ ops) [] table other same key = same key
with_same (op ∷ ops) (row ∷ rows) table other same key = ap (λ r. cond (eq_by_cmp key_cmp (op_key op) key) row r) (with_same ops rows table other same key)

-- the last of the rows is left before the others
pub with_last : (ops : List Op) (rows : List (Option Stored)) (row : Option Stored) (op : Op) (table : Table) → length rows < length ops → op ≡ get_or ops (length rows) op
    → IsSameTable (with_rows_left ops (rows ++ row ∷ []) table) (with_rows_left ops rows (with_entry table (op_key op) row))
with_last [] rows row op table short is key = absurd (omega arith)
with_last (o ∷ ops) [] row op table short is key =
    ap (λ r. cond (eq_by_cmp key_cmp (op_key o) key) row r) (with_none ops table key)
    ∙ ap (λ x. with_entry table (op_key x) row key) (sym is)
with_last (o ∷ ops) (r ∷ rows) row op table short is key =
    ap (λ x. cond (eq_by_cmp key_cmp (op_key o) key) r x) (with_last ops rows row op table (omega arith) is key)

-- what the operations leave, written over the table, is the table after the batch
pub left_applied : (ops : List Op) (tags : List Tag) (table : Table) → IsSameTable (with_rows_left ops (rows_left ops tags table) table) (batch_applied ops tags table)
left_applied [] tags table key = refl
left_applied (op ∷ ops) [] table key = refl
left_applied (op ∷ ops) (tag ∷ tags) table key = go (eq_by_cmp key_cmp (op_key op) key) refl (left_applied ops tags table key) where
  go : (b : Bool) → eq_by_cmp key_cmp (op_key op) key ≡ b
      → with_rows_left ops (rows_left ops tags table) table key ≡ row_after (op_at (zip ops tags) key) (table key)
      → cond b (left_by (effect op (table (op_key op)) tag) (table (op_key op))) (with_rows_left ops (rows_left ops tags table) table key)
      ≡ row_after (cond b (Some (op, tag)) (op_at (zip ops tags) key)) (table key)
  go true e rest = ap (λ k. left_by (effect op (table k) tag) (table k)) (key_ties (op_key op) key (eq_equal _ e))
  go false e rest = rest

pub length-rows_left : (ops : List Op) (tags : List Tag) (table : Table) → length tags ≡ length ops → length (rows_left ops tags table) ≡ length ops
length-rows_left [] tags table same = refl
length-rows_left (op ∷ ops) [] table same = absurd (omega arith)
length-rows_left (op ∷ ops) (tag ∷ tags) table same = ap suc (length-rows_left ops tags table (omega arith))

-- one step: the last of the rows is left
pub one_left : (ops : List Op) (rest all : List (Option Stored)) (rows after before : Rows) (row : Option Stored) (op : Op)
    → length rest < length ops → op ≡ get_or ops (length rest) op → after ≡ rows_with rows (op_key op) row
    → IsSameTable (with_rows_left ops (rest ++ row ∷ []) (table_of rows)) (with_rows_left ops all (table_of before))
    → IsSameTable (with_rows_left ops rest (table_of after)) (with_rows_left ops all (table_of before))
one_left ops rest all rows after before row op short is made was key =
    ap (λ rs. with_rows_left ops rest (table_of rs) key) made
    ∙ with_same ops rest (table_of (rows_with rows (op_key op) row)) (with_entry (table_of rows) (op_key op) row) (table_of-rows_with rows (op_key op) row) key
    ∙ sym (with_last ops rest row op (table_of rows) short is key)
    ∙ was key
