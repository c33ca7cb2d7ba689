-- What the plain program for operations and batches answers: the definitions, or want of memory.
use Rattle.std.specs.Prelude.{◌≡◌, List, [], ◌∷◌, Option, Some, None, Result, Ok, Err}
use Rattle.std.specs.Global.{Vec}
use Rattle.mt_model.specs.declared.key.Key.{Key}
use Rattle.mt_model.specs.declared.tag.Tag.{Tag}
use Rattle.mt_chain.specs.declared.row.Stored.{Stored}
use Rattle.mt_chain.specs.declared.op.Op.{Op}
use Rattle.mt_chain.specs.declared.model.EffectFault.{EffectFault}
use Rattle.mt_chain.specs.declared.model.EffectFault.TheVariants as effect_fault
use Rattle.mt_chain.specs.declared.model.ApplyFault.{ApplyFault}
use Rattle.mt_chain.specs.declared.model.ApplyFault.TheVariants as apply_fault
use Rattle.mt_chain.specs.declared.model.Applied.{Applied}
use Rattle.mt_chain.specs.Rows.{Rows, with_row, without_row}
use Rattle.mt_chain.specs.Table.{Table, IsSameTable, table_of, with_entry}
use Rattle.mt_chain.specs.Effect.{Outcome, op_key, effect, left_by}
use Rattle.mt_chain.specs.Batch.{refusal_of, batch_applied, tags_answered}

-- the answer is that outcome, or want of memory
abbrev pub IsOutcome : Outcome → Result (Option Stored) EffectFault → Type 0
IsOutcome outcome (Ok row) = outcome ≡ Ok row
IsOutcome outcome (Err (effect_fault.Refused cause)) = outcome ≡ Err cause
IsOutcome outcome (Err effect_fault.NoMemory) = Unit {0}

-- the rows with this at a key: a row, or none
abbrev pub rows_with : Rows → Key → Option Stored → Rows
rows_with rows key None = without_row rows key.pk key.rk
rows_with rows key (Some row) = with_row rows key.pk key.rk row

-- what each operation leaves of the row that it names, all judged on one table
abbrev pub rows_left : List Op → List Tag → Table → List (Option Stored)
rows_left (op ∷ ops) (tag ∷ tags) table = left_by (effect op (table (op_key op)) tag) (table (op_key op)) ∷ rows_left ops tags table
rows_left ops tags table = []

-- the table with these rows at the keys that the operations name, the first of them where two name one key
abbrev pub with_rows_left : List Op → List (Option Stored) → Table → Table
with_rows_left (op ∷ ops) (row ∷ rows) table = with_entry (with_rows_left ops rows table) (op_key op) row
with_rows_left ops rows table = table

-- what the judging of a batch answers: what each operation leaves, or the least refusal
abbrev pub Judges : Rows → List Op → List Tag → Result (Vec (Option Stored)) ApplyFault → Type 0
Judges rows ops tags (Ok left) = (refusal_of ops (table_of rows) ≡ None) × (left.items ≡ rows_left ops tags (table_of rows))
Judges rows ops tags (Err (apply_fault.Refused refusal)) = refusal_of ops (table_of rows) ≡ Some refusal
Judges rows ops tags (Err apply_fault.NoMemory) = Unit {0}

-- no operation was refused, and these are the table's rows after the batch, with the tags that it is answered
pub record IsApplied (before : Rows) (ops : List Op) (given : List Tag) (applied : Applied) : Type 0 where
  pub allowed : refusal_of ops (table_of before) ≡ None
  pub rows : IsSameTable (table_of applied.rows) (batch_applied ops given (table_of before))
  pub tags : applied.tags.items ≡ tags_answered ops given (table_of before)

-- the answer to a batch: what it does to the rows, or the least refusal, or want of memory
abbrev pub Applies : Rows → List Op → List Tag → Result Applied ApplyFault → Type 0
Applies rows ops tags (Ok applied) = IsApplied rows ops tags applied
Applies rows ops tags (Err (apply_fault.Refused refusal)) = refusal_of ops (table_of rows) ≡ Some refusal
Applies rows ops tags (Err apply_fault.NoMemory) = Unit {0}
