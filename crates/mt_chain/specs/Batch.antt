-- What a batch of operations does to a table.
use Rattle.std.specs.Prelude.{◌≡◌, ℕ, ◌+◌, ◌<◌, Bool, List, [], ◌∷◌, map, length, sum_by, Option, Some, None, option_map}
use Rattle.std.specs.List.{find, zip, IsDistinct, HoldsAt}
use Rattle.std.specs.List.Sorted.{IsPermutation}
use Rattle.std.specs.Option.{option_or}
use Rattle.std.specs.Ordering.{eq_by_cmp}
use Rattle.mt_model.specs.declared.key.Key.{Key}
use Rattle.mt_model.specs.declared.tag.Tag.{Tag}
use Rattle.mt_model.specs.Key.{key_cmp}
use Rattle.mt_model.specs.Props.{visible_size}
use Rattle.mt_chain.specs.declared.row.Stored.{Stored}
use Rattle.mt_chain.specs.declared.op.Op.{Op}
use Rattle.mt_chain.specs.declared.op.Cause.{Cause}
use Rattle.mt_chain.specs.declared.op.Refusal.{Refusal}
use Rattle.mt_chain.specs.Table.{Table}
use Rattle.mt_chain.specs.Effect.{op_key, op_props, effect, cause_on, left_by, told_tag}

-- ---- refusals

-- why an operation is refused on a table
abbrev pub cause_in : Table → Op → Option Cause
cause_in table op = cause_on op (table (op_key op))

abbrev pub refusal_at : ℕ → Cause → Refusal
refusal_at index cause = record { index = index; cause = cause }

-- the first operation that is refused, where the first of them has the number `index`
abbrev pub refusal_from : ℕ → List Op → Table → Option Refusal
refusal_from index [] table = None
refusal_from index (op ∷ ops) table = option_or (option_map (refusal_at index) (cause_in table op)) (refusal_from (index + 1) ops table)

-- the least index whose operation is refused on the table before the batch, with its cause
abbrev pub refusal_of : List Op → Table → Option Refusal
refusal_of ops table = refusal_from 0 ops table

-- ---- effects

-- an operation of a batch, with the tag of what it writes
abbrev pub Tagged : Type 0
Tagged = Op × Tag

-- the operation names that key
abbrev pub names : Key → Op → Bool
names key op = eq_by_cmp key_cmp (op_key op) key

-- the first operation that names the key
abbrev pub op_at : List Tagged → Key → Option Tagged
op_at ops key = find (λ o. names key o.0) ops

-- the row after the operation that names its key, if there is one
abbrev pub row_after : Option Tagged → Option Stored → Option Stored
row_after None row = row
row_after (Some o) row = left_by (effect o.0 row o.1) row

-- each row that an operation names is replaced by the effect of that operation on the row before the batch, and all other rows stay
abbrev pub batch_applied : List Op → List Tag → Table → Table
batch_applied ops tags table key = row_after (op_at (zip ops tags) key) (table key)

-- a refused batch changes nothing
abbrev pub unless_refusal : Option Refusal → Table → Table → Table
unless_refusal None applied table = applied
unless_refusal (Some refusal) applied table = table

-- the table after a batch
abbrev pub table_after : List Op → List Tag → Table → Table
table_after ops tags table = unless_refusal (refusal_of ops table) (batch_applied ops tags table) table

-- the tags that a client is told, one for each operation
abbrev pub tags_answered : List Op → List Tag → Table → List Tag
tags_answered (op ∷ ops) (tag ∷ tags) table = told_tag op (table (op_key op)) tag ∷ tags_answered ops tags table
tags_answered ops tags table = []

-- ---- sizes

-- the bytes of the key and of the properties
abbrev pub op_size : Op → ℕ
op_size op = length (op_key op).pk + length (op_key op).rk + visible_size (op_props op)

-- the bytes of all operations together
abbrev pub batch_size : List Op → ℕ
batch_size ops = sum_by op_size ops

-- what a batch counts where memory is shared out: 64, and its bytes
abbrev pub batch_weight : List Op → ℕ
batch_weight ops = 64 + batch_size ops

-- ---- what a batch needs for its laws

-- no two operations name one key
abbrev pub AreApart : List Op → Type 0
AreApart ops = IsDistinct (eq_by_cmp key_cmp) (map op_key ops)

-- the operations and their tags are those of the other batch in some order
abbrev pub IsReordered : List Op → List Tag → List Op → List Tag → Type 0
IsReordered ops tags others theirs = (length tags ≡ length ops) × (length theirs ≡ length others) × IsPermutation (zip ops tags) (zip others theirs)

-- the operation at that index refuses with that cause, and none before it refuses
pub record IsLeast (ops : List Op) (table : Table) (refusal : Refusal) : Type 0 where
  pub within : refusal.index < length ops
  pub refuses : HoldsAt (λ op. cause_in table op ≡ Some refusal.cause) ops refusal.index
  pub others : (i : ℕ) → i < refusal.index → HoldsAt (λ op. cause_in table op ≡ None) ops i
