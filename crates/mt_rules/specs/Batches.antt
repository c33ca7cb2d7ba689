-- Which lists of operations are batches, and why others are refused.
use Rattle.std.specs.Prelude.{◌≡◌, ℕ, ◌+◌, ◌≤◌, ◌<◌, ◌==◌, false, not, nat_lt, bytes_eq, All, List, [], ◌∷◌, ◌++◌, length, Option, Some, None, if◌then◌else◌}
use Rattle.std.specs.List.{list_any}
use Rattle.std.specs.Option.{option_or}
use Rattle.mt_model.specs.Key.{key_fault}
use Rattle.mt_model.specs.Name.{is_hidden}
use Rattle.mt_chain.specs.declared.op.Op.{Op}
use Rattle.mt_chain.specs.Effect.{op_key, op_props}
use Rattle.mt_chain.specs.Batch.{names, batch_size, AreApart}
use Rattle.mt_rules.specs.declared.batch.BatchFault.{BatchFault}
use Rattle.mt_rules.specs.declared.batch.BatchFault.TheVariants.{Empty, TooMany, TooLarge, OtherPartition, Twice}

-- the key keeps the rules of keys, and no property is hidden
pub record MayAsk (op : Op) : Type 0 where
  pub key : key_fault (op_key op).pk (op_key op).rk ≡ None
  pub visible : list_any (λ p. is_hidden p.name) (op_props op) ≡ false

-- the partition key of the first operation, or the empty text where there is none
abbrev pub partition_of : List Op → List ℕ
partition_of [] = []
partition_of (op ∷ ops) = (op_key op).pk

-- 1 to 100 operations on distinct rows of one partition, of at most 4 MiB together, each of which may be asked
pub record IsBatch (ops : List Op) : Type 0 where
  pub some : 0 < length ops
  pub few : length ops ≤ 100
  pub partition : All (λ op. (op_key op).pk ≡ partition_of ops) ops
  pub apart : AreApart ops
  pub small : batch_size ops ≤ 4194304
  pub rules : All MayAsk ops

-- ---- refusals

abbrev pub count_fault : List Op → Option BatchFault
count_fault ops = if length ops == 0 then Some Empty else (if nat_lt 100 (length ops) then Some TooMany else None)

-- the bytes of all keys and properties pass 4 MiB
abbrev pub size_fault : List Op → Option BatchFault
size_fault ops = if nat_lt 4194304 (batch_size ops) then Some TooLarge else None

-- the operation is of another partition, or else an earlier one names its row
abbrev pub place_fault : List ℕ → List Op → ℕ → Op → Option BatchFault
place_fault pk earlier index op =
    if not (bytes_eq (op_key op).pk pk) then Some (OtherPartition index)
    else (if list_any (names (op_key op)) earlier then Some (Twice index) else None)

-- the same of the first operation that has such a fault, after `index` earlier ones
abbrev pub places_fault : List ℕ → List Op → ℕ → List Op → Option BatchFault
places_fault pk earlier index [] = None
places_fault pk earlier index (op ∷ ops) = option_or (place_fault pk earlier index op) (places_fault pk (earlier ++ op ∷ []) (index + 1) ops)

-- the first fault: of the number of operations, of their size, or of the place of one of them
abbrev pub batch_fault : List Op → Option BatchFault
batch_fault ops = option_or (count_fault ops) (option_or (size_fault ops) (places_fault (partition_of ops) [] 0 ops))
