-- Bytes read and bytes still to be read, and what a part of reading says of them.
use Rattle.std.specs.Prelude.{◌≡◌, ◌≢◌, ℕ, ◌+◌, ◌-◌, ◌^◌, ◌≤◌, List, [], ◌++◌, length, Option, Result, Ok, Err, IfSome}
use Rattle.mt_io.specs.Ends.{Input, Rose, before_known}
use Rattle.mt_http_in.specs.declared.reader.Halt.{Halt}
use Rattle.mt_http_in.specs.declared.reader.Halt.TheVariants.{ReadFault, NoMemory, Refused}
use Rattle.mt_http_in.specs.declared.Code.{Code}
use Rattle.mt_http_in.specs.declared.Code.TheVariants.{InvalidHead, InvalidFraming, RequestBodyTooLarge, InvalidBody, CompressedBody}

-- the bytes that a reader and then its source will give, where the source tells
abbrev pub ahead : List ℕ → Input → Option (List ℕ)
ahead kept s = before_known kept s.left

-- reads alone were made
pub record Later (s t : Input) : Type 0 where
  pub number : t.number ≡ s.number
  pub calls : s.calls ≤ t.calls
  pub faults : s.faults ≤ t.faults

-- n bytes more are kept; none only at the end of input
pub record Filled (kept : List ℕ) (s : Input) (n : ℕ) (kept' : List ℕ) (t : Input) : Type 0 where
  pub got : List ℕ
  pub long : length got ≡ n
  pub grew : kept' ≡ kept ++ got
  pub left : s.left ≡ before_known got t.left
  pub end : n ≡ 0 → IfSome t.left (λ xs. xs ≡ [])
  pub once : t.calls ≡ s.calls + 1
  pub early : t.calls ≤ 2 ^ 32

-- what one filling says, by its answer
abbrev pub FilledAs : List ℕ → Input → Result ℕ Halt → List ℕ → Input → Type 0
FilledAs kept s (Ok n) kept' t = Filled kept s n kept' t
FilledAs kept s (Err ReadFault) kept' t = (t.left ≡ s.left) × Rose s.faults t.faults × (t.calls ≤ s.calls + 1)
FilledAs kept s (Err NoMemory) kept' t = Unit {0}
FilledAs kept s (Err (Refused c)) kept' t = ⊥

-- one filling, by one read
pub record Fills (kept : List ℕ) (s : Input) (r : Result ℕ Halt) (kept' : List ℕ) (t : Input) : Type 0 where
  pub later : Later s t
  pub filled : FilledAs kept s r kept' t

-- these bytes were spent off the front of what is known, and no read began once they stood whole in what was read: each brought at least one of them
pub record Spent (kept : List ℕ) (s : Input) (bytes kept' : List ℕ) (t : Input) : Type 0 where
  pub same : ahead kept s ≡ before_known bytes (ahead kept' t)
  pub within : length kept ≤ length bytes + length kept'
  pub paid : t.calls ≤ s.calls + (length bytes - length kept)

-- a read failed after these bytes had been read, and each read before it brought at least one of them
pub record Failed (kept : List ℕ) (s : Input) (bytes : List ℕ) (t : Input) : Type 0 where
  pub same : ahead kept s ≡ before_known bytes t.left
  pub within : length kept ≤ length bytes
  pub paid : t.calls ≤ s.calls + (length bytes - length kept) + 1
  pub cause : Rose s.faults t.faults

-- no read began after the source had said its end: each but one brought at least one byte of what was left
abbrev pub Ended : Input → Input → Type 0
Ended s t = IfSome s.left (λ xs. t.calls ≤ s.calls + length xs + 1)

-- a refusal that closes
abbrev pub Closes : Code → Type 0
Closes InvalidHead = Unit {0}
Closes InvalidFraming = Unit {0}
Closes RequestBodyTooLarge = Unit {0}
Closes InvalidBody = Unit {0}
Closes CompressedBody = ⊥

-- a part of reading: the bytes that it spends spell its value, those that were read when a read failed are one begun, and what is known is refused by the code
abbrev pub ReadAs : {V : Type 0} → (List ℕ → V → Type 0) → (List ℕ → Type 0) → (Code → List ℕ → Type 0) → List ℕ → Input → Result V Halt → List ℕ → Input → Type 0
ReadAs Spells Begun Refuses kept s (Ok v) kept' t = (bytes : List ℕ) × Spells bytes v × Spent kept s bytes kept' t
ReadAs Spells Begun Refuses kept s (Err ReadFault) kept' t = (bytes : List ℕ) × Begun bytes × Failed kept s bytes t
ReadAs Spells Begun Refuses kept s (Err NoMemory) kept' t = Unit {0}
ReadAs Spells Begun Refuses kept s (Err (Refused c)) kept' t = Closes c × IfSome (ahead kept s) (Refuses c) × Ended s t

-- reads alone were made, and the part of reading says that
pub record Reads {V : Type 0} (Spells : List ℕ → V → Type 0) (Begun : List ℕ → Type 0) (Refuses : Code → List ℕ → Type 0) (kept : List ℕ) (s : Input) (r : Result V Halt) (kept' : List ℕ) (t : Input) : Type 0 where
  pub later : Later s t
  pub read : ReadAs Spells Begun Refuses kept s r kept' t

-- bytes were moved from the front of a reader to the end of a body: as many as were asked for, or all that there were
abbrev pub MovedAs : ℕ → List ℕ → List ℕ → Result ℕ Halt → List ℕ → List ℕ → Type 0
MovedAs most kept body (Ok n) kept' body' = (got : List ℕ) × (length got ≡ n) × (kept ≡ got ++ kept') × (body' ≡ body ++ got) × (n ≤ most) × (n ≢ most → kept' ≡ [])
MovedAs most kept body (Err ReadFault) kept' body' = ⊥
MovedAs most kept body (Err NoMemory) kept' body' = Unit {0}
MovedAs most kept body (Err (Refused c)) kept' body' = ⊥
