-- What a change set asks for: the operations of its requests together, or the first refusal.
use Rattle.std.specs.Prelude.{◌≡◌, ◌⊎◌, ℕ, true, false, List, [], ◌∷◌, ◌++◌, length, codes, Option, Some, None}
use Rattle.mt_chain.specs.declared.op.Op.{Op}
use Rattle.mt_rules.specs.declared.batch.BatchFault.{BatchFault}
use Rattle.mt_rules.specs.Batches.{batch_fault}
use Rattle.mt_http_in.specs.declared.fields.Field.{Field}
use Rattle.mt_http_in.specs.Fields.{first_value}
use Rattle.mt_target.specs.declared.target.Spelled.{Spelled}
use Rattle.mt_target.specs.Targets.{SpellsIt}
use Rattle.mt_mime.specs.declared.forms.Echo.{Echo}
use Rattle.mt_mime.specs.declared.changes.Part.{Part}
use Rattle.mt_mime.specs.Changes.{Batch, SpellsBatch, HasNoBatch, boundary_in, parts_of}
use Rattle.mt_front.specs.declared.methods.Method.{Method}
use Rattle.mt_front.specs.Methods.{IsMethod}
use Rattle.mt_front.specs.declared.routes.RowWrite.{RowWrite}
use Rattle.mt_front.specs.Routes.{change_refusal, write_by, SpellsNothing}
use Rattle.mt_front.specs.declared.refusals.BadRequest.{BadRequest}
use Rattle.mt_front.specs.declared.refusals.BadRequest.TheVariants.{InvalidUri, InvalidBatch}
use Rattle.mt_front.specs.declared.refusals.BadPart.{BadPart}
use Rattle.mt_front.specs.declared.changes.Change.{Change}
use Rattle.mt_front.specs.declared.changes.Change.TheVariants as change
use Rattle.mt_front.specs.declared.asks.Asked.{Asked}
use Rattle.mt_front.specs.declared.asks.Asked.TheVariants.{Write, Refused, RefusedPart}
use Rattle.mt_front.specs.Refusals.{batch_refusal}
use Rattle.mt_front.specs.Changes.{AsksChange}

-- ---- operations

-- one operation alone, of which the reply shows so much
abbrev pub alone : Op → Echo → Asked
alone op echo = Write (record { ops = op ∷ []; echoes = echo ∷ []; change_set = false })

-- these operations as a change set
abbrev pub together : List Op → List Echo → Asked
together ops echoes = Write (record { ops = ops; echoes = echoes; change_set = true })

-- this refusal of one request of a change set; where there is none to tell, it cannot be
abbrev pub IsRefusedPart : Option BadPart → Asked → Type 0
IsRefusedPart None asked = ⊥
IsRefusedPart (Some bad) asked = asked ≡ RefusedPart bad

-- the operations are a batch and then this is asked for, or their first fault refuses
abbrev pub BatchedBy : Option BatchFault → Type 0 → Asked → Type 0
BatchedBy None then asked = then
BatchedBy (Some fault) then asked = IsRefusedPart (batch_refusal fault) asked

-- what a change set of these operations asks for, with an echo for each
abbrev pub AsksTogether : List Op → List Echo → Asked → Type 0
AsksTogether ops echoes asked = BatchedBy (batch_fault ops) (asked ≡ together ops echoes) asked

-- ---- one request of a change set

-- the route's refusal refuses, or what is written is asked for; what is not refused writes
abbrev pub ChangeBy : Option BadRequest → Option RowWrite → List Field → List ℕ → Change → Type 0
ChangeBy (Some r) write fields bytes asked = asked ≡ change.Refused r
ChangeBy None (Some write) fields bytes asked = AsksChange write fields bytes asked
ChangeBy None None fields bytes asked = ⊥

-- the target spells something, and by this, the method and the fields the request asks for this
pub record PartSpelled (table : List ℕ) (part : Part) (asked : Change) : Type 0 where
  pub method : Option Method
  pub spelled : Spelled
  pub is_method : IsMethod part.method method
  pub is_spelled : SpellsIt part.target spelled
  pub asks : ChangeBy (change_refusal table spelled method) (write_by spelled.target method) part.fields part.body asked

-- what a request of a change set asks for
abbrev pub AsksPart : List ℕ → Part → Change → Type 0
AsksPart table part asked = PartSpelled table part asked ⊎ (SpellsNothing part.target × (asked ≡ change.Refused InvalidUri))

-- ---- all of them

-- each asks for one of these operations, with its echo
abbrev pub Gathers : List ℕ → List Part → List Op → List Echo → Type 0
Gathers table [] [] [] = Unit {0}
Gathers table (part ∷ parts) (op ∷ ops) (echo ∷ echoes) = AsksPart table part (change.Write op echo) × Gathers table parts ops echoes
Gathers table parts ops echoes = ⊥

-- one of them is refused, and each before it asks for an operation
pub record FirstRefused (table : List ℕ) (parts : List Part) (bad : BadPart) : Type 0 where
  pub before : List Part
  pub part : Part
  pub behind : List Part
  pub are : parts ≡ before ++ part ∷ behind
  pub ops : List Op
  pub echoes : List Echo
  pub gathers : Gathers table before ops echoes
  pub refused : AsksPart table part (change.Refused bad.refusal)
  pub index_is : bad.index ≡ length before

-- what the requests of a change set ask for together
abbrev pub AsksSet : List ℕ → List Part → Asked → Type 0
AsksSet table parts asked =
    ((ops : List Op) × (echoes : List Echo) × Gathers table parts ops echoes × AsksTogether ops echoes asked)
    ⊎ ((bad : BadPart) × FirstRefused table parts bad × (asked ≡ RefusedPart bad))

-- what a body of that boundary asks for
abbrev pub AsksWithin : List ℕ → List ℕ → List ℕ → Asked → Type 0
AsksWithin table boundary body asked =
    ((batch : Batch) × SpellsBatch boundary body batch × AsksSet table (parts_of batch) asked) ⊎ (HasNoBatch boundary body × (asked ≡ Refused InvalidBatch))

-- the boundary that the fields tell
abbrev pub boundary_by : List Field → Option (List ℕ)
boundary_by fields = boundary_in (first_value (codes "content-type") fields)

abbrev pub AsksBounded : List ℕ → Option (List ℕ) → List ℕ → Asked → Type 0
AsksBounded table None body asked = asked ≡ Refused InvalidBatch
AsksBounded table (Some boundary) body asked = AsksWithin table boundary body asked

-- what a POST on /$batch with those fields and that body asks for
abbrev pub AsksChanges : List ℕ → List Field → List ℕ → Asked → Type 0
AsksChanges table fields body asked = AsksBounded table (boundary_by fields) body asked
