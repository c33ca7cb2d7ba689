-- The call of a client's batch: where it is, what it asks there, and how it moves with each reply.
use Rattle.std.specs.Prelude.{◌≡◌, ℕ, Bool, true, false, List, [], ◌∷◌, map, Option, Some, None, Result, Ok, Err}
use Rattle.std.specs.List.Sorted.{IsStrictlySortedBy, IsPermutation}
use Rattle.std.specs.Ordering.{nat_cmp}
use Rattle.std.specs.Cmp.Lexicographic.{slice_cmp}
use Rattle.mt_model.specs.declared.text.NoMemory.{NoMemory}
use Rattle.mt_model.specs.declared.tag.Tag.{Tag}
use Rattle.mt_chain.specs.declared.op.Op.{Op}
use Rattle.mt_chain.specs.declared.op.Refusal.{Refusal}
use Rattle.mt_chain.specs.declared.row.StoredRow.{StoredRow}
use Rattle.mt_chain.specs.declared.query.Found.{Found}
use Rattle.mt_chain.specs.declared.ask.Side.{Side}
use Rattle.mt_chain.specs.declared.ask.Side.TheVariants.{Old, New}
use Rattle.mt_chain.specs.declared.ask.Ask.TheVariants as ask
use Rattle.mt_chain.specs.declared.ask.StoreAsk.{StoreAsk}
use Rattle.mt_chain.specs.declared.ask.StoreReply.{StoreReply}
use Rattle.mt_chain.specs.declared.ask.StoreReply.TheVariants as reply
use Rattle.mt_chain.specs.Table.{Table}
use Rattle.mt_chain.specs.Effect.{op_key}
use Rattle.mt_chain.specs.Batch.{refusal_of, tags_answered, IsReordered}
use Rattle.mt_chain.specs.Rows.{row_in}
use Rattle.mt_rules.specs.Batches.{IsBatch, partition_of}
use Rattle.mt_meta.specs.declared.marker.Phase.{Phase}
use Rattle.mt_meta.specs.declared.marker.Phase.TheVariants.{UseOld, PreferOld, PreferNew}
use Rattle.mt_meta.specs.declared.marker.NewPhase.{NewPhase}
use Rattle.mt_meta.specs.declared.marker.NewPhase.TheVariants.{Filling, UseNew}
use Rattle.mt_meta.specs.Markers.{marker_key, old_phase_of, new_phase_of}
use Rattle.mt_meta.specs.declared.fact.Fact.{Fact}
use Rattle.mt_meta.specs.ReadRows.{closed_fact}
use Rattle.mt_batch_plan.specs.declared.basis.Basis.{Basis}
use Rattle.mt_batch_plan.specs.declared.basis.Basis.TheVariants.{OldRows, OldBirth, Overlay, NewRows, NewBirth}
use Rattle.mt_batch_plan.specs.declared.place.AfterOld.{AfterOld}
use Rattle.mt_batch_plan.specs.declared.place.AfterOld.TheVariants.{Turned, Closed}
use Rattle.mt_batch_plan.specs.declared.place.Place.{Place}
use Rattle.mt_batch_plan.specs.declared.place.Place.TheVariants.{ReadOld, ReadNew, Write}
use Rattle.mt_batch_plan.specs.declared.call.BatchProgress.{BatchProgress}
use Rattle.mt_batch_plan.specs.declared.call.BatchProgress.TheVariants.{More, Written, Refused}
use Rattle.mt_batch_plan.specs.Bases.{table_on, side_of, put_by, marker_put, IsMarked, turned_fact, basis_facts}

-- a batch call: its operations, and where it is
pub record Call : Type 0 where
  pub batch : List Op
  pub place : Place

-- ---- what is asked

-- the keys of the marker and of the rows that the operations name, rising
pub record AreNames (ops : List Op) (names : List (List ℕ)) : Type 0 where
  pub rising : IsStrictlySortedBy (slice_cmp nat_cmp) names
  pub all : IsPermutation (marker_key ∷ map (λ op. (op_key op).rk) ops) names

-- the operations in the order of their row keys
pub record IsInOrder (ops sorted : List Op) : Type 0 where
  pub rising : IsStrictlySortedBy (slice_cmp nat_cmp) (map (λ op. (op_key op).rk) sorted)
  pub all : IsPermutation ops sorted

-- a read of rows of one of the stores by their keys
abbrev pub reads : Side → List ℕ → List (List ℕ) → StoreAsk
reads side pk names = record { side = side; ask = ask.Query (record { pk = pk; named = names; range = None }) }

-- a write: the put of the marker, and then those of the operations
abbrev pub writes : List ℕ → Basis → List Op → StoreAsk
writes pk basis sorted = record { side = side_of basis; ask = ask.Apply pk (marker_put basis ∷ map (put_by basis) sorted) }

-- what a call asks: a read of the marker and the named rows; or a write, whose puts follow the marker's in the order of their keys
abbrev pub Asks : List Op → Place → StoreAsk → Type 0
Asks ops ReadOld a = (names : List (List ℕ)) × AreNames ops names × (a ≡ reads Old (partition_of ops) names)
Asks ops (ReadNew after) a = (names : List (List ℕ)) × AreNames ops names × (a ≡ reads New (partition_of ops) names)
Asks ops (Write basis) a = (sorted : List Op) × IsInOrder ops sorted × (a ≡ writes (partition_of ops) basis sorted)

-- ---- how a call moves

abbrev pub begin : Place × BatchProgress
begin = (ReadOld, More)

-- refused, or on to the write
abbrev pub decided : Option Refusal → Basis → Place × BatchProgress
decided None basis = (Write basis, More)
decided (Some refusal) basis = (ReadOld, Refused refusal)

abbrev pub decide : List Op → Basis → Place × BatchProgress
decide ops basis = decided (refusal_of ops (table_on basis)) basis

-- what the marker in old says
abbrev pub marker_says : List Op → List StoredRow → Option Phase → Place × BatchProgress
marker_says ops rows (Some UseOld) = decide ops (OldRows rows)
marker_says ops rows (Some PreferOld) = decide ops (OldRows rows)
marker_says ops rows (Some PreferNew) = (ReadNew (Turned rows), More)
marker_says ops rows None = begin

-- without a marker old is asked to bear the partition, or has been sealed, and then new is read
abbrev pub saw_old : List Op → List StoredRow → Option StoredRow → Bool → Place × BatchProgress
saw_old ops rows (Some m) sealed = marker_says ops rows (old_phase_of m.tag.store m.props)
saw_old ops rows None false = decide ops OldBirth
saw_old ops rows None true = (ReadNew Closed, More)

abbrev pub saw : List Op → Found → Place × BatchProgress
saw ops found = saw_old ops found.named (row_in found.named marker_key) found.sealed

-- what the marker in new says
abbrev pub phase_says : List Op → AfterOld → List StoredRow → Option NewPhase → Place × BatchProgress
phase_says ops (Turned rows) entries (Some Filling) = decide ops (Overlay rows entries)
phase_says ops Closed entries (Some Filling) = begin
phase_says ops after entries (Some UseNew) = decide ops (NewRows entries)
phase_says ops after entries None = begin

-- without a marker new bears the partition, where old was sealed without it
abbrev pub saw_new : List Op → AfterOld → List StoredRow → Option StoredRow → Place × BatchProgress
saw_new ops after entries (Some m) = phase_says ops after entries (new_phase_of m.props)
saw_new ops (Turned rows) entries None = begin
saw_new ops Closed entries None = decide ops NewBirth

abbrev pub saw_entries : List Op → AfterOld → Found → Place × BatchProgress
saw_entries ops after found = saw_new ops after found.named (row_in found.named marker_key)

-- the tags that a written batch is answered, in its order: those of its puts, and for a delete the tag that clients saw of the row that went
pub record AnswersTags (ops : List Op) (table : Table) (given tags : List Tag) : Type 0 where
  pub first : Tag
  pub rest : List Tag
  pub parts : given ≡ first ∷ rest
  pub sorted : List Op
  pub in_order : IsInOrder ops sorted
  pub by_op : List Tag
  pub each : IsReordered ops by_op sorted rest
  pub answer : tags ≡ tags_answered ops by_op table

-- where a call is after a reply, and what it says; for want of memory it begins again
abbrev pub Reads : Place × BatchProgress → Result BatchProgress NoMemory → Place → Type 0
Reads step (Ok progress) to = (to, progress) ≡ step
Reads step (Err none) to = to ≡ ReadOld

abbrev pub Writes : List Op → Table → List Tag → Result BatchProgress NoMemory → Place → Type 0
Writes ops table given (Ok (Written tags)) to = (to ≡ ReadOld) × AnswersTags ops table given tags
Writes ops table given r to = ⊥

abbrev pub BeginsAgain : Result BatchProgress NoMemory → Place → Type 0
BeginsAgain (Ok More) to = to ≡ ReadOld
BeginsAgain r to = ⊥

-- how a call moves with a reply of the kind that it asked for
abbrev pub Absorbs : List Op → Place → StoreReply → Result BatchProgress NoMemory → Place → Type 0
Absorbs ops ReadOld (reply.Found found) r to = Reads (saw ops found) r to
Absorbs ops (ReadNew after) (reply.Found found) r to = Reads (saw_entries ops after found) r to
Absorbs ops (Write basis) (reply.Applied given) r to = Writes ops (table_on basis) given r to
Absorbs ops (Write basis) (reply.Unmet index) r to = BeginsAgain r to
Absorbs ops (Write basis) reply.SealedOff r to = BeginsAgain r to
Absorbs ops place answer r to = ⊥

-- ---- what a call keeps, whatever the stores reply

-- a write goes on only under a marker that lets clients make it, and where the rows read refuse nothing
abbrev pub PlaceFits : List Op → Place → Type 0
PlaceFits ops ReadOld = Unit {0}
PlaceFits ops (ReadNew after) = Unit {0}
PlaceFits ops (Write basis) = IsMarked basis × (refusal_of ops (table_on basis) ≡ None)

pub record CallFits (call : Call) : Type 0 where
  pub batch : IsBatch call.batch
  pub place : PlaceFits call.batch call.place

-- ---- what a call knows

abbrev pub place_facts : List Op → Place → List Fact
place_facts ops ReadOld = []
place_facts ops (ReadNew (Turned rows)) = turned_fact ops rows ∷ []
place_facts ops (ReadNew Closed) = closed_fact (partition_of ops) ∷ []
place_facts ops (Write basis) = basis_facts ops basis

abbrev pub call_facts : Call → List Fact
call_facts call = place_facts call.batch call.place

-- the call is about to write
abbrev pub is_write : Place → Bool
is_write ReadOld = false
is_write (ReadNew after) = false
is_write (Write basis) = true
