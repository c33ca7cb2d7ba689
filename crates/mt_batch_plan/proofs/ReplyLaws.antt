-- What a batch call makes of replies, for those who take turns with it: they need not know its places.
use Rattle.std.proofs.Common.{◌≡◌, Bool, true, false, List, length, refl, ap, ◌∙◌, subst, Option, Some, None, Ok, Err}
use Rattle.mt_model.specs.declared.text.NoMemory.{NoMemory}
use Rattle.mt_model.specs.declared.tag.Tag.{Tag}
use Rattle.mt_chain.specs.declared.op.Op.{Op}
use Rattle.mt_chain.specs.declared.op.Refusal.{Refusal}
use Rattle.mt_chain.specs.declared.row.StoredRow.{StoredRow}
use Rattle.mt_chain.specs.declared.query.RangeQuery.{RangeQuery}
use Rattle.mt_chain.specs.declared.query.Found.{Found}
use Rattle.mt_chain.specs.declared.ask.Ask.TheVariants as ask
use Rattle.mt_chain.specs.declared.ask.StoreAsk.{StoreAsk}
use Rattle.mt_chain.specs.declared.ask.StoreReply.{StoreReply}
use Rattle.mt_chain.specs.declared.ask.StoreReply.TheVariants as reply
use Rattle.mt_chain.specs.Rows.{row_in}
use Rattle.mt_chain.specs.Table.{Table}
use Rattle.mt_chain.specs.Batch.{refusal_of}
use Rattle.mt_meta.specs.declared.marker.Phase.{Phase}
use Rattle.mt_meta.specs.declared.marker.Phase.TheVariants.{UseOld, PreferOld, PreferNew}
use Rattle.mt_meta.specs.declared.marker.NewPhase.{NewPhase}
use Rattle.mt_meta.specs.declared.marker.NewPhase.TheVariants.{Filling, UseNew}
use Rattle.mt_meta.specs.Markers.{marker_key, old_phase_of, new_phase_of}
use Rattle.mt_batch_plan.specs.declared.basis.Basis.{Basis}
use Rattle.mt_batch_plan.specs.declared.basis.Basis.TheVariants.{OldRows, OldBirth, Overlay, NewRows, NewBirth}
use Rattle.mt_batch_plan.specs.declared.place.AfterOld.{AfterOld}
use Rattle.mt_batch_plan.specs.declared.place.AfterOld.TheVariants.{Turned, Closed}
use Rattle.mt_batch_plan.specs.declared.place.Place.{Place}
use Rattle.mt_batch_plan.specs.declared.place.Place.TheVariants.{ReadOld, ReadNew, Write}
use Rattle.mt_batch_plan.specs.declared.call.BatchProgress.{BatchProgress}
use Rattle.mt_batch_plan.specs.declared.call.BatchProgress.TheVariants.{More, Written, Refused}
use Rattle.mt_batch_plan.specs.Bases.{table_on}
use Rattle.mt_batch_plan.specs.Calls.{Asks, Absorbs, AnswersTags, decided, decide, marker_says, saw_old, saw, phase_says, saw_new, saw_entries, is_write}
use Rattle.mt_batch_plan.proofs.OnTags.{length-answered}

-- ---- tags come only of writes, one for each operation

abbrev is_written : BatchProgress → Bool
is_written More = false
is_written (Written tags) = true
is_written (Refused refusal) = false

unwritten_decided : (o : Option Refusal) (basis : Basis) → is_written (decided o basis).1 ≡ false
unwritten_decided None basis = refl
unwritten_decided (Some refusal) basis = refl

unwritten_decide : (ops : List Op) (basis : Basis) → is_written (decide ops basis).1 ≡ false
unwritten_decide ops basis = unwritten_decided (refusal_of ops (table_on basis)) basis

unwritten_says : (ops : List Op) (rows : List StoredRow) (phase : Option Phase) → is_written (marker_says ops rows phase).1 ≡ false
unwritten_says ops rows (Some UseOld) = unwritten_decide ops (OldRows rows)
unwritten_says ops rows (Some PreferOld) = unwritten_decide ops (OldRows rows)
unwritten_says ops rows (Some PreferNew) = refl
unwritten_says ops rows None = refl

unwritten_old : (ops : List Op) (rows : List StoredRow) (marker : Option StoredRow) (sealed : Bool) → is_written (saw_old ops rows marker sealed).1 ≡ false
unwritten_old ops rows (Some m) sealed = unwritten_says ops rows (old_phase_of m.tag.store m.props)
unwritten_old ops rows None false = unwritten_decide ops OldBirth
unwritten_old ops rows None true = refl

unwritten_phase : (ops : List Op) (after : AfterOld) (entries : List StoredRow) (phase : Option NewPhase) → is_written (phase_says ops after entries phase).1 ≡ false
unwritten_phase ops (Turned rows) entries (Some Filling) = unwritten_decide ops (Overlay rows entries)
unwritten_phase ops Closed entries (Some Filling) = refl
unwritten_phase ops (Turned rows) entries (Some UseNew) = unwritten_decide ops (NewRows entries)
unwritten_phase ops Closed entries (Some UseNew) = unwritten_decide ops (NewRows entries)
unwritten_phase ops (Turned rows) entries None = refl
unwritten_phase ops Closed entries None = refl

unwritten_new : (ops : List Op) (after : AfterOld) (entries : List StoredRow) (marker : Option StoredRow) → is_written (saw_new ops after entries marker).1 ≡ false
unwritten_new ops after entries (Some m) = unwritten_phase ops after entries (new_phase_of m.props)
unwritten_new ops (Turned rows) entries None = refl
unwritten_new ops Closed entries None = unwritten_decide ops NewBirth

unwritten : (step : Place × BatchProgress) (to : Place) (tags : List Tag) → is_written step.1 ≡ false → (to, Written tags) ≡ step → ⊥
unwritten step to tags none e = (let x : true ≡ false = ap (λ (y : Place × BatchProgress). is_written y.1) e ∙ none in cc)

of_answer : (ops : List Op) (table : Table) (given tags : List Tag) → AnswersTags ops table given tags → length tags ≡ length ops
of_answer ops table given tags h = ap length h.answer ∙ length-answered ops h.by_op table h.each.0

pub tags_at_write : (ops : List Op) (place to : Place) (r : StoreReply) (tags : List Tag) → Absorbs ops place r (Ok (Written tags)) to → (is_write place ≡ true) × (length tags ≡ length ops)
tags_at_write ops ReadOld to (reply.Found found) tags h = absurd (unwritten (saw ops found) to tags (unwritten_old ops found.named (row_in found.named marker_key) found.sealed) h)
tags_at_write ops ReadOld to r tags h = absurd h
tags_at_write ops (ReadNew after) to (reply.Found found) tags h = absurd (unwritten (saw_entries ops after found) to tags (unwritten_new ops after found.named (row_in found.named marker_key)) h)
tags_at_write ops (ReadNew after) to r tags h = absurd h
tags_at_write ops (Write basis) to (reply.Applied given) tags h = (refl, of_answer ops (table_on basis) given tags h.1)
tags_at_write ops (Write basis) to r tags h = absurd h

-- ---- want of memory comes only of a read

pub record IsRead (a : StoreAsk) (r : StoreReply) : Type 0 where
  pub query : RangeQuery
  pub found : Found
  pub asks : a.ask ≡ ask.Query query
  pub replies : r ≡ reply.Found found

pub memory_at_read : (ops : List Op) (place to : Place) (a : StoreAsk) (r : StoreReply) (none : NoMemory) → Asks ops place a → Absorbs ops place r (Err none) to → IsRead a r
memory_at_read ops ReadOld to a (reply.Found found) none asks h = record { query = _; found = found; asks = ap (λ (x : StoreAsk). x.ask) asks.2; replies = refl }
memory_at_read ops ReadOld to a r none asks h = absurd h
memory_at_read ops (ReadNew after) to a (reply.Found found) none asks h = record { query = _; found = found; asks = ap (λ (x : StoreAsk). x.ask) asks.2; replies = refl }
memory_at_read ops (ReadNew after) to a r none asks h = absurd h
memory_at_read ops (Write basis) to a (reply.Found found) none asks h = absurd h
memory_at_read ops (Write basis) to a (reply.Applied given) none asks h = absurd h
memory_at_read ops (Write basis) to a (reply.Next next) none asks h = absurd h
memory_at_read ops (Write basis) to a reply.SealDone none asks h = absurd h
memory_at_read ops (Write basis) to a (reply.Unmet index) none asks h = absurd h
memory_at_read ops (Write basis) to a reply.SealedOff none asks h = absurd h

-- ---- a write that was done does not go on

pub done_ends : (ops : List Op) (place to : Place) (r : StoreReply) → is_write place ≡ true → (given : List Tag) × (r ≡ reply.Applied given) → Absorbs ops place r (Ok More) to → ⊥
done_ends ops ReadOld to r e done h = absurd cc
done_ends ops (ReadNew after) to r e done h = absurd cc
done_ends ops (Write basis) to r e done h = subst (λ x. Absorbs ops (Write basis) x (Ok More) to) done.1 h
