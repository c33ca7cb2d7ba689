-- What a step of a batch does to a sound pair of stores.
use Rattle.std.specs.Prelude.{◌≡◌, ◌≢◌, Bool, All, List, length, Some, None}
use Rattle.std.specs.List.{zip, AllPairs}
use Rattle.mt_model.specs.declared.tag.Tag.{Tag}
use Rattle.mt_chain.specs.declared.op.Op.{Op}
use Rattle.mt_chain.specs.Table.{IsSameTable}
use Rattle.mt_chain.specs.Batch.{refusal_of, batch_applied}
use Rattle.mt_history.specs.Legal.{tags_written, IsGone}
use Rattle.mt_meta.specs.Logical.{Pair}
use Rattle.mt_meta.specs.Steps.{logical_table, ActorStep, IsFresh}
use Rattle.mt_batch_plan.specs.declared.place.Place.{Place}
use Rattle.mt_batch_plan.specs.declared.call.BatchProgress.{BatchProgress}
use Rattle.mt_batch_plan.specs.declared.call.BatchProgress.TheVariants.{More, Written, Refused}
use Rattle.mt_batch_plan.specs.Calls.{place_facts}

-- the batch was not refused; the table is the batch on the one before, with these tags; those of its writes are fresh and differ, and those of its deletes are of the rows that went
pub record IsWritten (ops : List Op) (tags : List Tag) (p q : Pair) : Type 0 where
  pub accepted : refusal_of ops (logical_table p) ≡ None
  pub each : length tags ≡ length ops
  pub table : IsSameTable (logical_table q) (batch_applied ops tags (logical_table p))
  pub fresh : All (IsFresh p q) (tags_written ops tags)
  pub apart : AllPairs (λ a b. a ≢ b) (tags_written ops tags)
  pub gone : All (IsGone (logical_table p)) (zip ops tags)

-- more to do, and a refusal, change nothing; a refusal is the reference table's
abbrev pub Does : List Op → BatchProgress → Pair → Pair → Type 0
Does ops More p q = q ≡ p
Does ops (Refused refusal) p q = (q ≡ p) × (refusal_of ops (logical_table p) ≡ Some refusal)
Does ops (Written tags) p q = IsWritten ops tags p q

-- a step of a batch, from one place to the next: a step of an actor that knows what these places know
abbrev pub BatchStep : List Op → Place → Place → Bool → BatchProgress → Pair → Pair → Type 0
BatchStep ops place to retired said p q = ActorStep (place_facts ops place) (place_facts ops to) retired retired (Does ops said) p q
