-- What the code's own steps of a batch call answer.
use Rattle.std.specs.Prelude.{◌≡◌, List, None, Some}
use Rattle.mt_chain.specs.declared.op.Op.{Op}
use Rattle.mt_chain.specs.Table.{Table}
use Rattle.mt_chain.specs.Batch.{refusal_of}
use Rattle.mt_batch_plan.specs.declared.call.BatchProgress.{BatchProgress}
use Rattle.mt_batch_plan.specs.declared.call.BatchProgress.TheVariants as progress
use Rattle.mt_batch_plan.specs.declared.place.Place.{Place}
use Rattle.mt_batch_plan.specs.declared.place.Place.TheVariants as place
use Rattle.mt_batch_plan.specs.declared.plan.Verdict.{Verdict}
use Rattle.mt_batch_plan.specs.declared.plan.Verdict.TheVariants as verdict
use Rattle.mt_batch_plan.specs.declared.saw.Lead.{Lead}
use Rattle.mt_batch_plan.specs.declared.saw.Lead.TheVariants as lead
use Rattle.mt_batch_plan.specs.declared.saw.Seen.{Seen}
use Rattle.mt_batch_plan.specs.declared.saw.Seen.TheVariants as seen
use Rattle.mt_batch_plan.specs.Bases.{IsMarked}
use Rattle.mt_batch_plan.specs.Calls.{PlaceFits, begin, decide}
use Rattle.mt_batch_plan.specs.Plans.{IsPlan, IsPlanned}

-- the first refusal, or that there is none, and the plan
abbrev pub IsJudged : List Op → Table → Verdict → Type 0
IsJudged ops table (verdict.Refused refusal) = refusal_of ops table ≡ Some refusal
IsJudged ops table (verdict.Accepted plan) = (refusal_of ops table ≡ None) × IsPlan ops table plan.order.items plan.tags.items

-- where a batch goes as the marker leads it
abbrev pub led_to : List Op → Lead → Place × BatchProgress
led_to ops lead.Again = begin
led_to ops (lead.New after) = (place.ReadNew after, progress.More)
led_to ops (lead.Judge basis) = decide ops basis

-- the marker lets clients write what the batch is judged on
abbrev pub IsLed : Lead → Type 0
IsLed lead.Again = Unit {0}
IsLed (lead.New after) = Unit {0}
IsLed (lead.Judge basis) = IsMarked basis

-- where the call goes after a read, with what it keeps there
abbrev pub Sees : List Op → Place × BatchProgress → Seen → Type 0
Sees ops step seen.Again = step ≡ begin
Sees ops step (seen.Refused refusal) = step ≡ (place.ReadOld, progress.Refused refusal)
Sees ops step (seen.Read after) = step ≡ (place.ReadNew after, progress.More)
Sees ops step (seen.Write basis plan) = (step ≡ (place.Write basis, progress.More)) × PlaceFits ops (place.Write basis) × IsPlanned ops (place.Write basis) plan.order.items plan.tags.items
