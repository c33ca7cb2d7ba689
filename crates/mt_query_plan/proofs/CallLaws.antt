-- What a read comes to in memory is where the call then is.
use Rattle.std.proofs.Common.{◌≡◌, ℕ, List, Option, ap, subst}
use Rattle.mt_filter.specs.declared.filter.Filter.{Filter}
use Rattle.mt_query_plan.specs.declared.place.AfterOld.{AfterOld}
use Rattle.mt_query_plan.specs.declared.place.Place.TheVariants.{ReadNew}
use Rattle.mt_query_plan.specs.declared.call.QueryProgress.TheVariants.{More}
use Rattle.mt_query_plan.specs.declared.saw.Seen.{Seen}
use Rattle.mt_query_plan.specs.declared.saw.Seen.TheVariants as seen
use Rattle.mt_query_plan.specs.Queries.{Lead, again, on, answered, Sees, Comes}

goes_on : (pk : List ℕ) (test : Option Filter) (lead : Lead) (after : AfterOld) → Sees pk test lead (seen.Read after) → Comes pk test lead More (ReadNew after)
goes_on pk test again after h = absurd h
goes_on pk test (on there) after h = ap ReadNew h
goes_on pk test (answered phase rows entries) after h = absurd h

pub read_on : (pk : List ℕ) (test : Option Filter) (lead : Lead) (came : Seen) (after : AfterOld) → came ≡ seen.Read after → Sees pk test lead came → Comes pk test lead More (ReadNew after)
read_on pk test lead came after is h = goes_on pk test lead after (subst (Sees pk test lead) is h)
