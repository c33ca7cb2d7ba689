use Rattle.mt_history.proofs.ListingLaws.{no_keys}
use Rattle.mt_query_plan.proofs.saw.nothing.Goals as goal

pub of-requires : goal.of-requires
of-requires c = no_keys c.new.result.items c.new.ensures.items
