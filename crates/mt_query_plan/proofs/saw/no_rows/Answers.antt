use Rattle.std.proofs.Common.{sym, subst}
use Rattle.mt_chain.specs.Rows.{RisingRows}
use Rattle.mt_query_plan.proofs.RangeLaws.{none_rise}
use Rattle.mt_query_plan.proofs.saw.no_rows.Goals as goal

pub of-requires : goal.of-requires
of-requires c = subst RisingRows (sym c.new.ensures.items) none_rise
