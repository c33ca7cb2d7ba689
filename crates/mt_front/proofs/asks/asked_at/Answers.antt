use Rattle.std.proofs.Common.{◌∙◌, sym}
use Rattle.mt_front.proofs.RouteLaws.{none_of, routed}
use Rattle.mt_front.proofs.asks.asked_at.Goals as goal

pub unreachable-requires : goal.unreachable-requires
unreachable-requires c =
    routed c.is_atomic.result c.args.table.now c.args.spelled c.args.method (sym c.in_ok-refusal.ensures ∙ none_of c.in_ok-refusal.field-0 c.in_default.not-Some) (sym c.route_by.ensures ∙ c.in-None.is)
