use Rattle.std.proofs.Common.{ap, subst, Ok}
use Rattle.mt_query_plan.specs.Queries.{Absorbs}
use Rattle.mt_world.proofs.StageLaws.{query_answered}
use Rattle.mt_world.proofs.query.answer.Goals as goal

pub returns-in-Ok-Rows : goal.returns-in-Ok-Rows
returns-in-Ok-Rows c =
    query_answered c.args.call c.absorb.new.self c.args.reply c.args.log.now c.push.new.self c.args.caller c.in-Ok-Rows.rows _ _
    c.absorb.ensures.pk c.absorb.ensures.filter (ap (λ parts. parts.0) c.into_parts-pk.ensures) (ap (λ parts. parts.1) c.into_parts-pk.ensures)
    (subst (λ s. Absorbs c.args.call c.args.reply (Ok s) c.absorb.new.self.place) c.in-Ok-Rows.field-0-is c.in-Ok-Rows.ensures.moves)
    c.push.ensures.history c.push.ensures.numbers c.push.ensures.faults
