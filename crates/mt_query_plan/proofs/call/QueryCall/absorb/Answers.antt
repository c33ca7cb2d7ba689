use Rattle.std.proofs.Common.{sym, subst, Ok}
use Rattle.mt_chain.specs.declared.ask.StoreReply.{StoreReply}
use Rattle.mt_query_plan.specs.declared.place.Place.TheVariants.{ReadNew}
use Rattle.mt_query_plan.specs.declared.call.QueryProgress.TheVariants.{More}
use Rattle.mt_query_plan.specs.Queries.{Call, lead_of, Absorbs}
use Rattle.mt_query_plan.proofs.CallLaws.{read_on}
use Rattle.mt_query_plan.proofs.call.QueryCall.absorb.Goals as goal

pub returns-in-Read-clause-moves : goal.returns-in-Read-clause-moves
returns-in-Read-clause-moves c =
    let inside = c.self.inside in
    let after = c.in-Read.after in
    subst (λ (call : Call). Absorbs call c.args.reply (Ok More) (ReadNew after)) c.self.view_is
    (subst (λ (r : StoreReply). Absorbs (record { pk = inside.pk; filter = inside.filter; place = inside.place }) r (Ok More) (ReadNew after)) (sym c.in-Found.is)
    (read_on inside.pk inside.filter (lead_of inside.place c.in-Found.found) c.in_ok-seen.seen after c.in-Read.is c.in_ok-seen.ensures))
