use Rattle.std.proofs.Common.{rules, ap}
use Rattle.mt_turn.proofs.Seats.{begun_after}
use Rattle.mt_turn.proofs.TurnLaws.{leaves}
use Rattle.mt_turn.proofs.turnstile.Turnstile.give_knowing.Goals as goal

pub store-requires : goal.store-requires
store-requires g c = let j = g.W.Journaled in let l = g.met.W.Journaled in
    (search rules, search rules, leaves j.window j.base_after j.fixed j.caller_of j.holds j.tells j.apart _ j.calls j.keeps l.kept l.apart_both _ _ _ _ c.args.value _ (search rules) (search rules) (search rules) (search rules) (search rules) (search rules) c.made-word.ensures (search rules) (search rules))

pub invariant_of-pass-clause-begun : goal.invariant_of-pass-clause-begun
invariant_of-pass-clause-begun g c =
    let did = c.store.ensures.2 c.args.value (search rules) in
    begun_after _ c.exchange.new.seat.me.0.seen (g.W.Journaled.window c.args.value) (ap (λ m. m.0.seen) did.0)
