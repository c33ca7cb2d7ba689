use Rattle.std.proofs.Common.{rules, subst, ap, ◌∙◌}
use Rattle.mt_turn.specs.Windows.{last_of}
use Rattle.mt_turn.specs.Views.{sees}
use Rattle.mt_turn.specs.Turns.{IsLater}
use Rattle.mt_turn.proofs.Seats.{begun_after}
use Rattle.mt_turn.proofs.MeetLaws.{joins, looks}
use Rattle.mt_turn.proofs.turnstile.Turnstile.learn.Goals as goal

pub join_seat-requires : goal.join_seat-requires
join_seat-requires g c = let j = g.W.Journaled in (search rules, search rules, search rules, search rules, joins j.window j.base_after j.fixed j.caller_of j.holds j.tells j.apart _ _ _ _ _)

pub load-requires : goal.load-requires
load-requires g c = let j = g.W.Journaled in (search rules, search rules, looks j.window j.base_after j.fixed j.caller_of j.holds j.tells j.apart _ _ _ _ (search rules) (search rules))

pub invariant_of-pass-clause-begun : goal.invariant_of-pass-clause-begun
invariant_of-pass-clause-begun g c =
    let did = c.load.ensures.2 in
    begun_after _ c.join_seat.new.seat.me.0.seen did.0 (ap (λ m. m.0.seen) did.1)

pub returns-clause-later : goal.returns-clause-later
returns-clause-later g c =
    let did = c.load.ensures.2 in
    let told = c.join_seat.ensures.2 in
    (did.0, subst (λ m. IsLater g.W.Journaled.base_after (last_of m.0.seen) m.0.heard did.0) told did.2, ap (λ m. m.0) did.1 ∙ ap (λ m. sees m.0 did.0) told)
