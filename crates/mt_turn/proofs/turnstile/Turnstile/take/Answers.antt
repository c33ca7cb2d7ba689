use Rattle.std.proofs.Common.{rules, ◌≡◌, subst, sym, ◌∙◌, ap, ◌∷◌, Some}
use Rattle.atomic_table.specs.Table.{rest}
use Rattle.mt_turn.specs.Turns.{FindsWindow}
use Rattle.mt_turn.specs.Passes.{known}
use Rattle.mt_turn.proofs.Seats.{begun_after}
use Rattle.mt_turn.proofs.TurnLaws.{claims}
use Rattle.mt_turn.proofs.turnstile.Turnstile.take.Goals as goal

pub compare_exchange-was-requires : goal.compare_exchange-was-requires
compare_exchange-was-requires g c = let j = g.W.Journaled in (search rules, search rules, claims j.window j.base_after j.fixed j.caller_of j.holds j.tells j.apart _ _ _ _ _ (search rules) (search rules) (search rules))

pub exchange-requires : goal.exchange-requires
exchange-requires g c =
    let did = c.compare_exchange-was.ensures.2.0 c.if-was-found.true in
    let lists = ap (λ m. m.1) did.1 in
    (search rules, (Some did.0, lists ∙ ap (λ l. (0, Some did.0) ∷ rest l) (sym lists)))

pub invariant_of-pass-clause-begun : goal.invariant_of-pass-clause-begun
invariant_of-pass-clause-begun g c =
    let did = c.compare_exchange-was.ensures.2.0 c.if-was-found.true in
    let after : c.exchange.new.seat.me.0 ≡ c.compare_exchange-was.new.seat.me.0 = search rules in
    begun_after _ c.loop.pass.seat.me.0.seen (g.W.Journaled.window did.0) (ap (λ v. v.seen) after ∙ ap (λ m. m.0.seen) did.1)

pub returns-then-was-found-clause-window : goal.returns-then-was-found-clause-window
returns-then-was-found-clause-window g c =
    let j = g.W.Journaled in
    let did = c.compare_exchange-was.ensures.2.0 c.if-was-found.true in
    let same : did.0 ≡ c.unwrap.result = search rules in
    let before : c.loop.pass.seat.me ≡ c.args.pass.now.seat.me = search rules in
    subst (λ w. FindsWindow j.base_after j.caller_of (known c.args.pass.now) (j.window w)) same (subst (λ m. FindsWindow j.base_after j.caller_of m.0 (j.window did.0)) before did.2.seen)
