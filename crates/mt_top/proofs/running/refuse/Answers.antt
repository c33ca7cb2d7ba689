use Rattle.std.proofs.Common.{◌≡◌, ◌∙◌, ◌⊎◌, refl, sym, subst, inl}
use Rattle.mt_front.specs.Session.{Sent, Cut}
use Rattle.mt_top.specs.declared.running.Ending.TheVariants.{Damaged}
use Rattle.mt_top.specs.Endings.{Refuses}
use Rattle.mt_top.proofs.running.refuse.Goals as goal

pub returns-in-Ok : goal.returns-in-Ok
returns-in-Ok g c =
    let o = g.T.Sink.output c.args.sink.now in
    let x = g.T.Sink.output c.say.new.sink in
    subst (λ f. Refuses o f Damaged x) (sym c.in-Damaged.is)
    (inl (refl, subst (λ b. Sent o b x ⊎ Cut o b x) (c.as_slice.ensures.value ∙ c.in-Ok.ensures) c.say.ensures))
