use Rattle.std.proofs.Common.{◌≡◌, ◌≢◌, ◌+◌, refl, subst, Ok}
use Rattle.std.specs.Prelude.{MatchBool}
use Rattle.mt_world.specs.declared.actor.Progress.TheVariants.{More}
use Rattle.mt_world.specs.Turns.{Turned}
use Rattle.mt_world.proofs.StepsLaws.{along_more, along_ends, still_ready, under_still}
use Rattle.mt_world.proofs.world.World.steps.Goals.{then-taken-steps-via-then-taken-steps, then-taken-steps-via-else-taken-steps+then-not-goes_on}
use Rattle.mt_world.proofs.world.World.steps.Goals as goal

pub returns-then-taken-steps : goal.returns-then-taken-steps
returns-then-taken-steps g c =
    let so_far = c.loop-taken.invariant in
    along_ends c.args.self.now c.loop-taken.self c.turn-came.new.self c.args.caller c.args.actor.now c.loop-taken.actor c.turn-came.new.actor c.loop-taken.taken c.args.steps
    (record { taken = c.loop-taken.taken + 1; came = c.turn-came.result }) c.turn-came.ensures.turns.0 c.requires.machine so_far.3 so_far.1 c.turn-came.ensures.turns.1 refl so_far.0
    (elim c.then-taken-steps.branch as (λ _. c.turn-came.result ≡ Ok More → c.loop-taken.taken + 1 ≡ c.args.steps) [
      | then-taken-steps-via-then-taken-steps w ↦ λ more. w.if-taken-steps.true
      | then-taken-steps-via-else-taken-steps+then-not-goes_on w ↦ λ more. absurd (subst (λ b. MatchBool b (c.turn-came.result ≡ Ok More) (c.turn-came.result ≢ Ok More)) w.if-not-goes_on.true w.goes_on.ensures more)
    ])

pub loop-taken-preserved-else-not-goes_on-9 : goal.loop-taken-preserved-else-not-goes_on-9
loop-taken-preserved-else-not-goes_on-9 g c =
    let so_far = c.loop-taken.invariant in
    let more = subst (λ b. MatchBool b (c.turn-came.result ≡ Ok More) (c.turn-came.result ≢ Ok More)) c.if-not-goes_on.false c.goes_on.ensures in
    let t = subst (λ r. Turned c.loop-taken.self c.args.caller c.loop-taken.actor r c.turn-came.new.self c.turn-came.new.actor) more c.turn-came.ensures.turns in (
      under_still c.loop-taken.taken c.args.steps so_far.0 c.if-taken-steps.false,
      still_ready c.args.self.now c.loop-taken.self c.turn-came.new.self c.args.caller c.args.actor.now c.loop-taken.actor c.turn-came.new.actor c.loop-taken.taken t.0 c.requires.machine so_far.3 so_far.1 t.1,
      t.1.knows,
      along_more c.args.self.now c.loop-taken.self c.turn-came.new.self c.args.caller c.args.actor.now c.loop-taken.actor c.turn-came.new.actor c.loop-taken.taken t.0 so_far.3 t.1,
    )
