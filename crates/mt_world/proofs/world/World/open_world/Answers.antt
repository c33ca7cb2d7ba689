use Rattle.std.proofs.Common.{rules, ◌≡◌, ◌∙◌, ◌+◌, refl, arith}
use Rattle.mt_world.proofs.OpenLaws.{opened_world}
use Rattle.mt_world.proofs.world.World.open_world.Goals as goal

pub invariant_of-result : goal.invariant_of-result
invariant_of-result g c =
    let opens = c.in-Ok.ensures.opens in
    let faults : (g.K.Keeper.state c.of-old_opened.result.value).faults + (g.K.Keeper.state c.of-new_opened.result.value).faults
    ≡ (g.K.Keeper.state c.open_stores.new.old_store).faults + (g.K.Keeper.state c.open_stores.new.new_store).faults = search rules in
    opened_world _ _ _ (opens.old_stays.number ∙ c.requires.old, opens.new_stays.number ∙ c.requires.new) opens c.new.ensures.first c.new.ensures.entries
    (let limit = c.new.ensures.limit in let bounded = c.requires.bounded in omega (arith, limit, bounded))
    c.new.ensures.numbers c.new.ensures.faults refl c.in-Ok.ensures.emptied faults
