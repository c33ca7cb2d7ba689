use Rattle.std.proofs.Common.{subst, sym, ◌∙◌}
use Rattle.mt_open.specs.Damage.{IsFirstByRows}
use Rattle.mt_open.specs.Holdings.{pair_in}
use Rattle.mt_open.proofs.FirstLaws.{fails_nowhere, damage_by_seal}
use Rattle.mt_open.proofs.SoundLaws.{sound_from}
use Rattle.mt_open.proofs.first.first_damage.Goals as goal

pub returns-then-is_sealed : goal.returns-then-is_sealed
returns-then-is_sealed c =
    let p = pair_in c.args.stores.now in
    damage_by_seal p c.in_ok-damage-2.damage (subst (IsFirstByRows p) c.in_default.is c.in_ok-damage.ensures) (sym c.is_sealed.ensures ∙ c.if-is_sealed.true)
    c.in_ok-damage-2.ensures.0 c.in_ok-damage-2.ensures.1 c.in_ok-damage-2.ensures.2

pub returns : goal.returns
returns c =
    let p = pair_in c.args.stores.now in
    sound_from p (fails_nowhere p (subst (IsFirstByRows p) c.in_default.is c.in_ok-damage.ensures) (sym c.is_sealed.ensures ∙ c.if-is_sealed.false))
