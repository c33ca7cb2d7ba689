use Rattle.std.proofs.Common.{◌≡◌, ◌+◌, length, subst, sym, ap, arith}
use Rattle.mt_open.specs.Damage.{IsFirstBy}
use Rattle.mt_open.specs.Holdings.{pair_in}
use Rattle.mt_open.proofs.FirstLaws.{CleanBelow, clean_more, clean_all, damage_by}
use Rattle.mt_open.proofs.first.first_by_rows.Goals as goal

pub returns-in-Some : goal.returns-in-Some
returns-in-Some c =
    let p = pair_in c.args.stores.now in
    damage_by p c.rule_at-rule.result c.in-Some.damage
    (subst (CleanBelow p) (sym c.rule_at-rule.ensures) c.loop-at.invariant)
    (subst (IsFirstBy p c.rule_at-rule.result) c.in-Some.is c.in_ok-damage.ensures)

pub loop-at-preserved : goal.loop-at-preserved
loop-at-preserved c =
    let p = pair_in c.args.stores.now in
    clean_more p (c.loop-at.at + 1) c.rule_at-rule.result c.rule_at-rule.ensures c.loop-at.invariant
    (subst (IsFirstBy p c.rule_at-rule.result) c.in_default.is c.in_ok-damage.ensures)

pub returns : goal.returns
returns c =
    let count : length c.args.rules.now ≡ 8 = ap length c.requires.1 in
    clean_all (pair_in c.args.stores.now) (c.loop-at.at + 1) (omega (arith, c.loop-at-test.false, count)) c.loop-at.invariant
