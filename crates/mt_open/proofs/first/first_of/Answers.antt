use Rattle.std.proofs.Common.{Option, Bor, subst, sym, ◌∙◌}
use Rattle.std.specs.Option.{option_copied}
use Rattle.mt_model.specs.declared.key.Key.{Key}
use Rattle.mt_chain.specs.declared.ask.Side.TheVariants.{Old, New}
use Rattle.mt_open.specs.Damage.{IsLeastIn}
use Rattle.mt_open.specs.Holdings.{pair_in}
use Rattle.mt_open.proofs.FirstLaws.{none_by, only_old, only_new, old_first, new_first}
use Rattle.mt_open.proofs.first.first_of.Goals as goal

pub damage_at-requires : goal.damage_at-requires
damage_at-requires c =
    let p = pair_in c.args.stores.now in
    only_new p c.args.rule c.in-None-Some.new.now
    (subst (λ (o : Option (Bor Key)). IsLeastIn p c.args.rule Old (option_copied o)) c.in-None-Some.is-0 c.requires.0)
    (subst (λ (o : Option (Bor Key)). IsLeastIn p c.args.rule New (option_copied o)) c.in-None-Some.is-1 c.requires.1)

pub damage_at-requires-in-Some-None : goal.damage_at-requires-in-Some-None
damage_at-requires-in-Some-None c =
    let p = pair_in c.args.stores.now in
    only_old p c.args.rule c.in-Some-None.old.now
    (subst (λ (o : Option (Bor Key)). IsLeastIn p c.args.rule Old (option_copied o)) c.in-Some-None.is-0 c.requires.0)
    (subst (λ (o : Option (Bor Key)). IsLeastIn p c.args.rule New (option_copied o)) c.in-Some-None.is-1 c.requires.1)

pub damage_at-requires-then-is_old_first : goal.damage_at-requires-then-is_old_first
damage_at-requires-then-is_old_first c =
    let p = pair_in c.args.stores.now in
    old_first p c.args.rule c.in-Some-Some.old.now c.in-Some-Some.new.now
    (subst (λ (o : Option (Bor Key)). IsLeastIn p c.args.rule Old (option_copied o)) c.in-Some-Some.is-0 c.requires.0)
    (subst (λ (o : Option (Bor Key)). IsLeastIn p c.args.rule New (option_copied o)) c.in-Some-Some.is-1 c.requires.1)
    (sym c.is_old_first.ensures ∙ c.if-is_old_first.true)

pub damage_at-requires-else-is_old_first : goal.damage_at-requires-else-is_old_first
damage_at-requires-else-is_old_first c =
    let p = pair_in c.args.stores.now in
    new_first p c.args.rule c.in-Some-Some.old.now c.in-Some-Some.new.now
    (subst (λ (o : Option (Bor Key)). IsLeastIn p c.args.rule Old (option_copied o)) c.in-Some-Some.is-0 c.requires.0)
    (subst (λ (o : Option (Bor Key)). IsLeastIn p c.args.rule New (option_copied o)) c.in-Some-Some.is-1 c.requires.1)
    (sym c.is_old_first.ensures ∙ c.if-is_old_first.false)

pub returns-in-None-None : goal.returns-in-None-None
returns-in-None-None c =
    let p = pair_in c.args.stores.now in
    none_by p c.args.rule
    (subst (λ (o : Option (Bor Key)). IsLeastIn p c.args.rule Old (option_copied o)) c.in-None-None.is-0 c.requires.0)
    (subst (λ (o : Option (Bor Key)). IsLeastIn p c.args.rule New (option_copied o)) c.in-None-None.is-1 c.requires.1)
