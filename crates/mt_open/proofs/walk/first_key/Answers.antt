use Rattle.std.proofs.Common.{Option, Bor, sym, ap, ◌∙◌}
use Rattle.std.specs.Option.{option_copied}
use Rattle.mt_open.proofs.WalkLaws.{Entry, starts_none, starts_old, starts_new, starts_both}
use Rattle.mt_open.proofs.walk.first_key.Goals as goal

pub returns-in-None-None : goal.returns-in-None-None
returns-in-None-None c = starts_none c.args.old.now c.args.new.now
    (ap (λ (o : Option (Bor Entry)). option_copied o) (sym c.in-None-None.is-0) ∙ c.first.ensures.value)
    (ap (λ (o : Option (Bor Entry)). option_copied o) (sym c.in-None-None.is-1) ∙ c.first-2.ensures.value)

pub returns-in-None-Some : goal.returns-in-None-Some
returns-in-None-Some c = starts_new c.args.old.now c.args.new.now c.in-None-Some.row.now c.requires.1
    (ap (λ (o : Option (Bor Entry)). option_copied o) (sym c.in-None-Some.is-0) ∙ c.first.ensures.value)
    (ap (λ (o : Option (Bor Entry)). option_copied o) (sym c.in-None-Some.is-1) ∙ c.first-2.ensures.value)

pub returns-in-Some-None : goal.returns-in-Some-None
returns-in-Some-None c = starts_old c.args.old.now c.args.new.now c.in-Some-None.row.now c.requires.0
    (ap (λ (o : Option (Bor Entry)). option_copied o) (sym c.in-Some-None.is-0) ∙ c.first.ensures.value)
    (ap (λ (o : Option (Bor Entry)). option_copied o) (sym c.in-Some-None.is-1) ∙ c.first-2.ensures.value)

pub returns-in-Some-Some : goal.returns-in-Some-Some
returns-in-Some-Some c = starts_both c.args.old.now c.args.new.now c.in-Some-Some.row.now c.in-Some-Some.other.now c.lesser.result.now c.requires.0 c.requires.1
    (ap (λ (o : Option (Bor Entry)). option_copied o) (sym c.in-Some-Some.is-0) ∙ c.first.ensures.value)
    (ap (λ (o : Option (Bor Entry)). option_copied o) (sym c.in-Some-Some.is-1) ∙ c.first-2.ensures.value)
    c.lesser.ensures
