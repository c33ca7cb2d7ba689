use Rattle.std.proofs.Common.{inl, refl}
use Rattle.mt_open.specs.Holdings.{pair_in}
use Rattle.mt_open.specs.Damage.{FailsNumber}
use Rattle.mt_open.proofs.TagLaws.{shared_test}
use Rattle.mt_open.proofs.tags.fails_own.Goals as goal

pub returns-then-fails_number : goal.returns-then-fails_number
returns-then-fails_number c = (λ e. inl (c.fails_number.ensures.0 c.if-fails_number.true), λ h. refl)

pub returns : goal.returns
returns c =
    let good : ¬ FailsNumber (pair_in c.args.stores.now) c.args.side c.args.row.now.tag = λ bad. (let x = c.fails_number.ensures.1 bad in let y = c.if-fails_number.false in cc) in
    rw (c.has.ensures, c.requires.repeats c.args.side c.args.row.now.tag.n)
    (shared_test (pair_in c.args.stores.now) c.args.side c.args.key.now c.args.row.now c.requires.rising c.requires.found good)
