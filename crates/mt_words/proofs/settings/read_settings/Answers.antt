use Rattle.std.proofs.Common.{List, ℕ, sym, subst}
use Rattle.mt_words.specs.Readings.{texts_of, given_of, setting_of, IsReadTo}
use Rattle.mt_words.proofs.ReadLaws.{some_left, none_left, one_read, stuck, repeated, all_read}
use Rattle.mt_words.proofs.settings.read_settings.Goals as goal

pub returns-in_default : goal.returns-in_default
returns-in_default c = stuck (texts_of c.args.words.now) (texts_of c.options.left.now) (given_of c.options.so_far) c.options.invariant (some_left c.options.left.now (sym c.options-test.ensures)) c.in_default.ensures.front

pub returns-in_default-with : goal.returns-in_default-with
returns-in_default-with c =
    repeated (texts_of c.args.words.now) (texts_of c.options.left.now) (texts_of c.in-Some.peeled.rest.now) (given_of c.options.so_far) (setting_of c.in-Some.peeled.setting) c.options.invariant (some_left c.options.left.now (sym c.options-test.ensures)) c.in-Some.ensures.front (c.in_default-with.ensures c.options.invariant.before c.options.invariant.gives)

pub options-preserved : goal.options-preserved
options-preserved c =
    one_read (texts_of c.args.words.now) (texts_of c.options.left.now) (texts_of c.in-Some.peeled.rest.now) (given_of c.options.so_far) (given_of c.in-Some-with.joined) (setting_of c.in-Some.peeled.setting) c.options.invariant (some_left c.options.left.now (sym c.options-test.ensures)) c.in-Some.ensures.front (c.in-Some-with.ensures c.options.invariant.before c.options.invariant.gives)

pub returns : goal.returns
returns c =
    let none = none_left c.options.left.now (sym c.options-test.ensures) in
    all_read (texts_of c.args.words.now) (given_of c.options.so_far) (subst (λ (x : List (List ℕ)). IsReadTo (texts_of c.args.words.now) (given_of c.options.so_far) x) none c.options.invariant)
