use Rattle.std.proofs.Common.{rules, subst, ap, ◌∙◌}
use Rattle.mt_turn.specs.Windows.{last_of}
use Rattle.mt_turn.specs.Views.{sees}
use Rattle.mt_turn.specs.Passes.{known}
use Rattle.mt_turn.specs.Turns.{IsLater}
use Rattle.mt_turn.proofs.WindowLaws.{last_snoc}
use Rattle.mt_turn.proofs.MeetLaws.{notes, met}
use Rattle.mt_turn.proofs.turnstile.Turnstile.meet.Goals as goal

pub split_seat-note-requires : goal.split_seat-note-requires
split_seat-note-requires g c = let j = g.W.Journaled in (search rules, search rules, notes j.window j.base_after j.fixed j.caller_of j.holds j.tells j.apart _ _ _)

pub split_seat-back-requires : goal.split_seat-back-requires
split_seat-back-requires g c = let j = g.W.Journaled in (search rules, search rules, notes j.window j.base_after j.fixed j.caller_of j.holds j.tells j.apart _ _ _)

pub returns-clause-later : goal.returns-clause-later
returns-clause-later g c =
    let j = g.W.Journaled in
    let first = c.learn.ensures.later in
    let second = c.learn-2.ensures.later in
    let x = first.0 in
    let y = second.0 in
    let note = c.split_seat-note.ensures in
    let back = c.split_seat-back.ensures in
    let later = subst (λ m. IsLater j.base_after (last_of (known c.args.pass.now).seen) (last_of m.0.seen) x) note.4 first.1 in
    let again = subst (λ m. IsLater j.base_after (last_of m.0.seen) (last_of c.split_seat-back.result.me.0.seen) y) note.2 second.1 in
    let told = subst (λ m. IsLater j.base_after (last_of (known c.args.other.now).seen) (last_of m.0.seen) y) back.4 again in
    let told_x = subst (λ v. IsLater j.base_after (last_of (known c.args.other.now).seen) (last_of v.seen) y) first.2 told in
    let one = met j.base_after (last_of (known c.args.pass.now).seen) (last_of (known c.args.other.now).seen) x y later (subst (λ o. IsLater j.base_after (last_of (known c.args.other.now).seen) o y) (last_snoc (known c.args.pass.now).seen x) told_x) in
    (x, later, ap (λ m. m.0) back.2 ∙ first.2, second.2 ∙ ap (λ m. sees m.0 y) note.2 ∙ ap (sees (known c.args.other.now)) one)
