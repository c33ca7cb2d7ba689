use Rattle.std.proofs.Common.{◌≤◌, length, refl, ap, sym, subst, ◌∙◌, IsSome, ◌+◌}
use Rattle.std.specs.Option.{option_copied_mut}
use Rattle.std.specs.Map.{count_at}
use Rattle.mt_world.specs.Logs.{Log}
use Rattle.mt_world.proofs.LogLaws.{numbers_raised, room_few, log_more}
use Rattle.mt_world.proofs.log.Log.push.Goals as goal

pub invariant_of-self : goal.invariant_of-self
invariant_of-self c =
    let n = c.in-Some.next.now in
    let found = sym c.get_mut.ensures.value ∙ ap option_copied_mut c.in-Some.is in
    let counted = sym (ap (λ o. count_at (λ _. o) c.args.caller) found) in
    let number = numbers_raised c.self.inside.numbers.entries _ c.args.caller n counted ((c.get_mut.follows.holds (n + 1)).3 (subst IsSome (sym found) refl)).0 in
    let few = subst (λ (l : Log). length l.history.entries ≤ l.history.limit) (sym c.self.view_is) (room_few c.args.self.now.history _ c.requires.room) in
    log_more (record { history = c.self.inside.history; numbers = c.self.inside.numbers.entries; fault_entries = c.self.inside.fault_entries }) c.push.new.self _ _
    (record { caller = c.args.caller; number = n; what = c.args.what }) c.self.invariant few counted c.requires.tagged
    number c.count_with-self-inside.ensures (ap (λ h. h.first) c.push.ensures) (ap (λ h. h.entries) c.push.ensures) (ap (λ h. h.limit) c.push.ensures)

pub returns-clause-numbers : goal.returns-clause-numbers
returns-clause-numbers c =
    let n = c.in-Some.next.now in
    let found = sym c.get_mut.ensures.value ∙ ap option_copied_mut c.in-Some.is in
    let counted = sym (ap (λ o. count_at (λ _. o) c.args.caller) found) in
    rw (← c.self.view_is) (numbers_raised c.self.inside.numbers.entries _ c.args.caller n counted ((c.get_mut.follows.holds (n + 1)).3 (subst IsSome (sym found) refl)).0)
