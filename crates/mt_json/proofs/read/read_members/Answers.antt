use Rattle.std.proofs.Common.{◌⊎◌, Ok, Err, refl, string_bytes, sym, subst}
use Rattle.serde_json.specs.View.{view, members_view}
use Rattle.mt_json.specs.Kind.{kind_in}
use Rattle.mt_json.specs.Body.{Gives, AllGive}
use Rattle.mt_json.proofs.MemberLaws.{NoRoom, fault_of_all}
use Rattle.mt_json.proofs.RisingLaws.{rising_given}
use Rattle.mt_json.proofs.read.read_members.Goals as goal

pub returns-in-Err-clause-err : goal.returns-in-Err-clause-err
returns-in-Err-clause-err c =
    let top = view c.args.object.now in
    let ps = c.loop-name.props.items in
    fault_of_all c.args.keys top ps (string_bytes c.in-Some.name.now) (view c.in-Some.value.now) (members_view c.next.new.self)
    (members_view c.args.members.now.entries) c.in-Err.fault
    (λ r h. c.loop-name.invariant r (subst (λ es. AllGive c.args.keys top ps (members_view es) r) (sym c.in-Some.ensures.steps) h))
    (subst (λ name. Gives c.args.keys (kind_in top name) name (view c.in-Some.value.now) (Err c.in-Err.fault) ⊎ NoRoom (Err c.in-Err.fault)) c.as_str.ensures.value c.in-Err.ensures.gives)

pub returns-clause-rising : goal.returns-clause-rising
returns-clause-rising c =
    let top = view c.args.object.now in
    let ps = c.loop-name.props.items in
    rising_given c.args.keys top c.args.members.now.entries ps c.iter-name-items.ensures.ordered
    (c.loop-name.invariant (Ok ps) (subst (λ es. AllGive c.args.keys top ps (members_view es) (Ok ps)) (sym c.in-None.ensures.steps.0) refl))
