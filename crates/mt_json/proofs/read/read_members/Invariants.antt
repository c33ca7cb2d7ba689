use Rattle.std.proofs.Common.{List, [], Result}
use Rattle.serde_json.specs.View.{view, members_view}
use Rattle.mt_model.specs.declared.value.Prop.{Prop}
use Rattle.mt_json.specs.declared.read.JsonFault.{JsonFault}
use Rattle.mt_json.specs.Body.{AllGive}
use Rattle.mt_json.proofs.read.read_members.Given as goal

-- whatever what is left gives, all give
abbrev pub invariant-loop-name : goal.invariant-loop-name
invariant-loop-name l =
    (r : Result (List Prop) JsonFault) → AllGive l.keys (view l.object) l.props.items (members_view l.name-iterator) r
    → AllGive l.keys (view l.object) [] (members_view l.members.entries) r
