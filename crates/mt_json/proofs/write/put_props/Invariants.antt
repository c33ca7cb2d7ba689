use Rattle.std.proofs.Common.{option_map, drop}
use Rattle.serde_json.specs.Data.{Members}
use Rattle.serde_json.specs.View.{members_view}
use Rattle.mt_json.specs.Written.{AddProps, AreNamed}
use Rattle.mt_json.proofs.write.put_props.Given as goal

-- whatever what is left makes of the members now, all make of the first ones, and all have names if what is left has
abbrev pub invariant-loop-prop : goal.invariant-loop-prop
invariant-loop-prop l = record {
  adds : (new : Members) → AddProps l.level (option_map (λ v. v.now.items) l.chosen) (drop l.prop-index l.props) (members_view l.members.entries) new
      → AddProps l.level (option_map (λ v. v.now.items) l.chosen) l.props (members_view l.initial.members.entries) new;
  named : AreNamed (drop l.prop-index l.props) → AreNamed l.props;
}
