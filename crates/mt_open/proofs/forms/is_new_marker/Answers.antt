use Rattle.mt_open.proofs.FormLaws.{new_marker_test}
use Rattle.mt_open.proofs.forms.is_new_marker.Goals as goal

pub returns-then-is_single : goal.returns-then-is_single
returns-then-is_single c = rw (c.is_some.ensures, c.new_phase_of_props.ensures) (new_marker_test c.args.props.now (c.is_single.ensures.0 c.if-is_single.true))
