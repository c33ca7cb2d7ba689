use Rattle.std.proofs.Common.{sym}
use Rattle.mt_model.proofs.Places.{value_found, value_absent}
use Rattle.mt_model.proofs.props.value_named.Goals as goal

pub returns-in-Ok : goal.returns-in-Ok
returns-in-Ok c = sym (value_found c.args.name.now c.args.props.now c.in-Ok.at c.index-props-at.result c.requires c.in-Ok.ensures.found)

pub returns-in-Err : goal.returns-in-Err
returns-in-Err c = sym (value_absent c.args.name.now c.args.props.now c.in-Err.field-0 c.in-Err.ensures.absent)
