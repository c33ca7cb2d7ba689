use Rattle.mt_json.proofs.RisingLaws.{other_fault}
use Rattle.mt_json.proofs.read.build_body.Goals as goal

pub returns-in-Err-clause-distinct : goal.returns-in-Err-clause-distinct
returns-in-Err-clause-distinct c = other_fault c.args.props.items c.in-Err.fault c.requires c.in-Err.ensures.answers
