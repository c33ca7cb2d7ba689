use Rattle.serde_json.specs.View.{view}
use Rattle.mt_json.proofs.VisibleLaws.{visible_body}
use Rattle.mt_json.proofs.read.read_entity.Goals as goal

pub returns-clause-visible : goal.returns-clause-visible
returns-clause-visible c = visible_body c.args.keys (view c.in_ok-object.object) c.read_object.result c.read_object.ensures.given
