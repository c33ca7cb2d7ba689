use Rattle.serde_json.specs.View.{view}
use Rattle.mt_json.proofs.ValueLaws.{some_guid, no_guid}
use Rattle.mt_json.proofs.value.guid_value.Goals as goal

pub returns-in-Some-guid_of : goal.returns-in-Some-guid_of
returns-in-Some-guid_of c =
    some_guid (view c.args.value.now) c.in-Some.text.now _ c.in-Some.ensures c.in-Some-guid_of.ensures

pub returns-in-None : goal.returns-in-None
returns-in-None c =
    no_guid (view c.args.value.now) c.in-Some.text.now c.in-Some.ensures c.in-None.ensures
