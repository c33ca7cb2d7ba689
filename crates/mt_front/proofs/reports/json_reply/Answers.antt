use Rattle.std.proofs.Common.{◌∙◌}
use Rattle.mt_front.proofs.ReportLaws.{json_made}
use Rattle.mt_front.proofs.reports.json_reply.Goals as goal

pub returns : goal.returns
returns c = json_made c.in_ok-fields.fields c.in_ok-body.body c.args.text.now c.args.close c.in_ok-fields.ensures (c.in_ok-body.ensures ∙ c.as_bytes.ensures.value)
