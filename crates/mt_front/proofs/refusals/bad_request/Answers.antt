use Rattle.std.proofs.Common.{◌∙◌, ap}
use Rattle.mt_front.specs.Refusals.{is_error_status}
use Rattle.mt_front.proofs.RefusalLaws.{bad_error}
use Rattle.mt_front.proofs.refusals.bad_request.Goals as goal

pub error_with-requires : goal.error_with-requires
error_with-requires c = ap is_error_status c.status.ensures ∙ bad_error c.args.refusal
