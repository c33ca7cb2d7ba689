use Rattle.std.proofs.Common.{◌∙◌, ap}
use Rattle.mt_front.specs.Refusals.{is_error_status}
use Rattle.mt_front.proofs.RefusalLaws.{cause_error}
use Rattle.mt_front.proofs.refusals.cause_reply.Goals as goal

pub error_reply-requires : goal.error_reply-requires
error_reply-requires c = ap is_error_status c.cause_status.ensures ∙ cause_error c.args.cause
