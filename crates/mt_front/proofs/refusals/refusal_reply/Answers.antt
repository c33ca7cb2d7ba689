use Rattle.std.proofs.Common.{◌∙◌, None, ap, sym, subst}
use Rattle.mt_front.specs.Refusals.{is_error_status, cause_code, cause_sentence, error_part, refusal_reply, Makes}
use Rattle.mt_front.proofs.RefusalLaws.{cause_error}
use Rattle.mt_front.proofs.refusals.refusal_reply.Goals as goal

pub error_part-requires : goal.error_part-requires
error_part-requires c = ap is_error_status c.cause_status.ensures ∙ cause_error c.args.refusal.cause

pub returns : goal.returns
returns c =
    let at = c.args.refusal.index in
    let cause = c.args.refusal.cause in
    let close = c.args.close in
    subst (λ b. Makes (refusal_reply b c.args.refusal close) c.error_part.result) (sym c.if-not-change_set.false)
    (subst (λ n. Makes (error_part at None n (cause_code cause) (cause_sentence cause) close) c.error_part.result) c.cause_status.ensures
    (subst (λ code. Makes (error_part at None c.cause_status.result code (cause_sentence cause) close) c.error_part.result) c.cause_code.ensures
    (subst (λ sentence. Makes (error_part at None c.cause_status.result c.cause_code.result.now sentence close) c.error_part.result) c.cause_sentence.ensures
    (subst (λ n. Makes (error_part n None c.cause_status.result c.cause_code.result.now c.cause_sentence.result.now close) c.error_part.result) c.from.ensures c.error_part.ensures))))
