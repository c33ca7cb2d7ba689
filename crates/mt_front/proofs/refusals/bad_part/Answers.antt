use Rattle.std.proofs.Common.{◌≡◌, ◌∙◌, ap, subst, rules}
use Rattle.mt_front.specs.Refusals.{is_error_status, bad_status, bad_code, bad_sentence, error_part, Makes}
use Rattle.mt_front.proofs.RefusalLaws.{bad_error}
use Rattle.mt_front.proofs.refusals.bad_part.Goals as goal

pub error_part-requires : goal.error_part-requires
error_part-requires c = ap is_error_status c.status.ensures ∙ bad_error c.args.bad.refusal

pub returns : goal.returns
returns c =
    let r = c.args.bad.refusal in
    let at = c.args.bad.index in
    let close = c.args.close in
    let text : c.deref.result.now ≡ bad_sentence r = search rules in
    subst (λ resource. Makes (error_part at resource (bad_status r) (bad_code r) (bad_sentence r) close) c.error_part.result) c.allow_of.ensures
    (subst (λ n. Makes (error_part at c.allow_of.result n (bad_code r) (bad_sentence r) close) c.error_part.result) c.status.ensures
    (subst (λ code. Makes (error_part at c.allow_of.result c.status.result code (bad_sentence r) close) c.error_part.result) c.code.ensures
    (subst (λ sentence. Makes (error_part at c.allow_of.result c.status.result c.code.result.now sentence close) c.error_part.result) text c.error_part.ensures)))
