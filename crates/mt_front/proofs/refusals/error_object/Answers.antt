use Rattle.std.proofs.Common.{◌≡◌, ◌∙◌, subst}
use Rattle.std.specs.Prelude.{IfOk}
use Rattle.mt_front.proofs.RefusalLaws.{object_is}
use Rattle.mt_front.proofs.refusals.error_object.Goals as goal

pub returns : goal.returns
returns c = subst (λ z. IfOk c.of.result (λ b. b ≡ z)) (c.as_bytes.ensures.value ∙ c.in_ok-text.ensures.ok ∙ object_is c.args.code.now c.args.sentence.now) c.of.ensures
