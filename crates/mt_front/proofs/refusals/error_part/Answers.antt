use Rattle.std.proofs.Common.{◌≡◌, false, [], ◌∷◌, ◌++◌, ◌∙◌, ap, subst, rules}
use Rattle.std.specs.Prelude.{codes, decimal}
use Rattle.mt_mime.specs.Replies.{accepted}
use Rattle.mt_front.specs.Refusals.{error_with, Makes}
use Rattle.mt_front.proofs.refusals.error_part.Goals as goal

pub returns : goal.returns
returns c =
    let text : c.deref.result.now ≡ decimal c.args.index ++ (codes ":" ++ c.args.sentence.now) = search rules in
    subst (λ part. Makes (accepted (part ∷ []) c.args.close) c.accept.result) (c.in_ok-part.ensures.0 ∙ ap (λ sentence. error_with c.args.resource c.args.status c.args.code.now sentence false) text) c.accept.ensures
