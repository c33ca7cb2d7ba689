use Rattle.std.proofs.Common.{◌≡◌, [], ◌∷◌, ◌∙◌, ap, rules}
use Rattle.mt_mime.specs.Replies.{changes_body}
use Rattle.mt_front.proofs.RefusalLaws.{accepted_made}
use Rattle.mt_front.proofs.refusals.accept.Goals as goal

pub returns : goal.returns
returns c =
    let items : c.push.new.self.items ≡ c.args.part ∷ [] = search rules in
    accepted_made c.in_ok-fields.fields c.in_ok-body.body (c.args.part ∷ []) c.args.close c.in_ok-fields.ensures (c.in_ok-body.ensures ∙ ap changes_body items)
