use Rattle.std.proofs.Common.{[], ◌∷◌, ◌∙◌, ◌++◌, ap, ℕ}
use Rattle.mt_http_out.specs.Rendering.{head_bytes}
use Rattle.mt_mime.specs.Replies.{replies_by, changes_body, multipart_field}
use Rattle.mt_mime.proofs.ReplyLaws.{size_is, turned}
use Rattle.mt_mime.proofs.replying.put_set.Goals as goal

pub returns : goal.returns
returns c =
    let body = changes_body (replies_by c.args.forms.now c.args.tags.now) in
    let size = size_is c.args.room.now c.put_body.new.room body c.len-size.result c.requires.empty c.put_body.ensures c.len-size.ensures in
    let wrote = turned c.args.room.now c.put_body.new.room c.put_outer_head.new.room (head_bytes 202 (multipart_field ∷ []) c.len-size.result c.args.close) body c.len-size.result c.requires.empty c.put_body.ensures c.put_outer_head.ensures size in
    c.rotate_left.ensures.items ∙ wrote ∙ ap (λ (n : ℕ). head_bytes 202 (multipart_field ∷ []) n c.args.close ++ body) size
