use Rattle.std.proofs.Common.{◌≡◌, ◌+◌, length, subst, arith}
use Rattle.mt_http_out.specs.Rendering.{field_lines, bytes_closing}
use Rattle.mt_http_out.proofs.ReplyLaws.{reply_fits, sum_fits}
use Rattle.mt_http_out.proofs.rendering.room_for.Goals as goal

pub returns : goal.returns
returns c =
    let r = c.args.reply.now in
    let given = subst (λ fs. c.in_ok-fields.fields ≡ length (field_lines fs)) c.as_slice.ensures c.in_ok-fields.ensures in
    let sum = subst (λ body. c.in_ok-checked_add.field-0 ≡ c.in_ok-fields.fields + length body) c.as_slice-2.ensures c.in_ok-checked_add.ensures.1 in
    let fits = reply_fits r c.in_ok-fields.fields c.requires given (omega (arith, sum, c.in_ok-checked_add.ensures.0)) in
    sum_fits c.checked_add-2.result _ _ (λ close. length (bytes_closing close r)) c.checked_add-2.ensures (λ close. omega (arith, sum, fits close))
