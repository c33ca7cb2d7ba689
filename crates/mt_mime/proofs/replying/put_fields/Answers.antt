use Rattle.std.proofs.Common.{sym, subst}
use Rattle.mt_json.specs.Draft.{Appends}
use Rattle.mt_http_out.specs.Rendering.{field_lines}
use Rattle.mt_mime.specs.declared.forms.Form.{Form}
use Rattle.mt_mime.specs.Replies.{fields_by}
use Rattle.mt_mime.proofs.ReplyLaws.{two_lines}
use Rattle.mt_mime.proofs.replying.put_fields.Goals as goal

pub returns-in-NoContent : goal.returns-in-NoContent
returns-in-NoContent c =
    subst (λ (f : Form). Appends c.args.room.now (field_lines (fields_by f c.args.tag)) c.put_line-in-NoContent.new.room) (sym c.in-NoContent.is)
    (two_lines c.put_tag_line-in-NoContent.ensures c.put_line-in-NoContent.ensures)
