use Rattle.std.proofs.Common.{Bool, ◌≤◌, length, sym, subst}
use Rattle.mt_model.specs.declared.tag.Tag.{Tag}
use Rattle.mt_model.specs.Tag.{IsTag}
use Rattle.mt_http_out.specs.Rendering.{bytes_closing}
use Rattle.mt_mime.specs.declared.forms.Form.{Form}
use Rattle.mt_mime.specs.Replies.{reply_by}
use Rattle.mt_mime.proofs.ReplyLaws.{created_fits, no_content_fits, tagged_fits, gone_fits}
use Rattle.mt_mime.proofs.forms.reply_room.Goals as goal

pub returns-in-Some : goal.returns-in-Some
returns-in-Some c =
    subst (λ (f : Form). (tag : Tag) (close : Bool) → IsTag tag → length (bytes_closing close (reply_by f tag close)) ≤ c.in-Some.size) (sym c.in-Created.is)
    (created_fits c.in-Created.entity c.room.result c.in-Some.size c.room.ensures.enough c.in-Some.ensures.0 c.in-Some.ensures.1)

pub returns-in-NoContent : goal.returns-in-NoContent
returns-in-NoContent c = subst (λ (f : Form). (tag : Tag) (close : Bool) → IsTag tag → length (bytes_closing close (reply_by f tag close)) ≤ 224) (sym c.in-NoContent.is) no_content_fits

pub returns-in-Tagged : goal.returns-in-Tagged
returns-in-Tagged c = subst (λ (f : Form). (tag : Tag) (close : Bool) → IsTag tag → length (bytes_closing close (reply_by f tag close)) ≤ 224) (sym c.in-Tagged.is) tagged_fits

pub returns-in-Gone : goal.returns-in-Gone
returns-in-Gone c = subst (λ (f : Form). (tag : Tag) (close : Bool) → IsTag tag → length (bytes_closing close (reply_by f tag close)) ≤ 224) (sym c.in-Gone.is) gone_fits
