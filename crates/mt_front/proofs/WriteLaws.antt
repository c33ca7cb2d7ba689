-- The reply to operations that were done.
use Rattle.std.proofs.Common.{◌≡◌, ℕ, Bool, List, length, ◌∙◌}
use Rattle.mt_model.specs.declared.tag.Tag.{Tag}
use Rattle.mt_mime.specs.declared.waiting.Draft.{Draft}
use Rattle.mt_mime.specs.Drafts.{IsDraftOf, bytes_by}
use Rattle.mt_front.specs.Writes.{Writing}
use Rattle.mt_front.specs.Items.{IsDoneReply}

-- a draft with the tags is the reply
pub done_shown : (w : Writing) (d : Draft) (close : Bool) (tags : List Tag) (bytes : List ℕ) → IsDraftOf w.ops w.echoes w.change_set close d → length tags ≡ length w.ops → bytes ≡ bytes_by d tags → IsDoneReply w tags close bytes
done_shown w d close tags bytes is long same = let r = is.reply tags long in (r.0, r.1, same ∙ r.2)
