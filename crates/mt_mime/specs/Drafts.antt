-- Drafts: replies that have all their room before the tags are known.
use Rattle.std.specs.Prelude.{◌≡◌, ℕ, Bool, List, length}
use Rattle.mt_model.specs.declared.tag.Tag.{Tag}
use Rattle.mt_chain.specs.declared.op.Op.{Op}
use Rattle.mt_http_out.specs.declared.reply.Reply.{Reply}
use Rattle.mt_http_out.specs.Rendering.{bytes_of}
use Rattle.mt_mime.specs.declared.forms.Echo.{Echo}
use Rattle.mt_mime.specs.declared.waiting.Draft.{Draft}
use Rattle.mt_mime.specs.Replies.{Answers, answer_by}

-- the bytes of the draft's reply with these tags
abbrev pub bytes_by : Draft → List Tag → List ℕ
bytes_by d tags = answer_by d.change_set d.close d.forms.items tags

-- the draft of the reply to these operations: with as many tags it is that reply
pub record IsDraftOf (ops : List Op) (echoes : List Echo) (change_set close : Bool) (d : Draft) : Type 0 where
  pub count : length d.forms.items ≡ length ops
  pub reply : (tags : List Tag) → length tags ≡ length ops → (r : Reply) × Answers change_set close ops echoes tags r × (bytes_by d tags ≡ bytes_of r)
