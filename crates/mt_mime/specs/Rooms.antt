-- The room of a draft.
use Rattle.std.specs.Prelude.{◌≡◌, ℕ, ◌≤◌, Bool, false, List, [], length, vec_capacity}
use Rattle.std.specs.Global.{Vec}
use Rattle.mt_model.specs.declared.tag.Tag.{Tag}
use Rattle.mt_mime.specs.declared.forms.Form.{Form}
use Rattle.mt_mime.specs.Replies.{AreTags, answer_by}

-- one form where there is no change set; the room is empty, and the reply fits into it whatever the tags are
pub record HasOwnRoom (forms : List Form) (change_set close : Bool) (room : Vec ℕ) : Type 0 where
  pub one : change_set ≡ false → length forms ≡ 1
  pub empty : room.items ≡ []
  pub wide : (tags : List Tag) → AreTags (length forms) tags → length (answer_by change_set close forms tags) ≤ vec_capacity room
