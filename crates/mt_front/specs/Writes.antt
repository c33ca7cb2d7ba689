-- Operations that are tried together, with what the reply shows of each.
use Rattle.std.specs.Prelude.{◌≡◌, Bool, false, List, length}
use Rattle.std.specs.List.{AllZip}
use Rattle.mt_chain.specs.declared.op.Op.{Op}
use Rattle.mt_mime.specs.declared.forms.Echo.{Echo}
use Rattle.mt_mime.specs.Replies.{HasEcho}

-- the operations, an echo for each, and whether they are a change set, else one operation alone
pub record Writing : Type 0 where
  pub ops : List Op
  pub echoes : List Echo
  pub change_set : Bool

-- each operation has an echo that it can have, and what is no change set is one operation
pub record IsWriting (w : Writing) : Type 0 where
  pub echoes : AllZip HasEcho w.ops w.echoes
  pub one : w.change_set ≡ false → length w.ops ≡ 1
