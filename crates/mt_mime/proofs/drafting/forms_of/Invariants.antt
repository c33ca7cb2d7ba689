use Rattle.std.proofs.Common.{take}
use Rattle.mt_mime.specs.Replies.{AreForms}
use Rattle.mt_mime.proofs.drafting.forms_of.Given as goal

abbrev pub invariant-loop-at : goal.invariant-loop-at
invariant-loop-at l = AreForms (take l.at l.ops) (take l.at l.echoes) l.forms.items
