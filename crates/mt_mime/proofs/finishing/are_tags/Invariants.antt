use Rattle.std.proofs.Common.{take}
use Rattle.std.specs.Prelude.{All}
use Rattle.mt_model.specs.Tag.{IsTag}
use Rattle.mt_mime.proofs.finishing.are_tags.Given as goal

abbrev pub invariant-loop-tag : goal.invariant-loop-tag
invariant-loop-tag l = All IsTag (take l.tag-index l.tags)
