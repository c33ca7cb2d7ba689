use Rattle.std.proofs.Common.{take}
use Rattle.mt_mime.specs.Changes.{bytes_in, ReadsAll}
use Rattle.mt_mime.proofs.changes.read_all.Given as goal

abbrev pub invariant-loop-text : goal.invariant-loop-text
invariant-loop-text l = ReadsAll (bytes_in (take l.text-index l.texts)) l.parts.items
