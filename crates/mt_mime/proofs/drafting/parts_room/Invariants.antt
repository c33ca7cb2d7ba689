use Rattle.std.proofs.Common.{ℕ, List, ◌+◌, ◌≤◌, drop, length}
use Rattle.std.specs.List.{flat_map}
use Rattle.mt_model.specs.declared.tag.Tag.{Tag}
use Rattle.mt_mime.specs.Replies.{AreTags, replies_by, part_bytes}
use Rattle.mt_mime.proofs.drafting.parts_room.Given as goal

-- what is enough for the rest, with the size so far, is enough for all
abbrev pub invariant-loop-form : goal.invariant-loop-form
invariant-loop-form l =
    (total : ℕ)
    → ((tags : List Tag) → AreTags (length (drop l.form-index l.forms)) tags → length (flat_map part_bytes (replies_by (drop l.form-index l.forms) tags)) + l.size ≤ total)
    → (tags : List Tag) → AreTags (length l.forms) tags → length (flat_map part_bytes (replies_by l.forms tags)) ≤ total
