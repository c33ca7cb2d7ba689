use Rattle.std.proofs.Common.{◌≡◌, ◌++◌, take}
use Rattle.std.specs.List.{flat_map}
use Rattle.mt_mime.specs.Replies.{part_bytes}
use Rattle.mt_mime.proofs.write.add_parts.Given as goal

abbrev pub invariant-loop-reply : goal.invariant-loop-reply
invariant-loop-reply l = l.body.items ≡ l.fn.body.items ++ flat_map part_bytes (take l.reply-index l.replies)
