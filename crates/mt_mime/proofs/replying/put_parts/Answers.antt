use Rattle.std.proofs.Common.{false, slice_index_or, arith, drop, ◌+◌, subst}
use Rattle.std.specs.List.{flat_map}
use Rattle.mt_json.specs.Draft.{HasRoom}
use Rattle.mt_json.proofs.RoomLaws.{room_first}
use Rattle.mt_mime.specs.Replies.{part_bytes, reply_by, replies_by}
use Rattle.mt_mime.proofs.ReplyLaws.{parts_step, parts_more, parts_end}
use Rattle.mt_mime.proofs.replying.put_parts.Goals as goal

pub put_part-requires : goal.put_part-requires
put_part-requires c =
    let l = c.loop-at in
    let f = c.index-forms-at.result in
    room_first l.room (part_bytes (reply_by f (slice_index_or c.args.tags.now l.at (record { store = 0; n = 0 })) false)) (flat_map part_bytes (replies_by (drop (l.at + 1) c.args.forms.now) (drop (l.at + 1) c.args.tags.now)))
    (subst (HasRoom l.room) (parts_step c.args.forms.now c.args.tags.now l.at f (record { store = 0; n = 0 }) (omega (arith, c.loop-at-test.true)) (omega (arith, c.loop-at-test.true, c.requires.count)) c.index-forms-at.is) l.invariant.0)

pub loop-at-preserved : goal.loop-at-preserved
loop-at-preserved c =
    let l = c.loop-at in
    let f = c.index-forms-at.result in
    parts_more c.args.room.now l.room c.put_part.new.room (flat_map part_bytes (replies_by c.args.forms.now c.args.tags.now)) (flat_map part_bytes (replies_by (drop l.at c.args.forms.now) (drop l.at c.args.tags.now)))
    (part_bytes (reply_by f (slice_index_or c.args.tags.now l.at (record { store = 0; n = 0 })) false)) (flat_map part_bytes (replies_by (drop (l.at + 1) c.args.forms.now) (drop (l.at + 1) c.args.tags.now)))
    (parts_step c.args.forms.now c.args.tags.now l.at f (record { store = 0; n = 0 }) (omega (arith, c.loop-at-test.true)) (omega (arith, c.loop-at-test.true, c.requires.count)) c.index-forms-at.is) l.invariant c.put_part.ensures

pub returns : goal.returns
returns c = parts_end c.args.room.now c.loop-at.room c.args.forms.now c.args.tags.now c.loop-at.at (flat_map part_bytes (replies_by c.args.forms.now c.args.tags.now)) c.loop-at-test.false c.loop-at.invariant
