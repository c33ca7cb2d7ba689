use Rattle.mt_mime.proofs.ReplyLaws.{part_more}
use Rattle.mt_mime.proofs.write.add_parts.Goals as goal

pub loop-reply-preserved : goal.loop-reply-preserved
loop-reply-preserved c =
    part_more c.args.replies.now c.loop-reply.reply-index c.reply-item.result c.args.body.now.items c.loop-reply.body.items c.add_part.new.body.items
    c.loop-reply-test.true c.reply-item.is c.loop-reply.invariant c.in_ok-add_part.ensures
