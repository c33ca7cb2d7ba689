use Rattle.mt_http_out.proofs.ReplyLaws.{is_code}
use Rattle.mt_http_out.proofs.rendering.add.Goals as goal

pub put_reply-requires-clause-code : goal.put_reply-requires-clause-code
put_reply-requires-clause-code c = is_code c.args.reply.now.status c.requires.status
