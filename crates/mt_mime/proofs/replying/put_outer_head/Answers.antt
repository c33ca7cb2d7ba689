use Rattle.mt_json.proofs.RoomLaws.{appends_then}
use Rattle.mt_mime.proofs.ReplyLaws.{one_line}
use Rattle.mt_mime.proofs.replying.put_outer_head.Goals as goal

pub returns : goal.returns
returns c = appends_then (appends_then (appends_then (appends_then c.put_status.ensures (one_line c.put_line.ensures)) c.put_length.ensures) c.put_close.ensures) c.put.ensures
