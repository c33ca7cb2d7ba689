use Rattle.mt_json.proofs.RoomLaws.{appends_then}
use Rattle.mt_mime.proofs.replying.put_part.Goals as goal

pub returns : goal.returns
returns c = appends_then (appends_then c.put.ensures c.put_reply.ensures) c.put-2.ensures
