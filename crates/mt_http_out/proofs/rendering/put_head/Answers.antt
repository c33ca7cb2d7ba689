use Rattle.mt_json.proofs.RoomLaws.{appends_then}
use Rattle.mt_http_out.proofs.rendering.put_head.Goals as goal

pub returns : goal.returns
returns c = appends_then (appends_then (appends_then (appends_then c.put_status.ensures c.put_fields.ensures) c.put_length.ensures) c.put_close.ensures) c.put.ensures
