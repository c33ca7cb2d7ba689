use Rattle.std.proofs.Common.{slice_index_or, rules}
use Rattle.json.specs.Print.{escape_byte}
use Rattle.mt_json.proofs.RoomLaws.{item_fits}
use Rattle.mt_json.proofs.quote.put_escaped.Goals as goal

pub put_escape-requires : goal.put_escape-requires
put_escape-requires c =
    let l = c.loop-byte in
    item_fits escape_byte c.args.text.now l.byte-index (slice_index_or c.args.text.now l.byte-index 0) c.args.room.now l.room c.loop-byte-test.true c.requires l.invariant (search rules)
