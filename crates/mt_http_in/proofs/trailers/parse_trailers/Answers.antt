use Rattle.std.proofs.Common.{◌≡◌, length, rules, refl}
use Rattle.mt_http_in.proofs.TrailerLaws.{long_section, whole_section, begun_of}
use Rattle.mt_http_in.proofs.trailers.parse_trailers.Goals as goal

pub returns-then-lines_len-room : goal.returns-then-lines_len-room
returns-then-lines_len-room c =
    long_section c.args.bytes.now c.window-seen.result.now c.args.room c.parse_headers.new.headers c.in-Ok-Complete.len c.in-Ok-Complete._count c.lines_len.result c.window-seen.ensures
    (rw c.in-Ok-Complete.field-0-is at c.in-Ok-Complete.ensures.complete) c.lines_len.ensures c.if-lines_len-room.true

pub returns-else-lines_len-room : goal.returns-else-lines_len-room
returns-else-lines_len-room c =
    let sixty : length c.parse_headers.new.headers ≡ 64 = search rules in
    whole_section c.args.bytes.now c.window-seen.result.now c.args.room c.parse_headers.new.headers c.in-Ok-Complete.len c.in-Ok-Complete._count c.lines_len.result c.window-seen.ensures
    (rw c.in-Ok-Complete.field-0-is at c.in-Ok-Complete.ensures.complete) c.lines_len.ensures sixty c.if-lines_len-room.false

pub returns-then-feeds-le-MAX_FIELDS : goal.returns-then-feeds-le-MAX_FIELDS
returns-then-feeds-le-MAX_FIELDS c =
    begun_of c.args.room c.args.bytes.now c.window-seen.result.now (length c.args.bytes.now) c.feeds.result c.window-seen.ensures (rw c.in-Ok-Partial.field-0-is at c.in-Ok-Partial.ensures.partial)
    (rw c.in-Ok-Partial.field-0-is at c.in-Ok-Partial.ensures.unfinished) refl c.if-bytes-room.true c.feeds.ensures c.if-feeds-le-MAX_FIELDS.true
