use Rattle.std.proofs.Common.{arith, rules, length, ◌≡◌}
use Rattle.mt_http_in.proofs.HeadLaws.{never_overflows, never_of, never_late, overflow_some, found_is, whole_is}
use Rattle.mt_http_in.proofs.heads.parse_head.Goals as goal

pub returns-then-found-gt-MAX_HEAD : goal.returns-then-found-gt-MAX_HEAD
returns-then-found-gt-MAX_HEAD c =
    never_of _ _ _ (rw c.in-Ok-Complete.field-0-is at c.in-Ok-Complete.ensures.complete) c.if-found-gt-MAX_HEAD.true (rw c.in-Ok-Complete.field-0-is at c.in-Ok-Complete.ensures.within).section.len_fits

pub head_at-requires : goal.head_at-requires
head_at-requires c =
    found_is c.args.bytes.now c.parse_request.new.headers c.in-Ok-Complete.found (rw c.in-Ok-Complete.field-0-is at c.in-Ok-Complete.ensures.within) (rw c.in-Ok-Complete.field-0-is at c.in-Ok-Complete.ensures.complete)

pub returns-in_ok-head-in-Ok-Complete : goal.returns-in_ok-head-in-Ok-Complete
returns-in_ok-head-in-Ok-Complete c =
    let room : length c.parse_request.new.headers ≡ 64 = search rules in
    whole_is c.args.bytes.now c.parse_request.new.headers c.in-Ok-Complete.found c.in_ok-head-in-Ok-Complete.head room (rw c.in-Ok-Complete.field-0-is at c.in-Ok-Complete.ensures.within)
    (rw c.in-Ok-Complete.field-0-is at c.in-Ok-Complete.ensures.complete) c.if-found-gt-MAX_HEAD.false c.in_ok-head-in-Ok-Complete.ensures

pub returns-else-bytes-lt-MAX_HEAD : goal.returns-else-bytes-lt-MAX_HEAD
returns-else-bytes-lt-MAX_HEAD c = (never_late _ (rw c.in-Ok-Partial.field-0-is at c.in-Ok-Partial.ensures.partial) c.if-bytes-lt-MAX_HEAD.false, omega (arith, c.if-bytes-lt-MAX_HEAD.false))

pub returns-in-Err : goal.returns-in-Err
returns-in-Err c = (never_overflows _ c.in-Err.ensures.no_room, overflow_some _ c.in-Err.ensures.no_room)
