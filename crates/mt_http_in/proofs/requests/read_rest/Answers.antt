use Rattle.std.proofs.Common.{refl, ◌∙◌}
use Rattle.mt_http_in.proofs.RequestLaws.{Asks, whole_law, packed_law, fault_law}
use Rattle.mt_http_in.proofs.requests.read_rest.Goals as goal

pub returns-in-Err : goal.returns-in-Err
returns-in-Err g c =
    let asks : Asks c.args.head c.framed-framing.result c.wants_continue-wanted.result c.is_kept-keep.result c.is_compressed-packed.result c.saturating_sub-room.result =
    record { framing_is = cc; wanted_is = cc; keep_is = cc; packed_is = cc; room_is = c.saturating_sub-room.ensures } in
    fault_law c.args.reader.now (g.S.Source.input c.args.source.now) (g.T.Sink.output c.args.sink.now) c.args.head _ _ _ _ _ c.read_body.new.reader (g.S.Source.input c.read_body.new.source) (g.T.Sink.output c.say_continue.new.sink) asks c.in-Ok.ensures
    c.in-Err.halt c.fault_of.result c.fault_of.ensures c.in-Err.ensures

pub returns-then-packed : goal.returns-then-packed
returns-then-packed g c =
    let asks : Asks c.args.head c.framed-framing.result c.wants_continue-wanted.result c.is_kept-keep.result c.is_compressed-packed.result c.saturating_sub-room.result =
    record { framing_is = cc; wanted_is = cc; keep_is = cc; packed_is = cc; room_is = c.saturating_sub-room.ensures } in
    packed_law c.args.reader.now (g.S.Source.input c.args.source.now) (g.T.Sink.output c.args.sink.now) c.args.head _ _ _ _ _ c.read_body.new.reader (g.S.Source.input c.read_body.new.source) (g.T.Sink.output c.say_continue.new.sink) asks c.in-Ok.ensures
    c.in-Ok-read_body.body c.refused.result c.if-packed.true c.in-Ok-read_body.ensures c.refused.ensures

pub returns-in-Ok-of : goal.returns-in-Ok-of
returns-in-Ok-of g c =
    let asks : Asks c.args.head c.framed-framing.result c.wants_continue-wanted.result c.is_kept-keep.result c.is_compressed-packed.result c.saturating_sub-room.result =
    record { framing_is = cc; wanted_is = cc; keep_is = cc; packed_is = cc; room_is = c.saturating_sub-room.ensures } in
    whole_law c.args.reader.now (g.S.Source.input c.args.source.now) (g.T.Sink.output c.args.sink.now) c.args.head _ _ _ _ _ c.read_body.new.reader (g.S.Source.input c.read_body.new.source) (g.T.Sink.output c.say_continue.new.sink) asks c.in-Ok.ensures
    c.in-Ok-read_body.body (record { method = c.args.head.method; target = c.args.head.target; fields = c.args.head.fields; body = c.in-Ok-of.body; keep = c.is_kept-keep.result }) c.if-packed.false c.in-Ok-read_body.ensures refl refl refl
    (c.in-Ok-of.ensures ∙ c.as_slice-4.ensures) refl
