use Rattle.std.proofs.Common.{Ok, Err, ◌∙◌, [], ap, sym, subst, refl, not, arith}
use Rattle.std.specs.Prelude.{length}
use Rattle.mt_world.specs.declared.actor.Request.TheVariants as request
use Rattle.mt_front.specs.declared.asks.Asked.TheVariants as asked
use Rattle.mt_front.specs.declared.connection.Outcome.TheVariants as outcome
use Rattle.mt_front.specs.Refusals.{refusal_reply, fault_reply, full_reply, Makes}
use Rattle.mt_front.specs.Turns.{Tries}
use Rattle.mt_http_out.specs.Rendering.{bytes_of}
use Rattle.mt_front.proofs.CameLaws.{nothing_broke}
use Rattle.mt_front.proofs.TurnLaws.{tried_answered, tried_said, says_made}
use Rattle.mt_front.proofs.WriteLaws.{done_shown}
use Rattle.mt_front.proofs.connection.write_rows.Goals as goal

pub finish-requires : goal.finish-requires
finish-requires g c =
    let t : Tries 0 c.args.world.now (request.Batch c.into_batch.result) (Ok (outcome.Done c.in-Ok-Done.tags)) c.try_request.new.world = rw c.in-Ok-Done.field-0-is at c.in-Ok-Done.ensures in
    t.1.own ∙ ap length c.into_batch.ensures ∙ sym c.in-Ok.ensures.count

pub returns-in-Ok-Done : goal.returns-in-Ok-Done
returns-in-Ok-Done g c =
    let t : Tries 0 c.args.world.now (request.Batch c.args.writes.ops) (Ok (outcome.Done c.in-Ok-Done.tags)) c.try_request.new.world =
    subst (λ ops. Tries 0 c.args.world.now (request.Batch ops) (Ok (outcome.Done c.in-Ok-Done.tags)) c.try_request.new.world) c.into_batch.ensures (rw c.in-Ok-Done.field-0-is at c.in-Ok-Done.ensures) in
    tried_answered 0 c.args.world.now c.try_request.new.world (g.T.Sink.output c.args.sink.now) (g.T.Sink.output c.send_bytes.new.sink) (asked.Write c.args.writes) (request.Batch c.args.writes.ops) c.args.keep (outcome.Done c.in-Ok-Done.tags)
    c.deref.result.now c.send_bytes.result refl (λ whole. whole) t
    (λ marks left. (left, done_shown c.args.writes c.in-Ok.draft (not c.args.keep) c.in-Ok-Done.tags c.deref.result.now c.in-Ok.ensures t.1.own (c.deref.ensures.value ∙ c.finish.ensures))) c.send_bytes.ensures

pub returns-in-Ok-Refused : goal.returns-in-Ok-Refused
returns-in-Ok-Refused g c =
    let o = g.T.Sink.output c.args.sink.now in
    let x = g.T.Sink.output c.send_reply.new.sink in
    let want = refusal_reply c.args.writes.change_set c.in-Ok-Refused.refusal (not c.args.keep) in
    let made = subst (λ s. Makes (refusal_reply s c.in-Ok-Refused.refusal (not c.args.keep)) c.refusal_reply.result) c.is_change_set-change_set.ensures.value c.refusal_reply.ensures in
    tried_said 0 c.args.world.now c.try_request.new.world o x (asked.Write c.args.writes) (request.Batch c.args.writes.ops) c.args.keep (outcome.Refused c.in-Ok-Refused.refusal)
    (bytes_of want) c.send_reply.result refl (λ whole. whole) tt
    (subst (λ ops. Tries 0 c.args.world.now (request.Batch ops) (Ok (outcome.Refused c.in-Ok-Refused.refusal)) c.try_request.new.world) c.into_batch.ensures (rw c.in-Ok-Refused.field-0-is at c.in-Ok-Refused.ensures))
    (λ marks left. (left, refl)) (says_made o x want c.refusal_reply.result c.send_reply.result made c.send_reply.ensures)

pub unreachable-requires : goal.unreachable-requires
unreachable-requires g c =
    let t : Tries 0 c.args.world.now (request.Batch c.into_batch.result) (Ok (outcome.Found c.in-Ok-Found.field-0-0)) c.try_request.new.world = rw c.in-Ok-Found.field-0-is at c.in-Ok-Found.ensures in
    t.1.own

pub unreachable-requires-in-Ok-Paged : goal.unreachable-requires-in-Ok-Paged
unreachable-requires-in-Ok-Paged g c =
    let t : Tries 0 c.args.world.now (request.Batch c.into_batch.result) (Ok (outcome.Paged c.in-Ok-Paged.field-0-0)) c.try_request.new.world = rw c.in-Ok-Paged.field-0-is at c.in-Ok-Paged.ensures in
    t.1.own

pub returns-in-Ok-Fault : goal.returns-in-Ok-Fault
returns-in-Ok-Fault g c =
    tried_said 0 c.args.world.now c.try_request.new.world (g.T.Sink.output c.args.sink.now) (g.T.Sink.output c.send_fault.new.sink) (asked.Write c.args.writes) (request.Batch c.args.writes.ops) c.args.keep outcome.Fault
    (bytes_of (fault_reply (not c.args.keep))) c.send_fault.result refl (λ whole. whole) tt
    (subst (λ ops. Tries 0 c.args.world.now (request.Batch ops) (Ok outcome.Fault) c.try_request.new.world) c.into_batch.ensures (rw c.in-Ok-Fault.field-0-is at c.in-Ok-Fault.ensures))
    (λ marks left. (left, refl)) c.send_fault.ensures

pub returns-in-Ok-Full : goal.returns-in-Ok-Full
returns-in-Ok-Full g c =
    tried_said 0 c.args.world.now c.try_request.new.world (g.T.Sink.output c.args.sink.now) (g.T.Sink.output c.send_full.new.sink) (asked.Write c.args.writes) (request.Batch c.args.writes.ops) c.args.keep outcome.Full
    (bytes_of (full_reply (not c.args.keep))) c.send_full.result refl (λ whole. whole) tt
    (subst (λ ops. Tries 0 c.args.world.now (request.Batch ops) (Ok outcome.Full) c.try_request.new.world) c.into_batch.ensures (rw c.in-Ok-Full.field-0-is at c.in-Ok-Full.ensures))
    (λ marks left. (left, refl)) c.send_full.ensures

pub returns-in-Err : goal.returns-in-Err
returns-in-Err g c =
    let t : Tries 0 c.args.world.now (request.Batch c.into_batch.result) (Err c.in-Err.field-0) c.try_request.new.world = rw c.in-Err.is at c.try_request.ensures in
    record { faults_out = omega arith; answers = (t.0, t.1, refl) }

pub returns-in_default : goal.returns-in_default
returns-in_default g c = record { faults_out = omega arith; answers = ([], nothing_broke 0 c.args.world.now, refl) }
