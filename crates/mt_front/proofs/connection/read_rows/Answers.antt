use Rattle.std.proofs.Common.{Ok, Err, subst, refl, not, arith}
use Rattle.std.specs.Prelude.{IfOk}
use Rattle.mt_world.specs.declared.actor.Request.TheVariants as request
use Rattle.mt_front.specs.declared.asks.Asked.TheVariants as asked
use Rattle.mt_front.specs.declared.connection.Outcome.TheVariants as outcome
use Rattle.mt_front.specs.Reads.{ShowsRows}
use Rattle.mt_front.specs.Refusals.{fault_reply, full_reply}
use Rattle.mt_front.specs.Turns.{Tries}
use Rattle.mt_http_out.specs.Rendering.{bytes_of}
use Rattle.mt_front.proofs.ReadLaws.{found_shown}
use Rattle.mt_front.proofs.TurnLaws.{tried_made, tried_said}
use Rattle.mt_front.proofs.connection.read_rows.Goals as goal

pub unreachable-requires : goal.unreachable-requires
unreachable-requires g c =
    let t : Tries 0 c.args.world.now (request.Query c.args.read.pk c.args.read.filter) (Ok (outcome.Done c.in-Ok-Done.field-0-0)) c.try_request.new.world = rw c.in-Ok-Done.field-0-is at c.in-Ok-Done.ensures in
    t.1.own

pub unreachable-requires-in-Ok-Refused : goal.unreachable-requires-in-Ok-Refused
unreachable-requires-in-Ok-Refused g c =
    let t : Tries 0 c.args.world.now (request.Query c.args.read.pk c.args.read.filter) (Ok (outcome.Refused c.in-Ok-Refused.field-0-0)) c.try_request.new.world = rw c.in-Ok-Refused.field-0-is at c.in-Ok-Refused.ensures in
    t.1.own

pub unreachable-requires-in-Ok-Paged : goal.unreachable-requires-in-Ok-Paged
unreachable-requires-in-Ok-Paged g c =
    let t : Tries 0 c.args.world.now (request.Query c.args.read.pk c.args.read.filter) (Ok (outcome.Paged c.in-Ok-Paged.field-0-0)) c.try_request.new.world = rw c.in-Ok-Paged.field-0-is at c.in-Ok-Paged.ensures in
    t.1.own

pub returns-in-Ok-Found : goal.returns-in-Ok-Found
returns-in-Ok-Found g c =
    let q = c.args.read in
    let rows = c.in-Ok-Found.rows in
    tried_made 0 c.args.world.now c.try_request.new.world (g.T.Sink.output c.args.sink.now) (g.T.Sink.output c.send_reply.new.sink) (asked.Read q) (request.Query q.pk q.filter) c.args.keep (outcome.Found rows)
    c.rows_reply.result c.send_reply.result refl (λ whole. whole) tt (rw c.in-Ok-Found.field-0-is at c.in-Ok-Found.ensures)
    (found_shown q rows (not c.args.keep) c.rows_reply.result (subst (λ l. IfOk c.rows_reply.result (ShowsRows q.shape q.show l (not c.args.keep))) c.as_slice.ensures.value c.rows_reply.ensures.shows)) c.send_reply.ensures

pub returns-in-Ok-Fault : goal.returns-in-Ok-Fault
returns-in-Ok-Fault g c =
    tried_said 0 c.args.world.now c.try_request.new.world (g.T.Sink.output c.args.sink.now) (g.T.Sink.output c.send_fault.new.sink) (asked.Read c.args.read) (request.Query c.args.read.pk c.args.read.filter) c.args.keep outcome.Fault
    (bytes_of (fault_reply (not c.args.keep))) c.send_fault.result refl (λ whole. whole) tt
    (rw c.in-Ok-Fault.field-0-is at c.in-Ok-Fault.ensures)
    (λ marks left. (left, refl)) c.send_fault.ensures

pub returns-in-Ok-Full : goal.returns-in-Ok-Full
returns-in-Ok-Full g c =
    tried_said 0 c.args.world.now c.try_request.new.world (g.T.Sink.output c.args.sink.now) (g.T.Sink.output c.send_full.new.sink) (asked.Read c.args.read) (request.Query c.args.read.pk c.args.read.filter) c.args.keep outcome.Full
    (bytes_of (full_reply (not c.args.keep))) c.send_full.result refl (λ whole. whole) tt
    (rw c.in-Ok-Full.field-0-is at c.in-Ok-Full.ensures)
    (λ marks left. (left, refl)) c.send_full.ensures

pub returns : goal.returns
returns g c =
    let t : Tries 0 c.args.world.now (request.Query c.args.read.pk c.args.read.filter) (Err c.in-Err.field-0) c.try_request.new.world = rw c.in-Err.is at c.try_request.ensures in
    record { faults_out = omega arith; answers = (t.0, t.1, refl) }
