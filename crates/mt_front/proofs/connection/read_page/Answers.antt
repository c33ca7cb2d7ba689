use Rattle.std.proofs.Common.{Ok, Err, refl, not, arith}
use Rattle.mt_world.specs.declared.actor.Request.TheVariants as request
use Rattle.mt_front.specs.declared.asks.Asked.TheVariants as asked
use Rattle.mt_front.specs.declared.connection.Outcome.TheVariants as outcome
use Rattle.mt_front.specs.Refusals.{fault_reply, full_reply}
use Rattle.mt_front.specs.Turns.{Tries}
use Rattle.mt_http_out.specs.Rendering.{bytes_of}
use Rattle.mt_front.proofs.PageReplyLaws.{page_shown}
use Rattle.mt_front.proofs.TurnLaws.{tried_made, tried_said}
use Rattle.mt_front.proofs.connection.read_page.Goals as goal

pub unreachable-requires : goal.unreachable-requires
unreachable-requires g c =
    let q = c.args.read in
    let t : Tries 0 c.args.world.now (request.Page q.filter q.top q.token) (Ok (outcome.Done c.in-Ok-Done.field-0-0)) c.try_request.new.world = rw c.in-Ok-Done.field-0-is at c.in-Ok-Done.ensures in
    t.1.own

pub unreachable-requires-in-Ok-Refused : goal.unreachable-requires-in-Ok-Refused
unreachable-requires-in-Ok-Refused g c =
    let q = c.args.read in
    let t : Tries 0 c.args.world.now (request.Page q.filter q.top q.token) (Ok (outcome.Refused c.in-Ok-Refused.field-0-0)) c.try_request.new.world = rw c.in-Ok-Refused.field-0-is at c.in-Ok-Refused.ensures in
    t.1.own

pub unreachable-requires-in-Ok-Found : goal.unreachable-requires-in-Ok-Found
unreachable-requires-in-Ok-Found g c =
    let q = c.args.read in
    let t : Tries 0 c.args.world.now (request.Page q.filter q.top q.token) (Ok (outcome.Found c.in-Ok-Found.field-0-0)) c.try_request.new.world = rw c.in-Ok-Found.field-0-is at c.in-Ok-Found.ensures in
    t.1.own

pub returns-in-Ok-Paged : goal.returns-in-Ok-Paged
returns-in-Ok-Paged g c =
    let q = c.args.read in
    let page = c.in-Ok-Paged.page in
    tried_made 0 c.args.world.now c.try_request.new.world (g.T.Sink.output c.args.sink.now) (g.T.Sink.output c.send_reply.new.sink) (asked.Page q) (request.Page q.filter q.top q.token) c.args.keep (outcome.Paged page)
    c.page_reply.result c.send_reply.result refl (λ whole. whole) tt (rw c.in-Ok-Paged.field-0-is at c.in-Ok-Paged.ensures)
    (page_shown q page (not c.args.keep) c.page_reply.result c.page_reply.ensures.shows) c.send_reply.ensures

pub returns-in-Ok-Fault : goal.returns-in-Ok-Fault
returns-in-Ok-Fault g c =
    let q = c.args.read in
    tried_said 0 c.args.world.now c.try_request.new.world (g.T.Sink.output c.args.sink.now) (g.T.Sink.output c.send_fault.new.sink) (asked.Page q) (request.Page q.filter q.top q.token) c.args.keep outcome.Fault
    (bytes_of (fault_reply (not c.args.keep))) c.send_fault.result refl (λ whole. whole) tt
    (rw c.in-Ok-Fault.field-0-is at c.in-Ok-Fault.ensures)
    (λ marks left. (left, refl)) c.send_fault.ensures

pub returns-in-Ok-Full : goal.returns-in-Ok-Full
returns-in-Ok-Full g c =
    let q = c.args.read in
    tried_said 0 c.args.world.now c.try_request.new.world (g.T.Sink.output c.args.sink.now) (g.T.Sink.output c.send_full.new.sink) (asked.Page q) (request.Page q.filter q.top q.token) c.args.keep outcome.Full
    (bytes_of (full_reply (not c.args.keep))) c.send_full.result refl (λ whole. whole) tt
    (rw c.in-Ok-Full.field-0-is at c.in-Ok-Full.ensures)
    (λ marks left. (left, refl)) c.send_full.ensures

pub returns : goal.returns
returns g c =
    let q = c.args.read in
    let t : Tries 0 c.args.world.now (request.Page q.filter q.top q.token) (Err c.in-Err.field-0) c.try_request.new.world = rw c.in-Err.is at c.try_request.ensures in
    record { faults_out = omega arith; answers = (t.0, t.1, refl) }
