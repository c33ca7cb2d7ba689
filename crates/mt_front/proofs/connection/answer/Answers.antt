use Rattle.std.proofs.Common.{refl, not}
use Rattle.mt_front.specs.declared.asks.Asked.TheVariants.{Write, Read, Page, Refused, RefusedPart}
use Rattle.mt_front.specs.Refusals.{bad_reply, part_reply}
use Rattle.mt_front.proofs.TurnLaws.{bad_said, says_made, answered_beside}
use Rattle.mt_front.proofs.connection.answer.Goals as goal

pub returns-in-Write : goal.returns-in-Write
returns-in-Write g c =
    let ms = c.args.machines.now in
    rw c.in-Write.is (answered_beside 0 c.args.world.now c.write_rows.new.world ms ms (g.T.Sink.output c.args.sink.now) (g.T.Sink.output c.write_rows.new.sink) (Write c.in-Write.writes) c.args.keep c.write_rows.result refl c.write_rows.ensures)

pub returns-in-Read : goal.returns-in-Read
returns-in-Read g c =
    let ms = c.args.machines.now in
    rw c.in-Read.is (answered_beside 0 c.args.world.now c.read_rows.new.world ms ms (g.T.Sink.output c.args.sink.now) (g.T.Sink.output c.read_rows.new.sink) (Read c.in-Read.read) c.args.keep c.read_rows.result refl c.read_rows.ensures)

pub returns-in-Page : goal.returns-in-Page
returns-in-Page g c =
    let ms = c.args.machines.now in
    rw c.in-Page.is (answered_beside 0 c.args.world.now c.read_page.new.world ms ms (g.T.Sink.output c.args.sink.now) (g.T.Sink.output c.read_page.new.sink) (Page c.in-Page.read) c.args.keep c.read_page.result refl c.read_page.ensures)

pub returns-in-Refused : goal.returns-in-Refused
returns-in-Refused g c =
    let w = c.args.world.now in
    let ms = c.args.machines.now in
    let o = g.T.Sink.output c.args.sink.now in
    let x = g.T.Sink.output c.send_refusal.new.sink in
    let r = c.in-Refused.refusal in
    rw c.in-Refused.is (answered_beside 0 w w ms ms o x (Refused r) c.args.keep c.send_refusal.result refl (bad_said 0 w w o x (Refused r) c.args.keep (bad_reply r (not c.args.keep)) c.send_refusal.result refl refl refl (refl, refl) c.send_refusal.ensures))

pub returns-in-RefusedPart : goal.returns-in-RefusedPart
returns-in-RefusedPart g c =
    let w = c.args.world.now in
    let ms = c.args.machines.now in
    let r = c.in-RefusedPart.bad in
    let o = g.T.Sink.output c.args.sink.now in
    let x = g.T.Sink.output c.send_reply.new.sink in
    rw c.in-RefusedPart.is (answered_beside 0 w w ms ms o x (RefusedPart r) c.args.keep c.send_reply.result refl (bad_said 0 w w o x (RefusedPart r) c.args.keep (part_reply r (not c.args.keep)) c.send_reply.result refl refl refl (refl, refl)
    (says_made o x (part_reply r (not c.args.keep)) c.bad_part.result c.send_reply.result c.bad_part.ensures c.send_reply.ensures)))
